-- Defines the state of a processor's pass, and the calls that the processor makes with it.
use Rattle.std.specs.Prelude.{ℕ, ◌≡◌, ◌<◌, ◌+◌, List, [], ◌∷◌, length, slice_index_or, All}
use mathlib.Core.Option.{some}
use lib.ListN.{get_elem?}
use Rattle.vme_memory.specs.Boards.{Board}
use Rattle.vme_arbiter.specs.Arbitration.{Arbitration}
use Rattle.vme_core.specs.declared.event.Event.{Event}
use Rattle.vme_core.specs.declared.event.EventReply.{EventReply}
use Rattle.vme_core.specs.Calls.{Call, call_of}
use Rattle.vme_core.specs.Runs.{Transition, move}
use Rattle.vme_port.specs.Calls.{Makes}
use Rattle.vme_port_array.specs.Parts.{part}
use Rattle.vme_port_array.specs.Arrays.{IsPassOf, opening, objects_of}
use Rattle.vme_bus_objects.specs.declared.object.BusObject.TheVariants as objects
use Rattle.vme_bus_objects.specs.Runs.{BusEntry, run_of, MatchesKind}
use Rattle.vme_threads.specs.declared.processor_pass.ProcessorPass.{ProcessorPass}
use Rattle.vme_threads.specs.declared.ports.Ports.{Ports}

-- the pass of a processor is its own pass of these ports, whose objects are boards and the arbiter after them; it has
-- counted its calls of each object
pub record MatchesPorts (ports : Ports) (d : ProcessorPass) : Type 0 where
  pub array : IsPassOf ports.array d.pass
  pub who : d.pass.who ≡ d.who
  pub object_count : objects_of ports.array ≡ d.boards + 1
  pub boards : (x : ℕ) → x < d.boards → (memory : Board) × (get_elem? (opening ports.array) x ≡ some (objects.Board memory))
  pub bus : (bus : Arbitration) × (get_elem? (opening ports.array) d.boards ≡ some (objects.Arbiter bus))
  pub made_count : length d.made.items ≡ d.boards + 1
  pub counted : (x n : ℕ) → x < d.boards + 1 → slice_index_or d.made.items x n ≡ length (part x d.pass.mine)

-- the count of each object grew by the number of these entries that are of the object
pub record CountsMore (entries : List BusEntry) (before after : List ℕ) : Type 0 where
  pub count : length after ≡ length before
  pub each : (x n : ℕ) → x < length before → slice_index_or after x n ≡ slice_index_or before x n + length (part x entries)

-- a processor made a run of transitions: its pass made the entries of this run, each of which is of its object's kind,
-- and counted them
pub record AddsTransitions (run : List Transition) (before after : ProcessorPass) : Type 0 where
  pub who : after.who ≡ before.who
  pub boards : after.boards ≡ before.boards
  pub whose : All (λ m. m.who ≡ before.who) run
  pub entries : List BusEntry
  pub run_is : run_of entries ≡ run
  pub kinds : All (MatchesKind before.boards) entries
  pub pass : Makes entries before.pass after.pass
  pub counts : CountsMore entries before.made.items after.made.items

-- a processor made one event that is this call, and got this reply
pub record AddsCall (call : Call) (reply : EventReply) (before after : ProcessorPass) : Type 0 where
  pub event : Event
  pub calls : call_of event ≡ call
  pub made : AddsTransitions (move before.who event reply ∷ []) before after
