-- A settled port array of a backplane: the boards in order, and the arbiter after them.
use Rattle.std.specs.Prelude.{ℕ, ◌≡◌, ◌<◌, List, [], ◌∷◌, ◌++◌, length, map, slice_get, Some, All}
use mathlib.Core.Option.{some}
use lib.ListN.{get_elem?}
use Rattle.vme_object.specs.History.{replay, IsLegal}
use Rattle.vme_memory.specs.Locals.{board_step}
use Rattle.vme_arbiter.specs.Arbitration.{opening_bus, arbiter_step}
use Rattle.vme_core.specs.declared.event.EventReply.{EventReply}
use Rattle.vme_core.specs.Runs.{Transition, IsReplyTo, board_part, bus_part}
use Rattle.vme_script.specs.declared.board.BoardConfig.{BoardConfig}
use Rattle.vme_script.specs.Configurations.{Configuration, opening_memory}
use Rattle.vme_line_task.specs.Events.{IsEventBelow}
use Rattle.vme_port_array.specs.declared.indexed.Indexed.{Indexed}
use Rattle.vme_port.specs.declared.home.Home.{Home}
use Rattle.vme_port.specs.Passes.{PassView}
use Rattle.vme_port_array.specs.Settlements.{Settles}
use Rattle.vme_bus_objects.specs.declared.object.BusObject.{BusObject}
use Rattle.vme_bus_objects.specs.declared.object.BusObject.TheVariants as objects
use Rattle.vme_bus_objects.specs.declared.command.BusCommand.{BusCommand}
use Rattle.vme_bus_objects.specs.Objects.{bus_object_step}
use Rattle.vme_bus_objects.specs.Runs.{MatchesKind, run_of, transitions_of}

-- a pass of a port array of boards and their arbiter
abbrev pub BusPass : Type 0
BusPass = PassView (Indexed BusCommand) EventReply

-- the objects of a configuration before the first step: boards with zero memory, and the arbiter of a free bus
abbrev pub opening_objects : Configuration → List BusObject
opening_objects config =
    map (λ own. objects.Board (opening_memory own)) config.boards ++ objects.Arbiter (opening_bus config.arbiter) ∷ []

-- a port array of the opening objects was settled with one pass for each processor, and each command and reply of a pass
-- had its object's kind
pub record IsSettled (config : Configuration) (passes : List BusPass) (homes : List (Home BusObject)) : Type 0 where
  pub settles : Settles bus_object_step (opening_objects config) (length config.boards) passes homes
  pub kinds : All (λ p. All (MatchesKind (length config.boards)) p.mine) passes

-- the run of a settled port array, by known processors on known boards: each board, and the arbiter, is the replay of its
-- legal part of the run and has that part's length as its count; the transitions of each processor are those of its pass
pub record IsRunOfArray (config : Configuration) (passes : List BusPass) (homes : List (Home BusObject)) (run : List Transition) :
    Type 0 where
  pub known : All (λ m. m.who < length config.boards) run
  pub fitting : All (λ m. IsReplyTo m.event m.reply) run
  pub within : All (λ m. IsEventBelow (length config.boards) m.event) run
  pub boards :
      (x : ℕ) (own : BoardConfig) (home : Home BusObject) → slice_get config.boards x ≡ Some own → get_elem? homes x ≡ some home
      → IsLegal board_step (opening_memory own) (board_part x run)
      × (home.object ≡ objects.Board (replay board_step (opening_memory own) (board_part x run)))
      × (home.count ≡ length (board_part x run))
  pub bus :
      (home : Home BusObject) → get_elem? homes (length config.boards) ≡ some home
      → IsLegal arbiter_step (opening_bus config.arbiter) (bus_part run)
      × (home.object ≡ objects.Arbiter (replay arbiter_step (opening_bus config.arbiter) (bus_part run)))
      × (home.count ≡ length (bus_part run))
  pub made : All (λ p. transitions_of p.who run ≡ run_of p.mine) passes
