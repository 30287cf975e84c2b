-- The observable state of a machine, and the effect of a list of events on it.
use Rattle.std.specs.Prelude.{ℕ, ◌≡◌, ◌<◌, ◌-◌, ◌^◌, List, ◌++◌, length, map, take, slice_get, Option, Some, MatchOption, Result, Ok, Err}
use Rattle.std.specs.Option.{option_and_then}
use Rattle.vme_memory.specs.Boards.{Board}
use Rattle.vme_arbiter.specs.Arbitration.{Arbitration}
use Rattle.vme_core.specs.declared.event.Event.{Event}
use Rattle.vme_core.specs.declared.event.EventReply.{EventReply}
use Rattle.vme_core.specs.declared.event.Target.{Target}
use Rattle.vme_core.specs.declared.event.Target.TheVariants as at
use Rattle.vme_core.specs.declared.fault.RunStop.{RunStop}
use Rattle.vme_core.specs.declared.fault.RunStop.TheVariants as stops
use Rattle.vme_core.specs.CountedStates.{fresh_count}
use Rattle.vme_core.specs.Runs.{Machine, Transition, IsRun, target_of, events_in, replies_in}

-- boards with these memories and the arbiter of this bus, before the first step, for k processors
abbrev pub opening : List Board → Arbitration → ℕ → Machine
opening memories bus k = record { boards = map (fresh_count k) memories; bus = fresh_count k bus }

-- the number of processors of a machine
abbrev pub process_count : Machine → ℕ
process_count machine = length machine.bus.made

-- a board with this index exists; the arbiter always exists
abbrev pub IsThere : Machine → Target → Type 0
IsThere machine (at.Board board) = board < length machine.boards
IsThere machine at.Bus = Unit {0}

-- the number of steps of an object, if it exists
abbrev pub steps_of : Machine → Target → Option ℕ
steps_of machine (at.Board board) = slice_get (map (λ b. b.steps) machine.boards) board
steps_of machine at.Bus = Some machine.bus.steps

-- the number of steps of each processor on an object, if it exists
abbrev pub counts_of : Machine → Target → Option (List ℕ)
counts_of machine (at.Board board) = slice_get (map (λ b. b.made) machine.boards) board
counts_of machine at.Bus = Some machine.bus.made

-- the number of steps of a processor on an object, if both exist
abbrev pub made_of : Machine → ℕ → Target → Option ℕ
made_of machine who target = option_and_then (λ made. slice_get made who) (counts_of machine target)

-- events were performed as a run, and their replies were appended
pub record HasApplied (events : List (ℕ × Event)) (before after : Machine) (old new : List EventReply) : Type 0 where
  pub run : List Transition
  pub asked : events_in run ≡ events
  pub replies_appended : new ≡ old ++ replies_in run
  pub did : IsRun run before after

-- the number of performed events by the result: all; none; or those before one whose object can count no further step
abbrev pub Ends : Result (Unit {0}) RunStop → Machine → ℕ → List (ℕ × Event) → Type 0
Ends (Ok all) after done events = done ≡ length events
Ends (Err stops.OutOfMemory) after done events = done ≡ 0
Ends (Err stops.Spent) after done events =
    MatchOption (slice_get events done) ⊥ (λ e. steps_of after (target_of e.1) ≡ Some (2 ^ 64 - 1))

-- the first of the events were performed, as many as the result states
pub record HasRun (events : List (ℕ × Event)) (before after : Machine) (old new : List EventReply)
    (result : Result (Unit {0}) RunStop) : Type 0 where
  pub done : ℕ
  pub has : HasApplied (take done events) before after old new
  pub ends : Ends result after done events
