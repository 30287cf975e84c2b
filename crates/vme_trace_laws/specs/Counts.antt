-- How many events are shown on each object.
use Rattle.std.specs.Prelude.{ℕ, ◌+◌, Bool, true, false, ◌==◌}
use Rattle.std.specs.List.{sum_by}
use Rattle.vme_core.specs.declared.event.Target.{Target}
use Rattle.vme_core.specs.declared.event.Target.TheVariants as at
use Rattle.vme_core.specs.Runs.{Machine}
use Rattle.vme_trace.specs.declared.observation.activity.Activity.{Activity}
use Rattle.vme_trace.specs.declared.observation.activity.Activity.TheVariants.{Requests, Polls, Releases, Transfers, Local}
use Rattle.vme_trace.specs.declared.observation.Observation.{Observation}

-- whether what the processor of a board is shown to do is on an object: on the arbiter, on the board that a transfer
-- selects, or on its own board by the local port
abbrev pub is_on : ℕ → Activity → Target → Bool
is_on own Requests at.Bus = true
is_on own Polls at.Bus = true
is_on own (Releases signals) at.Bus = true
is_on own (Transfers datum) (at.Board board) = datum.board == board
is_on own (Local cmd) (at.Board board) = own == board
is_on own activity target = false

-- whether an event is shown on an object
abbrev pub is_shown_on : Target → Observation → Bool
is_shown_on target o = is_on o.board o.activity target

-- the steps of all objects
abbrev pub all_steps : Machine → ℕ
all_steps machine = machine.bus.steps + sum_by (λ board. board.steps) machine.boards
