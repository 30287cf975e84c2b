-- What the turns of a run did, one after another.
use Rattle.std.specs.Prelude.{ℕ, List, [], ◌∷◌, ◌++◌, is_some, Option, Some, None}
use Rattle.std.specs.Option.{option_to_list}
use Rattle.vme_core.specs.Runs.{Machine}
use Rattle.vme_core.specs.Calls.{Call, machine_step}
use Rattle.vme_core.specs.NextSteps.{NextStep, Invokes, result_in}
use Rattle.vme_shared.specs.declared.reply.LineReply.{LineReply}
use Rattle.vme_script.specs.Configurations.{Configuration}
use Rattle.vme_line_task.specs.declared.task.LineTask.{LineTask}
use Rattle.vme_line_task.specs.Scripts.{slot_at, level_at}
use Rattle.vme_line_task.specs.Machine.{line_advance, line_to_do}
use Rattle.vme_stepper.specs.Turns.{board_in_slot, initial_state}
use Rattle.vme_stepper.specs.Steppers.{StepperView, stepper_turn_at, stepper_of}
use Rattle.vme_stepper.specs.Lines.{stepper_begun, line_of}
use Rattle.vme_trace.specs.declared.observation.Observation.{Observation}
use Rattle.vme_trace.specs.Activities.{activity_of}
use Rattle.vme_trace.specs.Grants.{grant_of}

-- what a line's call did, by the machine before it
abbrev pub call_observed : Configuration → Machine → ℕ → ℕ × LineTask → Call → Observation
call_observed config machine board line call =
    let step = machine_step machine board call in
    record {
      board = board;
      slot = slot_at config board;
      level = level_at config board;
      line = line.0;
      activity = activity_of line.1 call;
      reply = step.1;
      ended = is_some (result_in (line_to_do (line_advance line.1 (Some step.1))));
      grant = grant_of config (activity_of line.1 call) step.1 step.0.bus.object;
    }

-- what a line does next, if it makes a call
abbrev pub observed_by : Configuration → Machine → ℕ → ℕ × LineTask → NextStep LineReply → Option Observation
observed_by config machine board line (Invokes call) = Some (call_observed config machine board line call)
observed_by config machine board line next = None

-- what the current line does next, if there is one
abbrev pub line_observed : Configuration → Machine → ℕ → Option (ℕ × LineTask) → Option Observation
line_observed config machine board None = None
line_observed config machine board (Some line) = observed_by config machine board line (line_to_do line.1)

-- what a turn of a board's processor does; nothing if it has no line left that makes a call
abbrev pub observed : Configuration → StepperView → ℕ → Option Observation
observed config stepper board = line_observed config stepper.machine board (line_of (stepper_begun config stepper board) board)

-- the same at the index of a board, if there is one
abbrev pub observed_at : Configuration → StepperView → Option ℕ → Option Observation
observed_at config stepper None = None
observed_at config stepper (Some board) = observed config stepper board

-- what turns of slots do, one after another, from a state of the stepper on
abbrev pub observed_from : Configuration → StepperView → List ℕ → List Observation
observed_from config stepper [] = []
observed_from config stepper (slot ∷ slots) =
    option_to_list (observed_at config stepper (board_in_slot config slot))
    ++ observed_from config (stepper_turn_at config stepper (board_in_slot config slot)) slots

-- what turns of slots do, from the start
unfoldable pub observations : Configuration → List ℕ → List Observation
observations config slots = observed_from config (stepper_of config (initial_state config)) slots
