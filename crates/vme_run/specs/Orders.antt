-- One order of the transitions of all processors.
use Rattle.std.specs.Prelude.{ℕ, ◌≡◌, ◌<◌, List, [], ◌∷◌, length, map, slice_get, Some, All}
use Rattle.vme_core.specs.Runs.{Machine, Transition}
use Rattle.vme_core.specs.Calls.{call_of, machine_step}
use Rattle.vme_shared.specs.declared.reply.LineReply.{LineReply}
use Rattle.vme_script.specs.Configurations.{Configuration}
use Rattle.vme_line_task.specs.Scripts.{slot_at, lines_at}
use Rattle.vme_line_task.specs.Traces.{IsTrace}
use Rattle.vme_stepper.specs.Turns.{SystemState, script_state, initial_state}
use Rattle.vme_stepper.specs.Reports.{texts_of_system}
use Rattle.vme_threads.specs.declared.report.Report.{Report}
use Rattle.vme_threads.specs.ReportTexts.{texts_of_report}
use Rattle.vme_bus_objects.specs.Runs.{transitions_of}

-- the machine makes these transitions, one after another, and is then `after`: each reply is that of the machine to the
-- call at its place
abbrev pub Performs : Machine → List Transition → Machine → Type 0
Performs machine [] after = machine ≡ after
Performs machine (m ∷ run) after =
    (m.reply ≡ (machine_step machine m.who (call_of m.event)).1)
    × Performs (machine_step machine m.who (call_of m.event)).0 run after

-- the machine after the calls of transitions, from a state on; it ignores the replies of the transitions
abbrev pub performed : Machine → List Transition → Machine
performed machine [] = machine
performed machine (m ∷ run) = performed (machine_step machine m.who (call_of m.event)).0 run

-- the machine after the calls of transitions, from its state before the first turn on
abbrev pub machine_after : Configuration → List Transition → Machine
machine_after config run = performed (initial_state config).machine run

-- the slot of the processor of each transition, in order
abbrev pub slots_of : Configuration → List Transition → List ℕ
slots_of config run = map (λ m. slot_at config m.who) run

-- the transitions of all processors are one run of the machine from its initial state to `machine`; those of each
-- processor are the trace of its script, with these replies to its lines
pub record IsOneOrder (config : Configuration) (run : List Transition) (answers : List (List LineReply)) (machine : Machine)
    : Type 0 where
  pub known : All (λ m. m.who < length config.boards) run
  pub performed : Performs (initial_state config).machine run machine
  pub count : length answers ≡ length config.boards
  pub traces :
      (b : ℕ) (own : List LineReply) → slice_get answers b ≡ Some own
      → IsTrace config b (lines_at config b) (transitions_of b run) own

-- the state of a system with this machine, in which each line has its reply and no line is in progress
abbrev pub ended_state : Machine → List (List LineReply) → SystemState
ended_state machine answers = record { machine = machine; script_states = map (λ own. script_state own []) answers }

-- a report has what a system is in a state: the replies, the memory and the counts of each board, and the arbiter's counts
pub record IsReportOfState (config : Configuration) (report : Report) (state : SystemState) : Type 0 where
  pub boards : texts_of_report report ≡ texts_of_system config state
  pub arbiter_steps : report.arbiter_steps ≡ state.machine.bus.steps
  pub arbiter_made : report.arbiter_made.items ≡ state.machine.bus.made
