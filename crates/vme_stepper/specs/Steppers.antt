-- The state of the stepper, with tasks in place of replies, and its turns, for this crate's own functions.
use Rattle.std.specs.Prelude.{ℕ, ◌≡◌, ◌+◌, ◌<◌, ◌≤◌, List, [], ◌∷◌, length, drop, slice_get, slice_set, slice_index_or, Option, Some, None, IfSome}
use Rattle.vme_cycle.specs.BlockBuffers.{BufferView}
use Rattle.vme_memory.specs.Boards.{Board}
use Rattle.vme_core.specs.declared.event.EventReply.{EventReply}
use Rattle.vme_core.specs.CountedStates.{CountedState}
use Rattle.vme_core.specs.Runs.{Machine}
use Rattle.vme_core.specs.Calls.{Call, machine_step}
use Rattle.vme_core.specs.Machines.{process_count}
use Rattle.vme_core.specs.NextSteps.{NextStep, Invokes, Returns, MakesCall}
use Rattle.vme_shared.specs.declared.reply.LineReply.{LineReply}
use Rattle.vme_grammar.specs.declared.line.Line.{Line}
use Rattle.vme_report.specs.Boards.{BoardText}
use Rattle.vme_script.specs.declared.board.BoardConfig.{BoardConfig}
use Rattle.vme_script.specs.declared.script.ScriptLine.{ScriptLine}
use Rattle.vme_script.specs.Configurations.{Configuration}
use Rattle.vme_line_task.specs.declared.task.LineTask.{LineTask}
use Rattle.vme_line_task.specs.Scripts.{lines_at, script_at}
use Rattle.vme_line_task.specs.ReadBuffers.{buffers_of}
use Rattle.vme_line_task.specs.Machine.{line_started, line_advance, line_to_do, line_after, IsLineBelow}
use Rattle.vme_line_task.specs.Traces.{ScriptState}
use Rattle.vme_stepper.specs.Reports.{numbered_replies}
use Rattle.vme_stepper.specs.Turns.{SystemState, lines_left}

-- a processor in the stepper: its script, the report's lines, how many have ended, and the task of the current line, if
-- it has started
pub record ProcessorView : Type 0 where
  pub script : List ScriptLine
  pub lines : List (ℕ × LineReply)
  pub ended : ℕ
  pub at : Option LineTask

-- the number of lines that have started
abbrev pub begun_lines : ℕ → Option LineTask → ℕ
begun_lines ended None = ended
begun_lines ended (Some task) = ended + 1

-- a line that has started has a call to make, and each line that has not started has its buffer
pub record IsSoundProcessor (script : List ScriptLine) (lines : List (ℕ × LineReply)) (ended : ℕ) (at : Option LineTask)
    (buffers : List BufferView) : Type 0 where
  pub work : IfSome at (λ task. (ended < length lines) × MakesCall (line_to_do task))
  pub left : buffers ≡ drop (begun_lines ended at) (buffers_of script)

-- boards and arbiter, and the processor of each board
pub record StepperView : Type 0 where
  pub machine : Machine
  pub processors : List ProcessorView

-- a processor after the reply of its next line was recorded
abbrev pub processor_answered : ProcessorView → LineReply → ProcessorView
processor_answered processor answer = record {
  script = processor.script;
  lines = slice_set processor.lines processor.ended ((slice_index_or processor.lines processor.ended (0, answer)).0, answer);
  ended = processor.ended + 1;
  at = None;
}

-- a processor with a task of its current line: if the line has ended its reply is recorded, else the task is kept
abbrev pub processor_settled : ProcessorView → LineTask → NextStep LineReply → ProcessorView
processor_settled processor task (Returns answer) = processor_answered processor answer
processor_settled processor task next =
    record { script = processor.script; lines = processor.lines; ended = processor.ended; at = Some task }

-- a task of the next line makes its call and advances by the reply
abbrev pub processor_called : Machine → ℕ → ProcessorView → LineTask → Call → Machine × ProcessorView
processor_called machine board processor task call =
    let step = machine_step machine board call in
    let next = line_advance task (Some step.1) in
    (step.0, processor_settled processor next (line_to_do next))

-- a turn by the next step of a task: it makes its call, or the reply of its line is recorded and the next lines go on
abbrev pub processor_turn_by : Machine → ℕ → ProcessorView → LineTask → NextStep LineReply
    → (ProcessorView → Machine × ProcessorView) → Machine × ProcessorView
processor_turn_by machine board processor task (Invokes call) after = processor_called machine board processor task call
processor_turn_by machine board processor task (Returns answer) after = after (processor_answered processor answer)
processor_turn_by machine board processor task next after = (machine, processor)

-- the task of a line that has started and has no reply yet
abbrev pub line_begun : Configuration → ℕ → Line → LineTask
line_begun config board line = line_advance (line_started config board line) None

-- the current task, or that of a line that starts
abbrev pub task_now : Configuration → ℕ → Line → Option LineTask → LineTask
task_now config board line (Some task) = task
task_now config board line None = line_begun config board line

-- a turn of a processor with these lines left
abbrev pub lines_turn : Configuration → ℕ → List Line → Machine → ProcessorView → Machine × ProcessorView
lines_turn config board [] machine processor = (machine, processor)
lines_turn config board (line ∷ lines) machine processor =
    let task = task_now config board line processor.at in
    processor_turn_by machine board processor task (line_to_do task) (λ now. lines_turn config board lines machine now)

-- a turn of a processor
abbrev pub processor_turn : Configuration → ℕ → Machine → ProcessorView → Machine × ProcessorView
processor_turn config board machine processor =
    lines_turn config board (drop processor.ended (lines_at config board)) machine processor

-- a turn of a processor in the stepper, if there is one
abbrev pub stepper_turned : Configuration → StepperView → ℕ → Option ProcessorView → StepperView
stepper_turned config stepper board None = stepper
stepper_turned config stepper board (Some processor) =
    let next = processor_turn config board stepper.machine processor in
    record { machine = next.0; processors = slice_set stepper.processors board next.1 }

-- a turn of the processor of the board at an index
abbrev pub stepper_turn : Configuration → StepperView → ℕ → StepperView
stepper_turn config stepper board = stepper_turned config stepper board (slice_get stepper.processors board)

-- a turn at the index of a board, if there is one
abbrev pub stepper_turn_at : Configuration → StepperView → Option ℕ → StepperView
stepper_turn_at config stepper None = stepper
stepper_turn_at config stepper (Some board) = stepper_turn config stepper board

-- the report's entries for boards, by their processors
abbrev pub texts_of_processors : List BoardConfig → List ProcessorView → List (CountedState Board) → List BoardText
texts_of_processors (board ∷ boards) (processor ∷ processors) (counted ∷ counted_states) =
    record {
      slot = board.slot;
      lines = processor.lines;
      bytes = counted.object.bytes;
      steps = counted.steps;
      made = counted.made;
    }
    ∷ texts_of_processors boards processors counted_states
texts_of_processors boards processors counted_states = []

-- the task of the first of these lines, if a call of it has a reply
abbrev pub task_at : Configuration → ℕ → List EventReply → List Line → Option LineTask
task_at config board [] lines = None
task_at config board (reply ∷ replies) [] = None
task_at config board (reply ∷ replies) (line ∷ lines) = Some (line_after config board line (reply ∷ replies))

-- the stepper's processor of a script state
abbrev pub processor_of : Configuration → ℕ → ScriptState → ProcessorView
processor_of config board c = record {
  script = script_at config board;
  lines = numbered_replies (script_at config board) c.ended;
  ended = length c.ended;
  at = task_at config board c.replies (lines_left config board c);
}

-- the stepper's processors of script states, of the boards from an index on
abbrev pub processors_from : Configuration → ℕ → List ScriptState → List ProcessorView
processors_from config board [] = []
processors_from config board (c ∷ script_states) = processor_of config board c ∷ processors_from config (board + 1) script_states

-- the stepper of a system
abbrev pub stepper_of : Configuration → SystemState → StepperView
stepper_of config system = record { machine = system.machine; processors = processors_from config 0 system.script_states }

-- a processor has the script of its board and an entry for each line of it, and its current line calls only boards of
-- the configuration
pub record IsProcessorOf (config : Configuration) (board : ℕ) (processor : ProcessorView) : Type 0 where
  pub script : processor.script ≡ script_at config board
  pub lines : length processor.lines ≡ length (lines_at config board)
  pub below : IfSome processor.at (IsLineBelow (length config.boards))

-- a stepper has as many boards, counts and processors as the configuration has boards, and each processor is its
-- board's
pub record IsStepperOf (config : Configuration) (stepper : StepperView) : Type 0 where
  pub boards : length stepper.machine.boards ≡ length config.boards
  pub process_count : process_count stepper.machine ≡ length config.boards
  pub count : length stepper.processors ≡ length config.boards
  pub each : (b : ℕ) (processor : ProcessorView) → slice_get stepper.processors b ≡ Some processor
      → IsProcessorOf config b processor

-- no object has made more than n steps
pub record StepsWithin (n : ℕ) (machine : Machine) : Type 0 where
  pub boards : (b : ℕ) (counted : CountedState Board) → slice_get machine.boards b ≡ Some counted → counted.steps ≤ n
  pub bus : machine.bus.steps ≤ n
