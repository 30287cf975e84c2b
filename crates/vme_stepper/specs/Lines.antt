-- A turn in two halves: the replies of lines without a call are recorded, and the current line makes its call.
use Rattle.std.specs.Prelude.{ℕ, List, [], ◌∷◌, drop, slice_get, slice_set, slice_index_or, is_some, Bool, Option, Some, None}
use Rattle.std.specs.Option.{option_map, option_and_then}
use Rattle.vme_cycle.specs.declared.fault.CycleFault.{CycleFault}
use Rattle.vme_cycle.specs.Lawful.{first_refusal}
use Rattle.vme_core.specs.declared.event.EventReply.{EventReply}
use Rattle.vme_core.specs.Runs.{Machine}
use Rattle.vme_core.specs.Calls.{Call, machine_step}
use Rattle.vme_core.specs.NextSteps.{NextStep, Returns, result_in}
use Rattle.vme_shared.specs.declared.reply.LineReply.{LineReply}
use Rattle.vme_shared.specs.declared.reply.LineReply.TheVariants.{Unfinished}
use Rattle.vme_grammar.specs.declared.line.Line.{Line}
use Rattle.vme_grammar.specs.declared.line.Line.TheVariants.{Bus}
use Rattle.vme_script.specs.Configurations.{Configuration}
use Rattle.vme_line_task.specs.declared.task.LineTask.{LineTask}
use Rattle.vme_line_task.specs.Scripts.{lines_at}
use Rattle.vme_line_task.specs.Machine.{line_advance, line_to_do}
use Rattle.vme_stepper.specs.Steppers.{ProcessorView, StepperView, processor_answered, task_now}

-- the refusal of a line's request over the bus, if it has one
abbrev pub bus_refusal : Line → Option CycleFault
bus_refusal (Bus request) = first_refusal request
bus_refusal line = None

-- a processor with this task at work
abbrev pub processor_at : ProcessorView → LineTask → ProcessorView
processor_at processor task =
    record { script = processor.script; lines = processor.lines; ended = processor.ended; at = Some task }

-- a processor with a task of its next line: if the line has ended its reply is recorded and the lines after it follow,
-- else the task is at work
abbrev pub begun_by : ProcessorView → LineTask → NextStep LineReply → (ProcessorView → ProcessorView) → ProcessorView
begun_by processor task (Returns answer) after = after (processor_answered processor answer)
begun_by processor task next after = processor_at processor task

-- a processor with these lines left, after the replies of lines without a call: the first line with a call is at work
abbrev pub lines_begun : Configuration → ℕ → List Line → ProcessorView → ProcessorView
lines_begun config board [] processor = processor
lines_begun config board (line ∷ lines) processor =
    let task = task_now config board line processor.at in
    begun_by processor task (line_to_do task) (λ now. lines_begun config board lines now)

-- a processor after the replies of lines without a call
abbrev pub processor_begun : Configuration → ℕ → ProcessorView → ProcessorView
processor_begun config board processor = lines_begun config board (drop processor.ended (lines_at config board)) processor

-- a stepper whose processor, if there is one, has recorded the replies of lines without a call
abbrev pub stepper_begun_at : Configuration → StepperView → ℕ → Option ProcessorView → StepperView
stepper_begun_at config stepper board None = stepper
stepper_begun_at config stepper board (Some processor) =
    record { machine = stepper.machine; processors = slice_set stepper.processors board (processor_begun config board processor) }

-- a stepper whose processor of the board at an index has recorded the replies of lines without a call
abbrev pub stepper_begun : Configuration → StepperView → ℕ → StepperView
stepper_begun config stepper board = stepper_begun_at config stepper board (slice_get stepper.processors board)

-- the number and the task of the current line of a processor, if there is one
abbrev pub line_in : ProcessorView → Option (ℕ × LineTask)
line_in processor = option_map (λ task. ((slice_index_or processor.lines processor.ended (0, Unfinished)).0, task)) processor.at

-- the number and the task of the current line of the board at an index, if there is one
abbrev pub line_of : StepperView → ℕ → Option (ℕ × LineTask)
line_of stepper board = option_and_then line_in (slice_get stepper.processors board)

-- the reply to a line's call, and whether the line has ended with it
abbrev pub call_answered : Machine → ℕ → LineTask → Call → EventReply × Bool
call_answered machine board task call =
    let reply = (machine_step machine board call).1 in
    (reply, is_some (result_in (line_to_do (line_advance task (Some reply)))))
