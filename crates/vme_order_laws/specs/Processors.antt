-- The processors of a configuration as processes that call the machine.
use Rattle.std.specs.Prelude.{ℕ, List, [], ◌∷◌, ◌++◌, map, Option, Some}
use Rattle.std.specs.Global.{Vec}
use Rattle.vme_object.specs.declared.history.Entry.{Entry}
use Rattle.vme_object.specs.History.{entry}
use Rattle.vme_core.specs.declared.event.EventReply.{EventReply}
use Rattle.vme_core.specs.Runs.{Machine, Transition}
use Rattle.vme_core.specs.Calls.{Call, call_of, machine_step}
use Rattle.vme_core.specs.NextSteps.{NextStep, NotStarted, Invokes, Returns}
use Rattle.vme_shared.specs.declared.reply.LineReply.{LineReply}
use Rattle.vme_grammar.specs.declared.line.Line.{Line}
use Rattle.vme_script.specs.Configurations.{Configuration}
use Rattle.vme_line_task.specs.Tables.{line_next}
use Rattle.vme_line_task.specs.Traces.{ScriptState}
use Rattle.vme_stepper.specs.Turns.{SystemState, script_state, settled, lines_left}
use Rattle.vme_threads.specs.declared.report.Report.{Report}
use Rattle.vme_threads.specs.Rans.{replies_of_lines}
use Rattle.vme_order.specs.Systems.{Next, Calls, Ended, SystemOf, system_of}

-- what a processor does next, by the next step of its current line: the line's call, after whose reply the line goes on
-- or has its own reply; or, once the line has its reply, what `later` states of the lines after it
abbrev pub line_course : Configuration → ℕ → Line → ScriptState → NextStep LineReply
    → (ScriptState → Next Call EventReply ScriptState) → Next Call EventReply ScriptState
line_course config board line c (Invokes call) later =
    Calls call (λ reply. settled c.ended (reply ∷ c.replies) (line_next config board line (reply ∷ c.replies)))
line_course config board line c (Returns answer) later = later (script_state (c.ended ++ answer ∷ []) [])
line_course config board line c NotStarted later = Ended c

-- what a processor with these lines left does next; it has ended if no line is left
abbrev pub lines_course : Configuration → ℕ → List Line → ScriptState → Next Call EventReply ScriptState
lines_course config board [] c = Ended c
lines_course config board (line ∷ lines) c =
    line_course config board line c (line_next config board line c.replies) (lines_course config board lines)

-- what the processor of a board does next, by its script state
abbrev pub processor_course : Configuration → ℕ → ScriptState → Next Call EventReply ScriptState
processor_course config board c = lines_course config board (lines_left config board c) c

-- the machine takes each call
abbrev pub machine_takes : Machine → ℕ → Call → Option (Machine × EventReply)
machine_takes machine who call = Some (machine_step machine who call)

-- the state of the stepper: the machine is its objects, and the script states are those of its processes
abbrev pub stepper_system : SystemState → SystemOf Machine ScriptState
stepper_system s = system_of s.machine s.script_states

-- a run as a history of calls
abbrev pub calls_in : List Transition → List (Entry Call EventReply)
calls_in run = map (λ m. entry m.who (call_of m.event) m.reply) run

-- the replies to all lines, of each processor
abbrev pub answers_in : Report → List (List LineReply)
answers_in report = map (λ (lines : Vec (ℕ × LineReply)). replies_of_lines lines.items) report.lines.items

-- the script states of processors whose lines all have these replies
abbrev pub ended_states : List (List LineReply) → List ScriptState
ended_states answers = map (λ own. script_state own []) answers
