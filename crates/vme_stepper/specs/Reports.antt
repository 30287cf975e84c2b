-- The report of a run on one thread.
use Rattle.std.specs.Prelude.{ℕ, List, [], ◌∷◌}
use Rattle.vme_memory.specs.Boards.{Board}
use Rattle.vme_core.specs.CountedStates.{CountedState}
use Rattle.vme_shared.specs.declared.reply.LineReply.{LineReply}
use Rattle.vme_shared.specs.declared.reply.LineReply.TheVariants.{Unfinished}
use Rattle.vme_shared.specs.declared.status.Status.{Status}
use Rattle.vme_report.specs.Boards.{BoardText}
use Rattle.vme_report.specs.Reports.{report_text, report_status}
use Rattle.vme_script.specs.declared.board.BoardConfig.{BoardConfig}
use Rattle.vme_script.specs.declared.script.ScriptLine.{ScriptLine}
use Rattle.vme_script.specs.Configurations.{Configuration}
use Rattle.vme_line_task.specs.Traces.{ScriptState}
use Rattle.vme_stepper.specs.Turns.{SystemState, state_after}

-- the numbers of a script's lines, each with its reply; a line without one is unfinished
abbrev pub numbered_replies : List ScriptLine → List LineReply → List (ℕ × LineReply)
numbered_replies [] ended = []
numbered_replies (line ∷ script) [] = (line.number, Unfinished) ∷ numbered_replies script []
numbered_replies (line ∷ script) (answer ∷ ended) = (line.number, answer) ∷ numbered_replies script ended

-- the report's entry for a board
abbrev pub text_of_board : BoardConfig → List ScriptLine → ScriptState → CountedState Board → BoardText
text_of_board board script c counted = record {
  slot = board.slot;
  lines = numbered_replies script c.ended;
  bytes = counted.object.bytes;
  steps = counted.steps;
  made = counted.made;
}

-- the report's entries for boards, in order of slots
abbrev pub texts_of_boards : List BoardConfig → List (List ScriptLine) → List ScriptState → List (CountedState Board)
    → List BoardText
texts_of_boards (board ∷ boards) (script ∷ scripts) (c ∷ script_states) (counted ∷ counted_states) =
    text_of_board board script c counted ∷ texts_of_boards boards scripts script_states counted_states
texts_of_boards boards scripts script_states counted_states = []

-- the report's entries for a system
abbrev pub texts_of_system : Configuration → SystemState → List BoardText
texts_of_system config system = texts_of_boards config.boards config.scripts system.script_states system.machine.boards

-- the text of the report after turns of these slots
abbrev pub run_text : Configuration → List ℕ → List ℕ
run_text config slots = report_text (texts_of_system config (state_after config slots))

-- the status after turns of these slots: Clean if each reply is a success
abbrev pub run_status : Configuration → List ℕ → Status
run_status config slots = report_status (texts_of_system config (state_after config slots))
