-- The trace of a processor through its script, as a list of transitions.
use Rattle.std.specs.Prelude.{ℕ, ◌≡◌, List, [], ◌∷◌, ◌++◌}
use Rattle.vme_core.specs.declared.event.EventReply.{EventReply}
use Rattle.vme_core.specs.Calls.{call_of}
use Rattle.vme_core.specs.Runs.{Transition}
use Rattle.vme_core.specs.NextSteps.{Invokes, Returns}
use Rattle.vme_shared.specs.declared.reply.LineReply.{LineReply}
use Rattle.vme_grammar.specs.declared.line.Line.{Line}
use Rattle.vme_script.specs.Configurations.{Configuration}
use Rattle.vme_line_task.specs.Scripts.{lines_at}
use Rattle.vme_line_task.specs.Tables.{line_next}

-- a line continues by transitions, from the replies before them to all replies, the newest first: each transition is
-- the line's next call with the reply to it
abbrev pub Continues : Configuration → ℕ → Line → List EventReply → List Transition → List EventReply → Type 0
Continues config board line before [] replies = before ≡ replies
Continues config board line before (m ∷ moves) replies =
    (line_next config board line before ≡ Invokes (call_of m.event))
    × Continues config board line (m.reply ∷ before) moves replies

-- the trace of a line: these transitions are all its calls, and the last reply leads to the line's reply
pub record LineTrace (config : Configuration) (board : ℕ) (line : Line) (moves : List Transition)
    (answer : LineReply) : Type 0 where
  pub replies : List EventReply
  pub goes : Continues config board line [] moves replies
  pub ends : line_next config board line replies ≡ Returns answer

-- the trace of lines, one after another
abbrev pub IsTrace : Configuration → ℕ → List Line → List Transition → List LineReply → Type 0
IsTrace config board [] moves [] = moves ≡ []
IsTrace config board (line ∷ lines) moves (answer ∷ answers) =
    (first : List Transition) × (rest : List Transition) × (moves ≡ first ++ rest) × LineTrace config board line first answer
    × IsTrace config board lines rest answers
IsTrace config board lines moves answers = ⊥

-- how far a processor has come in its script: the replies of the lines that have ended, and the replies so far to the
-- next line's calls, the newest first
pub record ScriptState : Type 0 where
  pub ended : List LineReply
  pub replies : List EventReply

-- the transitions of the next line so far, with the replies to its calls; none if no line is left
abbrev pub IsNextLinePrefix : Configuration → ℕ → List Line → List Transition → List EventReply → Type 0
IsNextLinePrefix config board [] moves replies = (moves ≡ []) × (replies ≡ [])
IsNextLinePrefix config board (line ∷ left) moves replies = Continues config board line [] moves replies

-- the transitions of a processor up to a script state: the first of them are the trace of the lines that have ended,
-- and the rest are those of the next line
pub record IsTracePrefix (config : Configuration) (board : ℕ) (moves : List Transition)
    (script_state : ScriptState) : Type 0 where
  pub finished : List Line
  pub left : List Line
  pub lines : lines_at config board ≡ finished ++ left
  pub done : List Transition
  pub rest : List Transition
  pub whole : moves ≡ done ++ rest
  pub over : IsTrace config board finished done script_state.ended
  pub work : IsNextLinePrefix config board left rest script_state.replies
