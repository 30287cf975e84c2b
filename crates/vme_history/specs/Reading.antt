-- The text of a log: what each of its lines says, `SLOT LINE -> REPLY`.
use Rattle.std.specs.Prelude.{◌≡◌, ℕ, ◌+◌, ◌-◌, ◌^◌, min, Bool, false, not, ◌==◌, ◌&&◌, if◌then◌else◌, List, [], ◌∷◌, ◌++◌, length, map, replicate, take, drop, codes, slice_get, slice_set, Option, Some, None, Result, Ok, Err, is_some}
use Rattle.std.specs.List.{list_all, position}
use Rattle.std.specs.Option.{option_and_then}
use Rattle.std.specs.Str.{bytes_eq}
use Rattle.std.specs.Str.Lines.{lines}
use Rattle.vme_lexer.specs.Numbers.{decimal_number}
use Rattle.vme_lexer.specs.Words.{words_of}
use Rattle.vme_grammar.specs.declared.fault.LineFault.{LineFault}
use Rattle.vme_grammar.specs.declared.line.Line.{Line}
use Rattle.vme_grammar.specs.Grammar.{line_of}
use Rattle.vme_script.specs.declared.context.ScriptContext.{ScriptContext}
use Rattle.vme_script.specs.Boards.{entries_of}
use Rattle.vme_script.specs.Configurations.{Configuration}
use Rattle.vme_script.specs.Contexts.{refusal_of}
use Rattle.vme_script.specs.Scripts.{rules_of}
use Rattle.vme_history.specs.declared.fault.LogFault.{LogFault}
use Rattle.vme_history.specs.declared.fault.LogFault.TheVariants as faults
use Rattle.vme_history.specs.declared.fault.LogProblem.{LogProblem}
use Rattle.vme_history.specs.declared.fault.LogProblem.TheVariants.{NoReply, NoBoard, Nothing, Refused, Several}
use Rattle.vme_history.specs.Logs.{RecordedView, LogView, accesses_once}
use Rattle.vme_history.specs.Histories.{lines_of}

-- a log with one more line of a board's processor
abbrev pub with_line : LogView → ℕ → RecordedView → LogView
with_line log board one = record log { lines = slice_set log.lines board (lines_of log board ++ one ∷ []) }

-- what follows a mark, if a text begins with it
abbrev pub after_mark : List ℕ → List ℕ → Option (List ℕ)
after_mark mark text = if bytes_eq (take (length mark) text) mark then Some (drop (length mark) text) else None

-- the parts of a text before and after a mark that stands at some place, if it does; else at a later one
abbrev pub cut_here : List ℕ → Option (List ℕ) → Option (List ℕ × List ℕ) → Option (List ℕ × List ℕ)
cut_here before None later = later
cut_here before (Some after) later = Some (before, after)

-- the parts of a text before and after the first place at which a mark stands, from some place on
abbrev pub cut_from : List ℕ → List ℕ → List ℕ → Option (List ℕ × List ℕ)
cut_from before mark [] = None
cut_from before mark (b ∷ text) =
    cut_here before (after_mark mark (b ∷ text)) (cut_from (before ++ b ∷ []) mark text)

-- the parts of a text before and after the first place at which a mark stands
abbrev pub cut_at : List ℕ → List ℕ → Option (List ℕ × List ℕ)
cut_at mark text = cut_from [] mark text

-- whether the bytes at the ends of a text are there and are no spaces
abbrev pub are_words : Option ℕ → Option ℕ → Bool
are_words None last = false
are_words (Some first) None = false
are_words (Some first) (Some last) = not (first == 32) && not (last == 32)

-- whether a text has a byte, and no space at its ends
abbrev pub is_trimmed : List ℕ → Bool
is_trimmed text = are_words (slice_get text 0) (slice_get text (length text - 1))

-- the index of the board whose slot a word spells in one or two decimal digits
abbrev pub board_named : Configuration → List ℕ → Option ℕ
board_named config word =
    option_and_then (λ slot. position (λ board. board.slot == slot) config.boards) (decimal_number 2 word)

-- a line, unless its context refuses it
abbrev pub unless_refused : Option LineFault → Line → Result Line LogProblem
unless_refused None line = Ok line
unless_refused (Some fault) line = Err (Refused fault)

-- a line that was read, if it accesses a board at most once, and its context does not refuse it
abbrev pub once_within : ScriptContext → Result (Option Line) LineFault → Result Line LogProblem
once_within rules (Ok None) = Err Nothing
once_within rules (Ok (Some line)) =
    if accesses_once line then unless_refused (refusal_of rules line) line else Err Several
once_within rules (Err fault) = Err (Refused fault)

-- a text as a line of the script of a board's processor
unfoldable pub line_said : Configuration → ℕ → List ℕ → Result Line LogProblem
line_said config board text =
    once_within (rules_of (entries_of config.boards) config.mailboxes board) (line_of text)

-- the index of a board, and a line of its processor with its reply
abbrev pub recorded : ℕ → List ℕ → Result Line LogProblem → Result (ℕ × RecordedView) LogProblem
recorded board reply (Ok line) = Ok (board, record { line = line; reply = reply })
recorded board reply (Err problem) = Err problem

-- a text of a board's processor, if there is a board, with its reply
abbrev pub said_of : Configuration → List ℕ → List ℕ → Option ℕ → Result (ℕ × RecordedView) LogProblem
said_of config reply text None = Err NoBoard
said_of config reply text (Some board) = recorded board reply (line_said config board text)

-- a slot and the text after it, with the reply
abbrev pub said_after : Configuration → List ℕ → Option (List ℕ × List ℕ) → Result (ℕ × RecordedView) LogProblem
said_after config reply None = Err NoBoard
said_after config reply (Some parts) = said_of config reply parts.1 (board_named config parts.0)

-- the parts of a line before and after its arrow
abbrev pub said_by : Configuration → Option (List ℕ × List ℕ) → Result (ℕ × RecordedView) LogProblem
said_by config None = Err NoReply
said_by config (Some parts) =
    if is_trimmed parts.1 then said_after config parts.1 (cut_at (codes " ") parts.0) else Err NoReply

-- what a line of a log says, or what is wrong with it
unfoldable pub entry_of : Configuration → List ℕ → Result (ℕ × RecordedView) LogProblem
entry_of config text = said_by config (cut_at (codes " -> ") text)

-- whether a line has words, and is no comment
abbrev pub has_words : List ℕ → Bool
has_words line = is_some (slice_get (words_of line) 0)

-- a log with what a line with a number says, or that number and what is wrong with the line
abbrev pub log_with : LogView → ℕ → Result (ℕ × RecordedView) LogProblem → Result LogView (ℕ × LogProblem)
log_with log number (Ok said) = Ok (with_line log said.0 said.1)
log_with log number (Err problem) = Err (number, problem)

-- a log with what a line of its text with a number says; one without words says nothing
abbrev pub log_after : LogView → ℕ → List ℕ → Result LogView (ℕ × LogProblem)
log_after log number line = if has_words line then log_with log number (entry_of log.config line) else Ok log

-- the number of the line after one with a number, up to the greatest
abbrev pub number_after : ℕ → ℕ
number_after number = min (number + 1) (2 ^ 64 - 1)

-- a log after the lines of a text from one on, of which the line before has a number; or the number of the first line that is
-- none of a log, and what is wrong with it
abbrev pub log_from : Result LogView (ℕ × LogProblem) → ℕ → List (List ℕ) → Result LogView (ℕ × LogProblem)
log_from (Err fault) number rest = Err fault
log_from (Ok log) number [] = Ok log
log_from (Ok log) number (line ∷ rest) = log_from (log_after log (number_after number) line) (number_after number) rest

-- a log without lines
abbrev pub empty_log : Configuration → LogView
empty_log config = record { config = config; lines = replicate (length config.boards) [] }

-- the log that a text is, or the number of the first line that is none of a log and what is wrong with it
unfoldable pub log_of : Configuration → List ℕ → Result LogView (ℕ × LogProblem)
log_of config text = log_from (Ok (empty_log config)) 0 (lines text)

-- a fault says why a text is no log; or an allocation failed
abbrev pub IsFaultOf : Result LogView (ℕ × LogProblem) → LogFault → Type 0
IsFaultOf log (faults.Line number problem) = log ≡ Err (number, problem)
IsFaultOf log faults.Memory = Unit {0}

-- whether no processor has a line
abbrev pub is_empty : LogView → Bool
is_empty log = list_all (λ count. count == 0) (map length log.lines)
