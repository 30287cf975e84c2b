-- Scripts: the lines of a text that request something, each with its number, or the first refusal.
use Rattle.std.specs.Prelude.{◌≡◌, ℕ, ◌+◌, nat_lt, nat_le, Bool, if◌then◌else◌, List, [], ◌∷◌, ◌++◌, length, Option, Some, None, Result, Ok, Err}
use Rattle.std.specs.List.{list_all}
use Rattle.std.specs.Str.Lines.{lines}
use Rattle.vme_grammar.specs.declared.line.Line.{Line}
use Rattle.vme_grammar.specs.declared.fault.LineFault.{LineFault}
use Rattle.vme_decode.specs.declared.entry.Entry.{Entry}
use Rattle.vme_shared.specs.declared.mailbox.Mailbox.{Mailbox}
use Rattle.vme_script.specs.declared.context.ScriptContext.{ScriptContext}
use Rattle.vme_script.specs.declared.context.ScriptContext.TheVariants.{Alone, InFile}
use Rattle.vme_script.specs.Contexts.{line_within}
use Rattle.vme_script.specs.declared.fault.ConfigFault.{ConfigFault}
use Rattle.vme_script.specs.declared.fault.ConfigFault.TheVariants.{BadScript}
use Rattle.vme_script.specs.declared.fault.ScriptFault.{ScriptFault}
use Rattle.vme_script.specs.declared.fault.ScriptFault.TheVariants.{Refused, OutOfMemory}
use Rattle.vme_script.specs.declared.fault.ScriptRefusal.{ScriptRefusal}
use Rattle.vme_script.specs.declared.fault.ScriptRefusal.TheVariants.{BadLine, TooManyLines}
use Rattle.vme_script.specs.declared.script.ScriptLine.{ScriptLine}
use Rattle.vme_script.specs.Answers.{◌>>=◌}
use Rattle.vme_config_toml.specs.Files.{BoardValues}

-- the entry of a line in a script; a line that requests nothing has none
abbrev pub numbered : ℕ → Option Line → List ScriptLine
numbered number None = []
numbered number (Some line) = record { number = number; line = line } ∷ []

-- a line's entry before those of the lines after it, unless one of these is refused
abbrev pub with_line : List ScriptLine → Result (List ScriptLine) ScriptRefusal → Result (List ScriptLine) ScriptRefusal
with_line first (Ok others) = Ok (first ++ others)
with_line first (Err refusal) = Err refusal

-- the result of a line, with the line's number if it is refused
abbrev pub asked_at : ℕ → Result (Option Line) LineFault → Result (Option Line) ScriptRefusal
asked_at number (Ok line) = Ok line
asked_at number (Err fault) = Err (BadLine number fault)

-- the result of a line and the lines after it: its own refusal comes first
abbrev pub line_before :
    ℕ → Result (Option Line) ScriptRefusal → Result (List ScriptLine) ScriptRefusal → Result (List ScriptLine) ScriptRefusal
line_before number (Ok line) others = with_line (numbered number line) others
line_before number (Err refusal) others = Err refusal

-- the entries of lines, numbered from the given number on, or the first line that is refused
abbrev pub lines_from : ScriptContext → ℕ → List (List ℕ) → Result (List ScriptLine) ScriptRefusal
lines_from rules number [] = Ok []
lines_from rules number (line ∷ more) =
    line_before number (asked_at number (line_within rules line)) (lines_from rules (number + 1) more)

-- a line was processed in a context: its entry, if it has one, was appended with its number, or the line has the given
-- refusal
abbrev pub IsProcessed : ScriptContext → ℕ → List ℕ → List ScriptLine → List ScriptLine → Option LineFault → Type 0
IsProcessed rules number text before after None =
    (asked : Option Line) × (line_within rules text ≡ Ok asked) × (after ≡ before ++ numbered number asked)
IsProcessed rules number text before after (Some fault) = line_within rules text ≡ Err fault

-- the script of a text in a context: the text has at most 1,000 lines, empty lines and comments included
unfoldable pub script_within : ScriptContext → List ℕ → Result (List ScriptLine) ScriptRefusal
script_within rules text = if nat_lt 1000 (length (lines text)) then Err TooManyLines else lines_from rules 1 (lines text)

-- the script of a text by itself, whose mailboxes are unknown
abbrev pub script_of : List ℕ → Result (List ScriptLine) ScriptRefusal
script_of text = script_within Alone text

-- a fault is the expected refusal of a script; after a failed allocation nothing is stated
abbrev pub IsRefusalOf : Result (List ScriptLine) ScriptRefusal → ScriptFault → Type 0
IsRefusalOf expected (Refused refusal) = expected ≡ Err refusal
IsRefusalOf expected OutOfMemory = Unit {0}

-- the result of a script, with the slot of its processor if it is refused
abbrev pub script_in : ℕ → Result (List ScriptLine) ScriptRefusal → Result (List ScriptLine) ConfigFault
script_in slot (Ok script) = Ok script
script_in slot (Err refusal) = Err (BadScript slot refusal)

-- the context of the script of a board, with the declared ranges and mailboxes
abbrev pub rules_of : List Entry → List Mailbox → ℕ → ScriptContext
rules_of entries mailboxes board = InFile (record { entries = entries; mailboxes = mailboxes; board = board })

-- the scripts of boards from an index on, in order of slots, each in the context of its board
abbrev pub scripts_from : List Entry → List Mailbox → ℕ → List BoardValues → Result (List (List ScriptLine)) ConfigFault
scripts_from entries mailboxes place [] = Ok []
scripts_from entries mailboxes place (board ∷ more) = do
  first ← script_in board.slot (script_within (rules_of entries mailboxes place) board.script)
  others ← scripts_from entries mailboxes (place + 1) more
  Ok (first ∷ others)

-- the scripts of all boards
abbrev pub scripts_of : List Entry → List Mailbox → List BoardValues → Result (List (List ScriptLine)) ConfigFault
scripts_of entries mailboxes boards = scripts_from entries mailboxes 0 boards

-- whether each board's slot is one of a backplane
abbrev pub has_slots : List BoardValues → Bool
has_slots boards = list_all (λ board. nat_le board.slot 21) boards
