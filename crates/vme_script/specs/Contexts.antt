-- The refusals of a line that depend on the declared mailboxes.
use Rattle.std.specs.Prelude.{ℕ, Bool, false, if◌then◌else◌, List, length, Option, Some, None, Result, Ok, Err}
use Rattle.std.specs.List.{list_any}
use Rattle.std.specs.Option.{option_map_or}
use Rattle.vme_decode.specs.declared.entry.Entry.{Entry}
use Rattle.vme_grammar.specs.declared.line.Line.{Line}
use Rattle.vme_grammar.specs.declared.fault.LineFault.{LineFault}
use Rattle.vme_grammar.specs.declared.fault.LineFault.TheVariants.{BadNumber, MailboxBytes}
use Rattle.vme_grammar.specs.Grammar.{line_of}
use Rattle.vme_shared.specs.declared.mailbox.Mailbox.{Mailbox}
use Rattle.vme_script.specs.declared.mailbox_numbers.MailboxNumbers.{MailboxNumbers}
use Rattle.vme_script.specs.declared.mailbox_numbers.MailboxNumbers.TheVariants as boxes
use Rattle.vme_script.specs.declared.board_range.BoardRange.{BoardRange}
use Rattle.vme_script.specs.declared.context.ScriptContext.{ScriptContext}
use Rattle.vme_script.specs.declared.context.ScriptContext.TheVariants.{Alone, InFile}
use Rattle.vme_script.specs.Declarations.{Declaration}
use Rattle.vme_script.specs.Bytes.{line_bytes}
use Rattle.vme_script.specs.MailboxNumbers.{may_name}
use Rattle.vme_script.specs.BoardRanges.{range_of, share}

-- the mailboxes that a script may name: in a file those that the file declares
abbrev pub boxes_of : ScriptContext → MailboxNumbers
boxes_of Alone = boxes.Any
boxes_of (InFile file) = boxes.Declared (length file.mailboxes)

-- whether one of some bytes belongs to a mailbox
abbrev pub is_of_mailbox : List Entry → BoardRange → Mailbox → Bool
is_of_mailbox entries bytes mailbox = option_map_or (share bytes) (range_of entries mailbox) false

-- whether one of some bytes belongs to a declared mailbox
abbrev pub are_of_mailboxes : Declaration → BoardRange → Bool
are_of_mailboxes file bytes = list_any (is_of_mailbox file.entries bytes) file.mailboxes

-- whether a line accesses a byte of a declared mailbox, by either port and other than by a put or a take
abbrev pub touches : ScriptContext → Line → Bool
touches Alone line = false
touches (InFile file) line = option_map_or (are_of_mailboxes file) (line_bytes file.entries file.board line) false

-- the refusal of a line in a context: first for an undeclared mailbox, then for bytes of a declared one
abbrev pub refusal_of : ScriptContext → Line → Option LineFault
refusal_of rules line =
    if may_name (boxes_of rules) line then (if touches rules line then Some MailboxBytes else None) else Some BadNumber

-- a line, or its refusal if it has one
abbrev pub line_unless_refused : Option LineFault → Line → Result (Option Line) LineFault
line_unless_refused None line = Ok (Some line)
line_unless_refused (Some fault) line = Err fault

-- the result of reading a line, if the context allows the line
abbrev pub asked_within : ScriptContext → Result (Option Line) LineFault → Result (Option Line) LineFault
asked_within rules (Ok None) = Ok None
asked_within rules (Ok (Some line)) = line_unless_refused (refusal_of rules line) line
asked_within rules (Err fault) = Err fault

-- a text as a line in a context: the refusals of the context come last
unfoldable pub line_within : ScriptContext → List ℕ → Result (Option Line) LineFault
line_within rules line = asked_within rules (line_of line)
