-- What a line of a session asks for: a slot, one space, and a line of a script.
use Rattle.std.specs.Prelude.{ℕ, ◌+◌, nat_lt, ◌==◌, if◌then◌else◌, List, length, take, drop, slice_index, Option, Some, None, Result, Ok, Err}
use Rattle.std.specs.Option.{option_and_then}
use Rattle.vme_lexer.specs.Numbers.{decimal_number}
use Rattle.vme_grammar.specs.declared.line.Line.{Line}
use Rattle.vme_grammar.specs.declared.fault.LineFault.{LineFault}
use Rattle.vme_grammar.specs.declared.fault.LineFault.TheVariants.{LineTooLong}
use Rattle.vme_script.specs.Boards.{entries_of}
use Rattle.vme_script.specs.Configurations.{Configuration}
use Rattle.vme_script.specs.Contexts.{line_within}
use Rattle.vme_script.specs.Scripts.{rules_of}
use Rattle.vme_stepper.specs.Turns.{board_in_slot}
use Rattle.vme_serve.specs.declared.request.Asked.{Asked}
use Rattle.vme_serve.specs.declared.request.Asked.TheVariants.{NoBoard, Refused, Nothing, Request}

-- the number of bytes before the first space, if they are one or two
abbrev pub slot_len : List ℕ → Option ℕ
slot_len line = if slice_index line 1 == 32 then Some 1 else (if slice_index line 2 == 32 then Some 2 else None)

-- the index of the board whose slot the first n bytes of a line spell in decimal digits
abbrev pub board_named : Configuration → List ℕ → ℕ → Option ℕ
board_named config line n = option_and_then (board_in_slot config) (decimal_number 2 (take n line))

-- a text as a line of the script of a board's processor
abbrev pub asked_in : ℕ → Result (Option Line) LineFault → Asked
asked_in board (Ok None) = Nothing
asked_in board (Ok (Some line)) = Request board line
asked_in board (Err fault) = Refused fault

-- the text for a board's processor, in the context of the file; without a board, its slot is refused
abbrev pub asked_of_board : Configuration → Option ℕ → List ℕ → Asked
asked_of_board config None text = NoBoard
asked_of_board config (Some board) text =
    asked_in board (line_within (rules_of (entries_of config.boards) config.mailboxes board) text)

-- a line whose first word has so many bytes
abbrev pub asked_after : Configuration → List ℕ → Option ℕ → Asked
asked_after config line None = NoBoard
asked_after config line (Some n) = asked_of_board config (board_named config line n) (drop (n + 1) line)

-- what a line asks for; one of more than 83 bytes, a slot of two digits, a space and 80 bytes, is too long whatever it is
unfoldable pub asked_of : Configuration → List ℕ → Asked
asked_of config line = if nat_lt 83 (length line) then Refused LineTooLong else asked_after config line (slot_len line)
