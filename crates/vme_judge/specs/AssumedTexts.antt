-- What a verdict rests on: the lines that a trace lacks, and what is assumed.
use Rattle.std.specs.Prelude.{ℕ, ◌+◌, ◌-◌, ◌/◌, ◌^◌, ◌%◌, bit_and, Bool, false, not, ◌==◌, ◌&&◌, if◌then◌else◌, List, [], ◌∷◌, ◌++◌, codes, flat_map, length, Option, Some, None, is_none}
use Rattle.std.specs.Fmt.{decimal, digits}
use Rattle.std.specs.List.{join_by, list_any, range_with_len}
use Rattle.vme_vcd_reader.specs.declared.presence.Presence.{Presence}
use Rattle.vme_judge.specs.declared.boards.Board.{Board}
use Rattle.vme_judge.specs.declared.options.OpenBytes.{OpenBytes}
use Rattle.vme_judge.specs.declared.options.Options.{Options}
use Rattle.vme_judge.specs.Dumps.{has_each, is_among, slots_of}
use Rattle.vme_judge.specs.Levels.{hex}
use Rattle.vme_judge.specs.Openings.{has_answers}

-- a name, unless what has it is there
abbrev pub lacking : Bool → List ℕ → List (List ℕ)
lacking is_there name = if is_there then [] else name ∷ []

-- the lines that a dump lacks, for the slots of the boards
unfoldable pub absent_lines : Presence → ℕ → List (List ℕ)
absent_lines p slots =
    lacking p.bus_error (codes "BERR*") ++ lacking p.busy (codes "BBSY*")
    ++ lacking p.interrupt_acknowledge (codes "IACK*") ++ lacking (has_each p.drivers slots) (codes "BBSY* of each slot")
    ++ lacking (has_each p.requests slots) (codes "BRn* of each slot")
    ++ lacking (has_each p.grants slots) (codes "BG3IN* to BG0IN*")

-- the lines that a trace lacks: a log names none
abbrev pub absent : Bool → Presence → List Board → List (List ℕ)
absent is_dump p boards = if is_dump then absent_lines p (slots_of boards) else []

-- the slots whose local ports a trace shows: those of a dump's lines, and all of a log
abbrev pub ports_shown : Bool → Presence → ℕ
ports_shown is_dump p = if is_dump then p.ports else 2 ^ 32 - 1

-- what memory is assumed at the start
abbrev pub start_text : Bool → List ℕ
start_text zero = if zero then codes "zeros in memory at the start" else codes "any memory at the start"

-- whether all bytes of a slot's board may be written unseen
abbrev pub is_open : List OpenBytes → ℕ → Bool
is_open opens slot = list_any (λ o. o.slot == slot && is_none o.range) opens

-- whether a slot's local port is assumed to access nothing: the trace does not show it, and not all bytes are open
abbrev pub is_unseen : List OpenBytes → ℕ → ℕ → Bool
is_unseen opens ports slot = not (is_among ports ((slot + 256 - 1) % 2 ^ 8)) && not (is_open opens slot)

-- the slot of a board, if its local port is assumed to access nothing
abbrev pub unseen_slot : List OpenBytes → ℕ → Board → List ℕ
unseen_slot opens ports b = if is_unseen opens ports b.slot then b.slot ∷ [] else []

-- the slots whose local ports are assumed to access nothing
abbrev pub unseen_slots : List OpenBytes → ℕ → List Board → List ℕ
unseen_slots opens ports boards = flat_map (unseen_slot opens ports) boards

-- that the local ports of slots access nothing, if there are slots
abbrev pub unseen_texts : List ℕ → List (List ℕ)
unseen_texts slots =
    if length slots == 0 then []
    else (codes "no access by the local port of slot " ++ join_by decimal (codes ", ") slots) ∷ []

-- the offsets that are open, if not all are
abbrev pub range_text : Option (ℕ × ℕ) → List ℕ
range_text None = []
range_text (Some range) = codes ":" ++ digits 16 false range.0 ++ codes "-" ++ digits 16 false (range.1 - 1)

-- the slot whose bytes are open, and which of them
abbrev pub open_text : OpenBytes → List ℕ
open_text o = decimal o.slot ++ range_text o.range

-- that bytes may be written unseen, if there are such
abbrev pub opened_texts : List OpenBytes → List (List ℕ)
opened_texts opens =
    if length opens == 0 then []
    else (codes "any writes by the local ports of " ++ join_by open_text (codes ", ") opens) ∷ []

-- that boards which are not named answer elsewhere, if they do
abbrev pub others_texts : Bool → List (List ℕ)
others_texts others = if others then codes "boards that are not named at all other addresses" ∷ [] else []

-- what is assumed of the answers of boards
unfoldable pub answers_assumed : Options → List Board → ℕ → List (List ℕ)
answers_assumed o boards ports =
    start_text o.zero ∷ [] ++ unseen_texts (unseen_slots o.open.now ports boards) ++ opened_texts o.open.now
    ++ others_texts o.others

-- a code, if its cycles are not judged
abbrev pub ignored_code : ℕ → ℕ → List ℕ
ignored_code ignored code = if bit_and (ignored / 2 ^ (code % 64)) 1 == 0 then [] else code ∷ []

-- the codes whose cycles are not judged
unfoldable pub ignored_codes : ℕ → List ℕ
ignored_codes ignored = flat_map (ignored_code ignored) (range_with_len 0 64)

-- that cycles of codes change nothing, if there are codes
abbrev pub ignored_texts : List ℕ → List (List ℕ)
ignored_texts numbers =
    if length numbers == 0 then []
    else (codes "cycles that are not judged change nothing: am=" ++ join_by (hex 2) (codes ",") numbers) ∷ []

-- what is assumed; `ports` are the slots whose local ports the trace shows
unfoldable pub assumed : Options → List Board → ℕ → List (List ℕ)
assumed o boards ports =
    (if has_answers o then answers_assumed o boards ports else []) ++ ignored_texts (ignored_codes o.ignored)

-- a line of texts after a head, if there are texts
abbrev pub list_line : List ℕ → List ℕ → List (List ℕ) → List ℕ
list_line head between texts =
    if length texts == 0 then [] else head ++ join_by (λ text. text) between texts ++ codes "\n"
