-- The rules for the values of a file, each with the cause of its fault.
use Rattle.std.specs.Prelude.{ℕ, ◌+◌, ◌-◌, ◌%◌, nat_lt, Bool, true, false, not, ◌==◌, ◌&&◌, ◌||◌, if◌then◌else◌, Result, Ok, Err}
use Rattle.vme_memory.specs.declared.class.Width8To32.{Width8To32}
use Rattle.vme_memory.specs.declared.class.Width8To32.TheVariants.{D08, D16, D32}
use Rattle.vme_memory.specs.Boards.{is_board_size}
use Rattle.vme_script.specs.declared.cause.board.BoardCause.{BoardCause}
use Rattle.vme_script.specs.declared.cause.board.BoardCause.TheVariants.{SlotRange, SlotTaken, SlotOrder, SizeRange, SizeNotAligned}

-- the given cause, if the test holds
abbrev pub cause_if : {C : Type 0} → Bool → C → Result (Unit {0}) C
cause_if true cause = Err cause
cause_if false cause = Ok tt

-- the rule for a slot after the slot `before`, which the board with index `other` has: it is from 1 to 21, and greater
abbrev pub slot_rule : ℕ → ℕ → ℕ → Result (Unit {0}) BoardCause
slot_rule before other slot =
    if nat_lt slot 1 || nat_lt 21 slot then Err (SlotRange slot) else
    (if slot == before then Err (SlotTaken slot other) else cause_if (nat_lt slot before) (SlotOrder slot before other))

-- the rule for a board's number of bytes: the cause says whether the next multiple of four would be one
abbrev pub size_rule : ℕ → Result (Unit {0}) BoardCause
size_rule size =
    if is_board_size size then Ok tt else
    (if not (size % 4 == 0) && is_board_size (size - size % 4 + 4) then Err (SizeNotAligned size) else Err (SizeRange size))

-- the number of data lines that a slave uses (IEEE 1014-1987, 2.3.6 (basic data transfer))
abbrev pub lines_of : Width8To32 → ℕ
lines_of D08 = 8
lines_of D16 = 16
lines_of D32 = 32
