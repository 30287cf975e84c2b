-- What is known of the boards' bytes after a finding: what an illegal part of a trace may have written is forgotten.
use Rattle.std.specs.Prelude.{ℕ, ◌+◌, ◌-◌, ◌^◌, ◌%◌, min, bit_and, Bool, false, not, ◌==◌, ◌||◌, if◌then◌else◌, List, [], ◌∷◌, Option, Some, None}
use Rattle.std.specs.Option.{option_map}
use Rattle.vme_protocol.specs.declared.sample.Sample.{Sample}
use Rattle.vme_protocol.specs.declared.scope.Scope.{Scope}
use Rattle.vme_protocol.specs.declared.transfer.Transfer.{Transfer}
use Rattle.vme_protocol.specs.declared.watch.Watch.{Watch}
use Rattle.vme_protocol.specs.Transfers.{opened}
use Rattle.vme_answers.specs.declared.wrong.Wrong.{Wrong}
use Rattle.vme_answers.specs.Forgetting.{forgot}
use Rattle.vme_answers.specs.Selecting.{board_at}
use Rattle.vme_answers.specs.Taking.{Judged}
use Rattle.vme_judge.specs.declared.boards.Board.{Board}

-- how many bytes a transfer may write from its address on: of a block those up to the end of its unit
abbrev pub bytes_of : Transfer → ℕ
bytes_of t = if t.wide then 2048 - t.base % 2048 else (if t.block then 256 - t.base % 256 else 4)

-- an offset after so many bytes, up to the greatest number
abbrev pub offset_after : ℕ → ℕ → ℕ
offset_after offset count = min (offset + count) (2 ^ 32 - 1)

-- what is known once all bytes of boards are forgotten, of which the first has an index
abbrev pub without_boards : ℕ → List Board → Judged → Judged
without_boards index [] k = k
without_boards index (b ∷ boards) k = without_boards (index + 1) boards (forgot k index 0 b.entry.size)

-- what is known once all bytes of those boards are forgotten that are in a slot
abbrev pub without_slot : ℕ → ℕ → List Board → Judged → Judged
without_slot slot index [] k = k
without_slot slot index (b ∷ boards) k =
    without_slot slot (index + 1) boards (if b.slot == slot then forgot k index 0 b.entry.size else k)

-- what is known once so many bytes from an offset of a board on are forgotten, if there is a board
abbrev pub without_from : Option (ℕ × ℕ) → ℕ → Judged → Judged
without_from None count k = k
without_from (Some at) count k = forgot k at.0 at.1 (offset_after at.1 count)

-- what is known once the bytes are forgotten that a transfer may write: all, if its code is unknown or its address undefined
abbrev pub without_bytes : List Board → Transfer → Bool → Judged → Judged
without_bytes boards t is_vague k =
    if not t.judged then k
    else (if is_vague || not t.has_row then without_boards 0 boards k
    else without_from (board_at k.entries t.am t.base) (bytes_of t) k)

-- the same, if answers are judged
abbrev pub without_transfer : List Board → Transfer → Bool → Option Judged → Option Judged
without_transfer boards t is_vague answers = option_map (without_bytes boards t is_vague) answers

-- whether the code or the address of a transfer is undefined at the sample that opens it
abbrev pub is_vague : Transfer → Sample → Bool
is_vague t s = s.am_undefined || not (bit_and s.lines_undefined t.counted == 0)

-- what is known once the bytes of the transfer are forgotten that a sample opens
abbrev pub without_opened : List Board → Scope → Sample → Option Judged → Option Judged
without_opened boards scope s answers =
    without_transfer boards (opened scope s) (is_vague (opened scope s) s) answers

-- what is known once the bytes of the transfer are forgotten that is watched, if samples are
abbrev pub without_watched : List Board → Option Watch → Option Judged → Option Judged
without_watched boards None answers = answers
without_watched boards (Some w) answers = without_transfer boards w.transfer false answers

-- what is known once the bytes of a wrong answer are forgotten, if a board gave it
abbrev pub without_wrong : Wrong → Option ℕ → Judged → Judged
without_wrong wrong None k = k
without_wrong wrong (Some board) k = forgot k board wrong.offset (offset_after wrong.offset wrong.len)
