-- The boards before the trace.
use Rattle.std.specs.Prelude.{ℕ, ◌+◌, ◌-◌, ◌^◌, min, nat_le, nat_lt, Bool, ◌&&◌, if◌then◌else◌, List, [], ◌∷◌, ◌++◌, length, map, replicate, take, drop, slice_get, Option, Some, None}
use Rattle.vme_decode.specs.declared.entry.Entry.{Entry}
use Rattle.vme_known.specs.declared.byte.Byte.{Byte}
use Rattle.vme_known.specs.declared.byte.Byte.TheVariants as known
use Rattle.vme_answers.specs.declared.board.BoardRule.{BoardRule}
use Rattle.vme_answers.specs.declared.board.Open.{Open}
use Rattle.vme_answers.specs.declared.board.Row.{Row}
use Rattle.vme_answers.specs.Taking.{Judged}

-- the place after some bytes, up to the greatest
abbrev pub place_after : ℕ → ℕ → ℕ
place_after start len = min (start + len) (2 ^ 64 - 1)

-- the entries of boards
abbrev pub entries_of : List BoardRule → List Entry
entries_of boards = map (λ b. b.entry) boards

-- the row of a board whose bytes begin at a place
abbrev pub row_at : ℕ → BoardRule → Row
row_at start b = record { start = start; size = b.entry.size; class = b.class }

-- the rows of boards, one board after another from a place on
abbrev pub rows_from : ℕ → List BoardRule → List Row
rows_from start [] = []
rows_from start (b ∷ boards) = row_at start b ∷ rows_from (place_after start b.entry.size) boards

-- the place after all boards
abbrev pub end_from : ℕ → List BoardRule → ℕ
end_from start [] = start
end_from start (b ∷ boards) = end_from (place_after start b.entry.size) boards

-- bytes, of which those from one place to another are open, if they are there
abbrev pub open_between : ℕ → ℕ → List Byte → List Byte
open_between from to bytes =
    if nat_lt from to && nat_le to (length bytes) then take from bytes ++ replicate (to - from) known.Open ++ drop to bytes
    else bytes

-- bytes of which those of a range of a board are open
abbrev pub opened : Open → Row → List Byte → List Byte
opened o row bytes =
    open_between (place_after row.start (min o.from row.size)) (place_after row.start (min o.to row.size)) bytes

-- bytes of which those of a range are open, if its board is there
abbrev pub opened_if : Open → Option Row → List Byte → List Byte
opened_if o None bytes = bytes
opened_if o (Some row) bytes = opened o row bytes

-- bytes of which some ranges are open
abbrev pub all_opened : List Row → List Open → List Byte → List Byte
all_opened rows [] bytes = bytes
all_opened rows (o ∷ opens) bytes = all_opened rows opens (opened_if o (slice_get rows o.board) bytes)

-- what is known of a byte before the trace: that it is zero, or nothing
abbrev pub first_byte : Bool → Byte
first_byte zero = if zero then known.Known 0 else known.Unseen

-- the boards before the trace
unfoldable pub started : List BoardRule → List Open → Bool → Bool → Judged
started boards opens zero others = record {
  entries = entries_of boards;
  rows = rows_from 0 boards;
  bytes = all_opened (rows_from 0 boards) opens (replicate (end_from 0 boards) (first_byte zero));
  others = others;
  half = None;
}
