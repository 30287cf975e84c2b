-- The board that a datum selects, and whether it has the cycle.
use Rattle.std.specs.Prelude.{ℕ, ◌+◌, ◌-◌, ◌^◌, nat_le, nat_lt, Bool, not, ◌==◌, ◌&&◌, if◌then◌else◌, List, Option, Some, None, Result, Ok, Err, slice_get}
use Rattle.vme_am.specs.declared.code.AmFault.{AmFault}
use Rattle.vme_am.specs.Codes.{CodeRow, read_code}
use Rattle.vme_decode.specs.declared.entry.Entry.{Entry}
use Rattle.vme_decode.specs.Select.{selection_at}
use Rattle.vme_protocol.specs.declared.datum.Datum.{Datum}
use Rattle.vme_protocol.specs.Transfers.{is_block_code}
use Rattle.vme_answers.specs.declared.board.Row.{Row}
use Rattle.vme_answers.specs.declared.board.Half.{Half}
use Rattle.vme_answers.specs.declared.selected.Selected.{Selected}
use Rattle.vme_answers.specs.Cycles.{has_datum, has_modify}

-- whether a datum is the second one of a transfer under a code without blocks: the write half of a read-modify-write
abbrev pub is_second : Datum → Bool
is_second d = not (is_block_code d.am) && nat_lt 0 d.index

-- whether the class has the cycle of a datum; IEEE 1014-1987, 2.3.6 (basic data transfer)
abbrev pub has_cycle_of : Selected → Datum → Bool
has_cycle_of sel d =
    if is_second d then has_modify sel.row.class sel.offset d.len
    else has_datum sel.row.class (is_block_code d.am) sel.offset d.len

-- whether BERR* may answer a datum though the class has the cycle: it may be the read half of a read-modify-write that the
-- board does not have; IEEE 1014-1987, 2.3.8 (read-modify-write)
abbrev pub may_refuse : Selected → Datum → Bool
may_refuse sel d = not (is_block_code d.am) && d.write && not (has_modify sel.row.class sel.offset d.len)

-- whether some bytes are among those of a read half
abbrev pub overlaps : Selected → ℕ → Half → Bool
overlaps sel len half =
    sel.board == half.board && nat_lt half.offset (sel.offset + len) && nat_lt sel.offset (half.offset + half.len)

-- the offset of a datum, by that of the first one of its transfer
abbrev pub offset_of : Datum → ℕ → Option ℕ
offset_of d first =
    if nat_le d.first d.addr && nat_lt (first + (d.addr - d.first)) (2 ^ 32) then Some (first + (d.addr - d.first)) else None

-- a board with a row at an offset, if there are both
abbrev pub chosen : ℕ → Option Row → Option ℕ → Option Selected
chosen board None offset = None
chosen board (Some row) None = None
chosen board (Some row) (Some offset) = Some (record { board = board; offset = offset; row = row })

-- what the map selects
abbrev pub chosen_at : List Row → Datum → Option (ℕ × ℕ) → Option Selected
chosen_at rows d None = None
chosen_at rows d (Some found) = chosen found.0 (slice_get rows found.0) (offset_of d found.1)

-- the board that a datum selects by the address of the transfer's first byte, if its code has a row;
-- IEEE 1014-1987, 2.3.5 (addressing)
abbrev pub select_by : List Entry → List Row → Datum → Result CodeRow AmFault → Option Selected
select_by entries rows d (Err fault) = None
select_by entries rows d (Ok code) = chosen_at rows d (selection_at entries code d.first)

-- the row that the address map selects for a datum, and the offset there
unfoldable pub select : List Entry → List Row → Datum → Option Selected
select entries rows d = select_by entries rows d (read_code d.am)

-- the board that an address selects under a code with a row, and the offset there; IEEE 1014-1987, 2.3.5 (addressing)
abbrev pub board_by : List Entry → ℕ → Result CodeRow AmFault → Option (ℕ × ℕ)
board_by entries addr (Err fault) = None
board_by entries addr (Ok code) = selection_at entries code addr

-- the board that an address selects under a code, and the offset there
abbrev pub board_at : List Entry → ℕ → ℕ → Option (ℕ × ℕ)
board_at entries am addr = board_by entries addr (read_code am)
