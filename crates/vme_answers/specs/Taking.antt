-- The answers of boards to the data of a trace, by what is known of their bytes.
use Rattle.std.specs.Prelude.{ℕ, ◌+◌, nat_le, Bool, false, not, ◌&&◌, ◌||◌, if◌then◌else◌, List, length, slice_get, Option, Some, None, Result, Ok, Err}
use Rattle.vme_decode.specs.declared.entry.Entry.{Entry}
use Rattle.vme_known.specs.declared.byte.Byte.{Byte}
use Rattle.vme_known.specs.Judging.{may_all_come}
use Rattle.vme_protocol.specs.declared.datum.Datum.{Datum}
use Rattle.vme_protocol.specs.declared.port.Local.{Local}
use Rattle.vme_protocol.specs.declared.rule.Rule.{Rule}
use Rattle.vme_protocol.specs.declared.rule.Rule.TheVariants.{BusError, NoBoard, WrongBytes, TornModify}
use Rattle.vme_protocol.specs.Transfers.{is_block_code}
use Rattle.vme_answers.specs.declared.board.Row.{Row}
use Rattle.vme_answers.specs.declared.board.Half.{Half}
use Rattle.vme_answers.specs.declared.selected.Selected.{Selected}
use Rattle.vme_answers.specs.Bytes.{bytes_of, local_bytes, finds, stores, all_after}
use Rattle.vme_answers.specs.Selecting.{select, is_second, has_cycle_of, may_refuse, overlaps}

-- what is known: the address map, the boards, the bytes of all boards, whether other boards may answer, and the read half of
-- what may be a read-modify-write
pub record Judged : Type 0 where
  pub entries : List Entry
  pub rows : List Row
  pub bytes : List Byte
  pub others : Bool
  pub half : Option Half

-- the place of some bytes of a board, if they are within it
abbrev pub place : Judged → Selected → ℕ → Option ℕ
place k sel len =
    if nat_le (sel.offset + len) sel.row.size && nat_le (sel.row.start + (sel.offset + len)) (length k.bytes)
    then Some (sel.row.start + sel.offset) else None

-- what is known after a datum that shows no bytes
abbrev pub rested : Judged → Judged
rested k = record k { half = None }

-- the read half that a read may be
abbrev pub half_after : Selected → Datum → Option Half
half_after sel d =
    if is_block_code d.am then None
    else Some (record { board = sel.board; offset = sel.offset; len = d.len; torn = false })

-- whether a local write has come to the bytes of a read half
abbrev pub is_torn : Option Half → Bool
is_torn None = false
is_torn (Some half) = half.torn

-- a read: J23, the bytes found are not those of the memory; IEEE 1014-1987, 2.3.6 (basic data transfer)
unfoldable pub read_taken : Judged → Datum → Selected → ℕ → Result Judged Rule
read_taken k d sel at =
    if may_all_come k.bytes (finds at (bytes_of d))
    then Ok (record k { bytes = all_after k.bytes (finds at (bytes_of d)); half = half_after sel d }) else Err WrongBytes

-- a write: J24, a local write has come between the halves of a read-modify-write; IEEE 1014-1987, 2.3.8 (read-modify-write)
unfoldable pub write_taken : Judged → Datum → ℕ → Result Judged Rule
write_taken k d at =
    if is_second d && is_torn k.half then Err TornModify
    else Ok (record k { bytes = all_after k.bytes (stores at (bytes_of d)); half = None })

-- a datum within a board: J21, BERR* answers though the board has the cycle; J22, DTACK* answers though it does not;
-- IEEE 1014-1987, 2.3.6 (basic data transfer)
unfoldable pub taken_at : Judged → Datum → Selected → ℕ → Result Judged Rule
taken_at k d sel at =
    if d.dtack then (if has_cycle_of sel d && not (may_refuse sel d) then Err BusError else Ok (rested k))
    else if has_cycle_of sel d then (if d.write then read_taken k d sel at else write_taken k d at) else Err NoBoard

-- a datum past the end of a board
abbrev pub taken_in : Judged → Datum → Selected → Option ℕ → Result Judged Rule
taken_in k d sel None = if d.dtack then Ok (rested k) else Err NoBoard
taken_in k d sel (Some at) = taken_at k d sel at

-- a datum that selects a board, or none: J22; IEEE 1014-1987, 2.3.3 (bus timer)
abbrev pub taken_by : Judged → Datum → Option Selected → Result Judged Rule
taken_by k d None = if d.dtack || k.others then Ok (rested k) else Err NoBoard
taken_by k d (Some sel) = taken_in k d sel (place k sel d.len)

-- what is known after a datum, or the rule that it breaks
unfoldable pub taken : Judged → Datum → Result Judged Rule
taken k d = taken_by k d (select k.entries k.rows d)

-- a read half after a local write
abbrev pub half_torn : Selected → ℕ → Option Half → Option Half
half_torn sel len None = None
half_torn sel len (Some half) = Some (record half { torn = half.torn || overlaps sel len half })

-- a local access: J23, the bytes found are not those of the memory
unfoldable pub local_taken_at : Judged → Local → Selected → ℕ → Result Judged Rule
local_taken_at k a sel at =
    if a.write then Ok (record k { bytes = all_after k.bytes (stores at (local_bytes a)); half = half_torn sel a.len k.half })
    else if may_all_come k.bytes (finds at (local_bytes a))
    then Ok (record k { bytes = all_after k.bytes (finds at (local_bytes a)) }) else Err WrongBytes

-- a local access past the end of a board changes nothing
abbrev pub local_taken_in : Judged → Local → Selected → Option ℕ → Result Judged Rule
local_taken_in k a sel None = Ok k
local_taken_in k a sel (Some at) = local_taken_at k a sel at

-- the local access of a board with a row, if there is one
abbrev pub local_taken_by : Judged → ℕ → Local → Option Row → Result Judged Rule
local_taken_by k board a None = Ok k
local_taken_by k board a (Some row) =
    local_taken_in k a (record { board = board; offset = a.offset; row = row })
    (place k (record { board = board; offset = a.offset; row = row }) a.len)

-- what is known after a local access of a board, or the rule that it breaks
unfoldable pub local_taken : Judged → ℕ → Local → Result Judged Rule
local_taken k board a = local_taken_by k board a (slice_get k.rows board)
