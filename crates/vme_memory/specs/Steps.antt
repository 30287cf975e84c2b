-- The step of a board's memory on a command, and the command of a cycle of the bus.
use Rattle.std.specs.Prelude.{◌≡◌, ℕ, ◌+◌, ◌%◌, nat_le, Bool, true, false, not, ◌==◌, ◌&&◌, if◌then◌else◌, List, length, slice_range, Option, Some, None}
use Rattle.std.specs.Option.{option_map, option_map_or, option_and_then}
use Rattle.vme_lanes.specs.declared.location.Location.{Location}
use Rattle.vme_lanes.specs.Rows.{row_of, location_at}
use Rattle.vme_lanes.specs.Lanes.{carries, bytes_on, carries_all, bytes_of}
use Rattle.vme_am.specs.Codes.{CodeRow}
use Rattle.vme_am.specs.Kinds.{is_block}
use Rattle.vme_cycle.specs.declared.modify.Modify as functions
use Rattle.vme_cycle.specs.Counts.{is_wide_len}
use Rattle.vme_cycle.specs.Functions.{value, has_len}
use Rattle.vme_cycle.specs.SignalLines.{SignalLines, sensed_at}
use Rattle.vme_memory.specs.declared.reply.Reply.{Reply}
use Rattle.vme_memory.specs.declared.reply.Reply.TheVariants.{Bytes, Done, Berr}
use Rattle.vme_memory.specs.Classes.{answers, answers_quads, is_block_place, is_modify_place, is_local_len}
use Rattle.vme_memory.specs.Boards.{Board, bytes_after_write}

-- a command with the offset of its first byte: a read of a number of bytes, a write, or a read-modify-write with a
-- function, by the local port or by the bus; or one datum of a block
pub data Command : Type 0 where
  LocalRead : ℕ → ℕ → Command
  LocalWrite : ℕ → List ℕ → Command
  LocalModify : ℕ → ℕ → functions.Modify → Command
  Read : ℕ → ℕ → Command
  Write : ℕ → List ℕ → Command
  Modify : ℕ → ℕ → functions.Modify → Command
  BlockRead : ℕ → ℕ → Command
  BlockWrite : ℕ → List ℕ → Command

-- whether len bytes at an offset lie within a board
abbrev pub fits : Board → ℕ → ℕ → Bool
fits board at len = nat_le (at + len) (length board.bytes)

-- whether a byte location has these bytes and the board's class has its cycle;
-- IEEE 1014-1987, 2.3.6 (basic data transfer)
abbrev pub has_cycle : Board → ℕ → ℕ → Bool
has_cycle board at len = option_map_or (answers board.class) (location_at at len) false

-- whether the board's class has the cycle of a datum of a block; eight bytes require a width with quad bytes
abbrev pub has_block_cycle : Board → ℕ → ℕ → Bool
has_block_cycle board at len = if is_wide_len len then answers_quads board.class.width else has_cycle board at len

-- whether a board carries out a command: its bytes lie within the board, its length is allowed there, and its function
-- matches; by the bus, the class has the cycle too
abbrev pub can_answer : Board → Command → Bool
can_answer board (LocalRead at len) = fits board at len && is_local_len len
can_answer board (LocalWrite at new) = fits board at (length new) && is_local_len (length new)
can_answer board (LocalModify at len f) = fits board at len && is_local_len len && has_len f len
can_answer board (Read at len) = fits board at len && has_cycle board at len
can_answer board (Write at new) = fits board at (length new) && has_cycle board at (length new)
can_answer board (Modify at len f) =
    fits board at len && has_cycle board at len && is_modify_place at len && board.class.rmw && has_len f len
can_answer board (BlockRead at len) =
    fits board at len && has_block_cycle board at len && is_block_place at len && board.class.blt
can_answer board (BlockWrite at new) =
    fits board at (length new) && has_block_cycle board at (length new) && is_block_place at (length new) && board.class.blt

-- the bytes of a board at an offset
abbrev pub bytes_at : Board → ℕ → ℕ → List ℕ
bytes_at board at len = slice_range board.bytes at (at + len)

-- the reply and the new memory of a read
abbrev pub read_at : Board → ℕ → ℕ → Reply × Board
read_at board at len = (Bytes (record { items = bytes_at board at len }), board)

-- the reply and the new memory of a write
abbrev pub write_at : Board → ℕ → List ℕ → Reply × Board
write_at board at new = (Done, record board { bytes = bytes_after_write board.bytes at new })

-- the reply, with the old bytes, and the new memory of a read-modify-write
abbrev pub modify_at : Board → ℕ → ℕ → functions.Modify → Reply × Board
modify_at board at len f = (
  Bytes (record { items = bytes_at board at len }),
  record board { bytes = bytes_after_write board.bytes at (value f (bytes_at board at len)) },
)

-- the reply and the new memory of a command that the board carries out
abbrev pub effect_of : Board → Command → Reply × Board
effect_of board (LocalRead at len) = read_at board at len
effect_of board (LocalWrite at new) = write_at board at new
effect_of board (LocalModify at len f) = modify_at board at len f
effect_of board (Read at len) = read_at board at len
effect_of board (Write at new) = write_at board at new
effect_of board (Modify at len f) = modify_at board at len f
effect_of board (BlockRead at len) = read_at board at len
effect_of board (BlockWrite at new) = write_at board at new

-- the step of a board's memory: the reply and the new memory; a bus error changes nothing
abbrev pub step : Board → Command → Reply × Board
step board command = if can_answer board command then effect_of board command else (Berr, board)

-- the bytes on the lanes of a location, if each of them carries one
abbrev pub driven_bytes : Location → List (Option ℕ) → Option (List ℕ)
driven_bytes l lanes = if carries l lanes then Some (bytes_on l lanes) else None

-- the command of a read of len bytes, single or in a block
abbrev pub read_command : Bool → ℕ → ℕ → Command
read_command false at len = Read at len
read_command true at len = BlockRead at len

-- the command of a write of some bytes, single or in a block
abbrev pub write_command : Bool → ℕ → List ℕ → Command
write_command false at new = Write at new
write_command true at new = BlockWrite at new

-- the write of the bytes on the lanes of a location, if each lane carries one
abbrev pub driven_write : Bool → Location → ℕ → List (Option ℕ) → Option Command
driven_write block l at lanes = option_map (write_command block at) (driven_bytes l lanes)

-- the command of a cycle at a location, by block code, level of WRITE* and function; only a single read half has a
-- function; IEEE 1014-1987, 2.2.4 (control lines)
abbrev pub narrow_command : Bool → Bool → Option functions.Modify → ℕ → Location → List (Option ℕ) → Option Command
narrow_command block write None at l lanes =
    if write then Some (read_command block at (row_of l).len) else driven_write block l at lanes
narrow_command block write (Some f) at l lanes = if write && not block then Some (Modify at (row_of l).len f) else None

-- the write of the eight bytes on all lanes, if each lane carries one
abbrev pub wide_write : ℕ → List (Option ℕ) → Option Command
wide_write at lanes = if carries_all lanes then Some (BlockWrite at (bytes_of lanes)) else None

-- the command of a cycle with a code of eight-byte data: a datum of a block at BYTE(0-3), and none at other locations
abbrev pub wide_command : Bool → Option functions.Modify → ℕ → Location → List (Option ℕ) → Option Command
wide_command write None at l lanes =
    if (row_of l).len == 4 then if write then Some (BlockRead at 8) else wide_write at lanes else None
wide_command write (Some f) at l lanes = None

-- the command of a cycle with any code at a location
abbrev pub command_at : CodeRow → Bool → Option functions.Modify → ℕ → Location → List (Option ℕ) → Option Command
command_at am write f at l lanes =
    if am.wide then wide_command write f at l lanes else narrow_command (is_block am.kind) write f at l lanes

-- the command of a cycle at an offset, if any: of the location that the board senses, at that location's place;
-- IEEE 1014-1987, 2.2.1 (addressing lines)
abbrev pub command_of : SignalLines → ℕ → Option functions.Modify → Option Command
command_of s at f =
    option_and_then
    (λ l. if (row_of l).first == at % 4 then command_at s.am s.write f at l s.lanes else None)
    (sensed_at s at)

-- the reply and the new memory for a command, if any; without one, the reply is a bus error
abbrev pub answer : Board → Option Command → Reply × Board
answer board (Some command) = step board command
answer board None = (Berr, board)

-- the reply and the new memory for a cycle whose first byte is at an offset, with a function if it has one
unfoldable pub cycle : Board → SignalLines → ℕ → Option functions.Modify → Reply × Board
cycle board s at f = answer board (command_of s at f)

-- a reply with bytes has len of them
abbrev pub HasLen : Reply → ℕ → Type 0
HasLen (Bytes datum) len = length datum.items ≡ len
HasLen Done len = Unit {0}
HasLen Berr len = Unit {0}
