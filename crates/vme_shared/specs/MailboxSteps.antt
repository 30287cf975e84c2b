-- Where a mailbox lies in a board's memory, what a new one holds, and which commands touch it.
use Rattle.std.specs.Prelude.{ℕ, ◌≡◌, ◌+◌, ◌%◌, ◌≤◌, nat_lt, Bool, true, ◌&&◌, length}
use Rattle.vme_memory.specs.declared.class.Width8To32.TheVariants.{D32}
use Rattle.vme_memory.specs.Boards.{Board, zeros}
use Rattle.vme_memory.specs.Steps.{Command, LocalRead, LocalWrite, LocalModify, Read, Write, Modify, BlockRead, BlockWrite, bytes_at}
use Rattle.vme_shared.specs.Layout.{put_count_from, take_count_from, word_from, mailbox_len}

-- a mailbox in a board's memory: the offset of its first byte, and its number of slots
pub record BoardMailbox : Type 0 where
  pub offset : ℕ
  pub slots : ℕ

-- the offset of the lock, the first byte
abbrev pub lock_at : BoardMailbox → ℕ
lock_at m = m.offset

-- the offset of the count of words put, of four bytes
abbrev pub put_count_at : BoardMailbox → ℕ
put_count_at m = put_count_from m.offset

-- the offset of the count of words taken, of four bytes
abbrev pub take_count_at : BoardMailbox → ℕ
take_count_at m = take_count_from m.offset

-- the offset of the word with number n, of four bytes
abbrev pub word_at : BoardMailbox → ℕ → ℕ
word_at m n = word_from m.offset m.slots n

-- the offset after the last byte
abbrev pub end_of : BoardMailbox → ℕ
end_of m = m.offset + mailbox_len m.slots

-- a mailbox of 1 to 64 slots lies at a multiple of four in a board that answers quad-byte cycles and read-modify-writes
pub record LiesIn (board : Board) (m : BoardMailbox) : Type 0 where
  pub width : board.class.width ≡ D32
  pub rmw : board.class.rmw ≡ true
  pub place : m.offset % 4 ≡ 0
  pub some_slot : 1 ≤ m.slots
  pub few_slots : m.slots ≤ 64
  pub within : end_of m ≤ length board.bytes

-- a mailbox before its first use: all its bytes are zero
pub record IsNewMailbox (board : Board) (m : BoardMailbox) : Type 0 where
  pub lies : LiesIn board m
  pub zero : bytes_at board m.offset (mailbox_len m.slots) ≡ zeros (mailbox_len m.slots)

-- the offset of a command's first byte
abbrev pub offset_of : Command → ℕ
offset_of (LocalRead at len) = at
offset_of (LocalWrite at new) = at
offset_of (LocalModify at len f) = at
offset_of (Read at len) = at
offset_of (Write at new) = at
offset_of (Modify at len f) = at
offset_of (BlockRead at len) = at
offset_of (BlockWrite at new) = at

-- the number of bytes that a command reads or writes
abbrev pub len_of : Command → ℕ
len_of (LocalRead at len) = len
len_of (LocalWrite at new) = length new
len_of (LocalModify at len f) = len
len_of (Read at len) = len
len_of (Write at new) = length new
len_of (Modify at len f) = len
len_of (BlockRead at len) = len
len_of (BlockWrite at new) = length new

-- whether a command, by either port, reads or writes a byte of a mailbox
abbrev pub touches : BoardMailbox → Command → Bool
touches m command =
    nat_lt 0 (len_of command) && nat_lt (offset_of command) (end_of m) && nat_lt m.offset (offset_of command + len_of command)
