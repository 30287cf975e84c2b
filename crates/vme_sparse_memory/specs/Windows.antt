-- The window of a board that a command reaches.
use Rattle.std.specs.Prelude.{ℕ, ◌+◌, slice_range}
use Rattle.vme_memory.specs.declared.reply.Reply.{Reply}
use Rattle.vme_memory.specs.declared.command.BoardCmd.{BoardCmd}
use Rattle.vme_memory.specs.declared.command.BoardCmd.TheVariants.{LocalRead, LocalWrite, LocalModify, Cycle}
use Rattle.vme_memory.specs.Boards.{Board, bytes_after_write}

-- the offset of the first byte that a command names
abbrev pub first_of : BoardCmd → ℕ
first_of (LocalRead offset n) = offset
first_of (LocalWrite offset bytes) = offset
first_of (LocalModify offset n f) = offset
first_of (Cycle signals at f) = at

-- a command with another offset of its first byte
abbrev pub moved_to : ℕ → BoardCmd → BoardCmd
moved_to at (LocalRead offset n) = LocalRead at n
moved_to at (LocalWrite offset bytes) = LocalWrite at bytes
moved_to at (LocalModify offset n f) = LocalModify at n f
moved_to at (Cycle signals offset f) = Cycle signals at f

-- the twelve bytes of a board from an offset on, or those up to its end, with its class
abbrev pub window_of : Board → ℕ → Board
window_of board at = record board { bytes = slice_range board.bytes at (at + 12) }

-- a reply, and a board with the bytes of a window from an offset on
abbrev pub through : Board → ℕ → Reply × Board → Reply × Board
through board at (reply, window) = (reply, record board { bytes = bytes_after_write board.bytes at window.bytes })
