-- The board whose bytes lie in a slice.
use Rattle.std.specs.Prelude.{ℕ, List}
use Rattle.vme_memory.specs.declared.class.Class.{Class}
use Rattle.vme_memory.specs.Boards.{Board}

-- the board of some bytes, with a class
abbrev pub board_of : List ℕ → Class → Board
board_of bytes class = record { bytes = bytes; class = class }
