-- The memory of a board: its bytes and its class.
use Rattle.std.specs.Prelude.{ℕ, ◌%◌, nat_le, Bool, ◌==◌, ◌&&◌, List, replicate}
pub use Rattle.vme_memory.specs.Words.{bytes_after_write}
use Rattle.vme_memory.specs.declared.class.Class.{Class}

-- the bytes of a board, each at its offset, and the class of its slave
pub record Board : Type 0 where
  pub bytes : List ℕ
  pub class : Class

-- the sizes of boards: 4 to 1,048,576 bytes, a multiple of four
abbrev pub is_board_size : ℕ → Bool
is_board_size size = nat_le 4 size && nat_le size 1048576 && size % 4 == 0

-- size zero bytes
unfoldable pub zeros : ℕ → List ℕ
zeros size = replicate size 0
