-- The bytes of blocks, and the buffers that collect them.
use Rattle.std.specs.Prelude.{ℕ, List}

-- how many bytes lie in a value itself: as many as a line of 80 bytes can spell
abbrev pub inline_capacity : ℕ
inline_capacity = 40

-- the greatest number of bytes of a block: 256 data of eight bytes
abbrev pub block_limit : ℕ
block_limit = 2048

-- the model of a buffer: its bytes and its capacity
pub record BufferView : Type 0 where
  pub items : List ℕ
  pub capacity : ℕ

-- the model of a block: its bytes
pub record BlockBytes : Type 0 where
  pub items : List ℕ
