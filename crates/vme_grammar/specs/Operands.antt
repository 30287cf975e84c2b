-- The operands of a line: what its fields give.
use Rattle.std.specs.Prelude.{ℕ, List, []}

-- the numbers and bytes of a line: code, address or offset, number of bytes, number of data, datum, expected datum,
-- data of a block, number of a mailbox, and the word for it
pub record Operands : Type 0 where
  pub am : ℕ
  pub addr : ℕ
  pub n : ℕ
  pub count : ℕ
  pub bytes : List ℕ
  pub expected : List ℕ
  pub block : List ℕ
  pub mailbox : ℕ
  pub word : ℕ

-- the operands before any field is read
abbrev pub no_operands : Operands
no_operands = record { am = 0; addr = 0; n = 0; count = 0; bytes = []; expected = []; block = []; mailbox = 0; word = 0 }
