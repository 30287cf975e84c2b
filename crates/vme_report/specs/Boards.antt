-- A board of a report.
use Rattle.std.specs.Prelude.{ℕ, List}
use Rattle.vme_shared.specs.declared.reply.LineReply.{LineReply}

-- a slot; the replies to its script's lines, each with the line's number; the bytes of its memory; its number of steps,
-- and how many of them each board's processor made
pub record BoardText : Type 0 where
  pub slot : ℕ
  pub lines : List (ℕ × LineReply)
  pub bytes : List ℕ
  pub steps : ℕ
  pub made : List ℕ
