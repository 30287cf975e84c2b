-- The parts around the first occurrence of the byte.
use Rattle.std.proofs.Common.{sym}
use Rattle.vme_lexer.proofs.Cutting.{cut_at}
use Rattle.vme_lexer.proofs.parts.cut_far.Goals as goal

pub returns : goal.returns
returns c = cut_at _ c.in_ok-end.end _ _ _ (sym c.in_ok-end.ensures) c.split_at.ensures.front c.split_at-2.ensures.back
