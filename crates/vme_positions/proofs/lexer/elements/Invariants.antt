use Rattle.std.proofs.Common.{length}
use denote.Text.{Utf8}
use denote.Shadow.{shadow}
use Rattle.vme_positions.proofs.lexer.elements.Given as goal

abbrev pub invariant-elements : goal.invariant-elements
invariant-elements l = shadow (Utf8 l.rest)

abbrev pub decreases-elements : goal.decreases-elements
decreases-elements l = length l.rest
