use Rattle.std.proofs.Common.{◌≡◌, ◌+◌, length}
use Rattle.std.specs.Prelude.{◌==◌}
use Rattle.std.specs.List.{position_or_len}
use Rattle.vme_lexer.proofs.parts.first_near_place.Given as goal

-- the byte is not in the part of the text that was searched
abbrev pub invariant-loop-eight : goal.invariant-loop-eight
invariant-loop-eight l = record {
  all : l.seen + length l.rest ≡ length l.text;
  unseen : position_or_len (λ b. b == l.byte) l.text ≡ l.seen + position_or_len (λ b. b == l.byte) l.rest;
}

abbrev pub decreases-loop-eight : goal.decreases-loop-eight
decreases-loop-eight l = length l.rest
