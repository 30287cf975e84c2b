use Rattle.std.proofs.Common.{◌≡◌, ◌+◌, ◌-◌, ◌≤◌, ◌++◌}
use Rattle.arrayvec.specs.ArrayVec.{array_vec_len}
use Rattle.vme_split.specs.Parts.{parts_within}
use Rattle.vme_split.proofs.part.parts_of.Given as goal

-- the parts so far, followed by those of the rest, are the parts of the access
abbrev pub invariant-loop-round : goal.invariant-loop-round
invariant-loop-round l = record {
  most : array_vec_len l.parts ≤ l._round;
  end : l.at + l.rest ≡ l.fn.at + l.fn.n;
  parts : l.parts.items ++ parts_within (4 - l._round) l.width l.at l.rest ≡ parts_within 4 l.fn.width l.fn.at l.fn.n;
}
