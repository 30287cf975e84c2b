use Rattle.std.proofs.Common.{◌≡◌, ◌+◌, drop}
use Rattle.vme_known.specs.Judging.{may_all_come}
use Rattle.vme_answers.specs.Bytes.{finds}
use Rattle.vme_answers.proofs.bytes.may_find_all.Given as goal

-- whether the bytes may be found is whether those that are left may be
abbrev pub invariant-loop-byte : goal.invariant-loop-byte
invariant-loop-byte l = record {
  place : l.place ≡ l.at + l.byte-index;
  answer : may_all_come l.known (finds l.at l.bytes) ≡ may_all_come l.known (finds l.place (drop l.byte-index l.bytes));
}
