use Rattle.std.proofs.Common.{◌≡◌, ◌-◌, [], length}
use Rattle.vme_cycle.specs.Functions.{bytes_onto}
use Rattle.vme_cycle.proofs.modify.spelled.Given as goal

-- the bytes so far, after the bytes of the remaining number, are the bytes of the number
abbrev pub invariant-loop-place : goal.invariant-loop-place
invariant-loop-place l = record {
  bytes : bytes_onto (l.len - l._place) l.rest l.bytes.items ≡ bytes_onto l.len l.number [];
  len : length l.bytes.items ≡ l._place;
}
