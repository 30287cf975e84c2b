-- One more byte is spelled.
use Rattle.std.proofs.Common.{arith, rules}
use Rattle.vme_cycle.proofs.lemmas.Numbers.{byte_more}
use Rattle.vme_cycle.proofs.modify.spelled.Goals as goal

pub loop-place-preserved : goal.loop-place-preserved
loop-place-preserved c = record {
  bytes = byte_more c.args.len c.loop-place._place c.loop-place.rest c.loop-place.bytes.items c.insert.new.self.items _ (omega (arith, c.loop-place-test.true))
      c.loop-place.invariant.bytes (search rules);
  len = omega (arith, c.insert.ensures.len, c.loop-place.invariant.len);
}
