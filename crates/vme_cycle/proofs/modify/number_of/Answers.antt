-- One more byte fits in the number.
use Rattle.std.proofs.Common.{arith}
use Rattle.vme_cycle.proofs.lemmas.Numbers.{below_power}
use Rattle.vme_cycle.proofs.modify.number_of.Goals as goal

pub overflow_mul-number : goal.overflow_mul-number
overflow_mul-number c =
    let capacity = below_power 256 c.loop-byte.number c.loop-byte.byte-index 7 (omega arith) c.loop-byte.invariant.small (omega (arith, c.loop-byte-test.true, c.requires)) in
    omega (arith, capacity)

pub returns-clause-small : goal.returns-clause-small
returns-clause-small c =
    let capacity = below_power 256 c.loop-byte.number c.loop-byte.byte-index 8 (omega arith) c.loop-byte.invariant.small (omega (arith, c.loop-byte-test.false, c.requires)) in
    omega (arith, capacity)
