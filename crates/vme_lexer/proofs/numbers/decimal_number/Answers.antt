-- One more digit does not overflow, and the number has at most `most` digits.
use Rattle.std.proofs.Common.{◌<◌, arith}
use Rattle.vme_cycle.proofs.lemmas.Numbers.{below_power}
use Rattle.vme_lexer.proofs.numbers.decimal_number.Goals as goal

pub overflow_mul-number : goal.overflow_mul-number
overflow_mul-number c =
    let bound = below_power 10 c.loop-digit.number c.loop-digit.digit-index 3 (omega arith) c.loop-digit.invariant.small (omega arith) in
    omega (arith, bound)

pub overflow_add-number : goal.overflow_add-number
overflow_add-number c =
    let bound = below_power 10 c.loop-digit.number c.loop-digit.digit-index 3 (omega arith) c.loop-digit.invariant.small (omega arith) in
    let digit : c.in_ok-decimal_digit.field-0 < 10 = c.in_ok-decimal_digit.ensures.small in
    omega (arith, bound, digit)

pub returns-clause-small : goal.returns-clause-small
returns-clause-small c =
    below_power 10 c.loop-digit.number c.loop-digit.digit-index c.args.most (omega arith) c.loop-digit.invariant.small
    (omega (arith, c.loop-digit.auto.digit-index-end, c.if-most-word.false))
