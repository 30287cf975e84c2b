-- One more digit does not overflow, and is read.
use Rattle.std.proofs.Common.{None, refl, arith}
use Rattle.std.proofs.lemmas.List.{drop_more}
use Rattle.vme_lexer.proofs.Digits.{digit_fits, read_more}
use Rattle.vme_lexer.proofs.numbers.hex_number.Goals as goal

pub overflow_mul-number : goal.overflow_mul-number
overflow_mul-number c =
    let bound = digit_fits c.loop-digit.number c.loop-digit.digit-index 4294967296 None (omega arith) refl c.loop-digit.invariant.bound in
    omega (arith, bound)

pub overflow_add-number : goal.overflow_add-number
overflow_add-number c =
    let bound = digit_fits c.loop-digit.number c.loop-digit.digit-index c.hex_digit.result _ (omega arith) c.hex_digit.ensures.digit c.loop-digit.invariant.bound in
    omega (arith, bound)

pub loop-digit-preserved : goal.loop-digit-preserved
loop-digit-preserved c =
    let word = c.args.word.now in
    let k = c.loop-digit.digit-index in
    let so = rw (drop_more word k 0 (omega arith)) at c.loop-digit.invariant in
    read_more c.loop-digit.number k _ c.hex_digit.result _ word (omega arith) c.hex_digit.ensures.digit so
