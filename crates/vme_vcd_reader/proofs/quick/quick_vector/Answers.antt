use Rattle.std.proofs.Common.{◌≡◌, ◌≤◌, ◌<◌, suc, get_or, length, arith}
use Rattle.vme_vcd_reader.proofs.Lines.{bits_step, ones_step, rest_at, vector_end}
use Rattle.vme_vcd_reader.proofs.quick.quick_vector.Goals as goal

pub loop-place-preserved : goal.loop-place-preserved
loop-place-preserved c =
    let digits = c.args.digits.now in
    let k = c.loop-place.place in
    let within : k < length digits = omega arith in
    let low : 48 ≤ get_or digits k 0 = omega arith in
    let high : get_or digits k 0 ≤ 49 = omega arith in
    record {
      are = bits_step digits k within low high c.loop-place.invariant.are;
      ones = ones_step digits k c.loop-place.ones c.wrapping_shl.result c.from.result within high c.loop-place.invariant.ones c.wrapping_shl.ensures
          (omega (arith, c.from.ensures));
    }

pub returns-then-digit-eq32 : goal.returns-then-digit-eq32
returns-then-digit-eq32 c =
    let digits = c.args.digits.now in
    let k = c.loop-place.place in
    let within : k < length digits = omega arith in
    let next : c.saturating_add.result ≡ suc k = omega (arith, c.saturating_add.ensures) in
    vector_end c.quick_end.result digits c.in_ok-rest.rest.now k c.loop-place.ones (omega arith) within (omega arith) c.loop-place.invariant.are
    c.loop-place.invariant.ones (rest_at digits c.in_ok-rest.rest.now c.saturating_add.result k next c.in_ok-rest.ensures.lookup.0.2)
    c.quick_end.ensures.name c.quick_end.ensures.bits
