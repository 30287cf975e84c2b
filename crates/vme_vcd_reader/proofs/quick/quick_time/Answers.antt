use Rattle.std.proofs.Common.{◌≡◌, ◌-◌, ◌≤◌, ◌<◌, suc, get_or, length, drop, take, refl, arith}
use Rattle.vme_vcd_reader.proofs.Lines.{rest_at, time_line, time_step, whole_step}
use Rattle.vme_vcd_reader.proofs.quick.quick_time.Goals as goal

pub loop-place-preserved : goal.loop-place-preserved
loop-place-preserved c =
    let digits = take (length c.args.text.now - 1) (drop 1 c.args.text.now) in
    let k = c.loop-place.place in
    let within : k < length digits = omega arith in
    let low : 48 ≤ get_or digits k 0 = omega arith in
    let high : get_or digits k 0 ≤ 57 = omega arith in
    record {
      whole = whole_step digits k within low c.loop-place.invariant.whole;
      number = time_step digits k c.loop-place.time _ within low high c.loop-place.invariant.small
          (omega (arith, c.from.ensures, c.loop-place.invariant.small)) c.loop-place.invariant.number;
      small = omega arith;
    }

pub returns-then-byte-eq10 : goal.returns-then-byte-eq10
returns-then-byte-eq10 c =
    let text = c.args.text.now in
    let digits = take (length text - 1) (drop 1 text) in
    let k = c.loop-place.place in
    let within : k < length digits = omega arith in
    let next : c.saturating_add.result ≡ suc k = omega (arith, c.saturating_add.ensures) in
    time_line text digits c.in_ok-rest.rest.now k c.loop-place.time (omega arith) (omega arith) refl (omega arith) within (omega arith)
    c.loop-place.invariant.whole c.loop-place.invariant.number
    (rest_at digits c.in_ok-rest.rest.now c.saturating_add.result k next c.in_ok-rest.ensures.lookup.0.2)
