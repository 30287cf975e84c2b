use Rattle.std.proofs.Common.{rules, arith, refl, ◌≡◌, ◌+◌, ◌<◌, ◌∷◌, map, take}
use Rattle.std.specs.Str.Lines.{lines}
use Rattle.vme_faults.specs.Lines.{refusal_for, line_refusals}
use Rattle.vme_faults.proofs.Scripts.{line_found, line_passed}
use Rattle.vme_faults.proofs.script.faulty_lines.Goals as goal

pub loop-line-preserved-in-Continue-1 : goal.loop-line-preserved-in-Continue-1
loop-line-preserved-in-Continue-1 c =
    let some : 0 < c.loop-line.left = search rules in
    let read : lines c.loop-line.line-iterator.rest.now ≡ c.in-Some.line.now ∷ lines c.next.new.self.rest.now = search rules in
    let line = c.in-Some.line.now in
    let found = c.in-Some-fault_within.fault in
    record {
      faults = line_found c.args.context.now (c.loop-line.number + 1) c.loop-line.left line (lines c.next.new.self.rest.now)
          (lines c.loop-line.line-iterator.rest.now) c.loop-line.faults.items c.push.new.self.items
          (record { number = c.loop-line.number + 1; cause = found.cause; span = found.span })
          (line_refusals c.args.context.now 1 (take 1000 (lines c.args.text.now)))
          (search rules) refl (search rules) read some c.loop-line.invariant.faults;
      count = omega (arith, c.loop-line.invariant.count, some);
    }

pub loop-line-preserved : goal.loop-line-preserved
loop-line-preserved c =
    let some : 0 < c.loop-line.left = search rules in
    let read : lines c.loop-line.line-iterator.rest.now ≡ c.in-Some.line.now ∷ lines c.next.new.self.rest.now = search rules in
    let line = c.in-Some.line.now in
    record {
      faults = line_passed c.args.context.now (c.loop-line.number + 1) c.loop-line.left line (lines c.next.new.self.rest.now)
          (lines c.loop-line.line-iterator.rest.now) (map refusal_for c.loop-line.faults.items)
          (line_refusals c.args.context.now 1 (take 1000 (lines c.args.text.now)))
          (search rules) read some c.loop-line.invariant.faults;
      count = omega (arith, c.loop-line.invariant.count, some);
    }
