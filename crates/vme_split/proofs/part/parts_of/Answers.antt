-- A round appends the next part, or finds no bytes left.
use Rattle.std.proofs.Common.{◌≡◌, ◌∙◌, ap, ◌++◌, ◌-◌, ◌+◌, ◌<◌, ◌≤◌, arith}
use Rattle.vme_split.proofs.Parts.{within, next_part, no_bytes}
use Rattle.vme_split.proofs.part.parts_of.Goals as goal
use Rattle.vme_split.proofs.part.parts_of.Goals.{then-rest-gt0, else-rest-gt0}

pub loop-round-preserved : goal.loop-round-preserved
loop-round-preserved c =
    let before = c.loop-round in
    elim c.if-rest-gt0.branch [
      | then-rest-gt0 w ↦
          let below : before._round < 4 = omega arith in
          let len = w.part_len-len.result in
          let bound : len ≤ before.rest = rw w.part_len-len.ensures (within c.args.width before.at before.rest w.if-rest-gt0.true) in
          record {
            most = rw w.parts-is (omega (arith, w.push.ensures.len, before.invariant.most));
            end = omega (arith, w.at-is, w.rest-is, w.from-at.ensures, bound, before.invariant.end);
            parts = rw (w.parts-is, w.at-is, w.rest-is, w.from-at.ensures)
                (next_part before._round c.args.width before.at before.rest len before.parts.items w.push.new.self.items _ below
                w.if-rest-gt0.true w.part_len-len.ensures w.push.ensures.items before.invariant.parts);
          }
      | else-rest-gt0 w ↦
          let none : before.rest ≡ 0 = omega (arith, w.if-rest-gt0.false) in
          record {
            most = rw w.parts-is (omega (arith, before.invariant.most));
            end = omega (arith, w.at-is, w.rest-is, before.invariant.end);
            parts = rw (w.parts-is, w.at-is, w.rest-is)
                (ap (λ more. before.parts.items ++ more) (no_bytes (4 - (before._round + 1)) (4 - before._round) c.args.width before.at before.rest none)
                ∙ before.invariant.parts);
          }
    ]
