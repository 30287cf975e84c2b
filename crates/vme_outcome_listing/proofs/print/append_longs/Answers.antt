use Rattle.std.proofs.Common.{◌≡◌, ◌+◌, ℕ, ap}
use Rattle.vme_outcome_listing.proofs.Outputs.{longs_next}
use Rattle.vme_outcome_listing.proofs.print.append_longs.Goals as goal

pub loop-paragraph-preserved : goal.loop-paragraph-preserved
loop-paragraph-preserved c =
    let at = c.loop-paragraph.paragraph-index in
    let count : c.loop-paragraph.number + 1 ≡ at + 1 = ap (λ (n : ℕ). n + 1) c.loop-paragraph.invariant.count in
    record {
      count = count;
      text = longs_next c.loop-paragraph.text.items c.append_long.new.text.items _ c.args.paragraphs.now at (c.loop-paragraph.number + 1)
          c.paragraph-item.result c.loop-paragraph.invariant.text c.in_ok-append_long.ensures count c.loop-paragraph-test.true c.paragraph-item.is;
    }
