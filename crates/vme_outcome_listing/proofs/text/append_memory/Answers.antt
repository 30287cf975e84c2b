use Rattle.std.proofs.Common.{◌∙◌, arith}
use Rattle.vme_outcome_listing.proofs.Texts.{row_added, no_row_left}
use Rattle.vme_outcome_listing.proofs.text.append_memory.Goals as goal

pub loop-row-preserved : goal.loop-row-preserved
loop-row-preserved c =
    let next = c.in-Some.ensures in (
      omega (arith, next.aligned),
      row_added c.args.slot c.loop-row.offset c.in-Some.row c.args.memory.now.bytes c.as_slice.result.now c.loop-row.text.items
          c.append_row.new.text.items _ c.loop-row.invariant.0 next.aligned next.order next.within next.zero (c.as_slice.ensures.value ∙ c.row.ensures)
          c.in_ok-append_row.ensures c.loop-row.invariant.1,
    )

pub returns : goal.returns
returns c =
    no_row_left c.args.slot c.loop-row.offset c.args.memory.now.bytes c.loop-row.text.items _ c.loop-row.invariant.0
    c.in_default.ensures.zero c.loop-row.invariant.1
