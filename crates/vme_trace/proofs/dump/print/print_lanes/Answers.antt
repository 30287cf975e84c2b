use Rattle.std.proofs.Common.{◌+◌, ◌-◌, ◌++◌, sym, ap, ◌∙◌, append_assoc}
use Rattle.std.specs.List.{flat_map, range_with_len}
use Rattle.vme_trace.specs.Changes.{lane_text}
use Rattle.vme_trace.proofs.Ranges.{range_next}
use Rattle.vme_trace.proofs.dump.print.print_lanes.Goals as goal

pub loop-i-preserved : goal.loop-i-preserved
loop-i-preserved c =
    let f = lane_text c.args.code c.args.lanes.now in
    let rest = flat_map f (range_with_len (c.loop-i.i + 1) (4 - (c.loop-i.i + 1))) in
    ap (λ text. text ++ rest) c.in_ok-print_lane.ensures
    ∙ append_assoc c.loop-i.text.items (f c.loop-i.i) rest
    ∙ ap (λ left. c.loop-i.text.items ++ left) (sym (range_next f c.loop-i.i 4 c.loop-i-test.true)) ∙ c.loop-i.invariant
