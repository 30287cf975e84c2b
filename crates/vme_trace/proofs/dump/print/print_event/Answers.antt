use Rattle.std.proofs.Common.{◌+◌, ◌-◌, ◌++◌, sym, ap, ◌∙◌, append_assoc}
use Rattle.std.specs.List.{flat_map, range_with_len}
use Rattle.vme_trace.specs.Changes.{edge_text}
use Rattle.vme_trace.proofs.Ranges.{range_next}
use Rattle.vme_trace.proofs.dump.print.print_event.Goals as goal

pub loop-k-preserved : goal.loop-k-preserved
loop-k-preserved c =
    let f = edge_text c.args.n c.args.changes.now in
    let rest = flat_map f (range_with_len (c.loop-k.k + 1) (20 - (c.loop-k.k + 1))) in
    ap (λ text. text ++ rest) c.in_ok-print_edge.ensures
    ∙ append_assoc c.loop-k.text.items (f c.loop-k.k) rest
    ∙ ap (λ left. c.loop-k.text.items ++ left) (sym (range_next f c.loop-k.k 20 c.loop-k-test.true)) ∙ c.loop-k.invariant
