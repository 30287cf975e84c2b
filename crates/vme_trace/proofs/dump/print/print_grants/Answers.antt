use Rattle.std.proofs.Common.{◌+◌, ◌-◌, ◌++◌, sym, ap, ◌∙◌, append_assoc}
use Rattle.std.specs.List.{flat_map, range_with_len}
use Rattle.vme_trace.specs.Changes.{grant_text}
use Rattle.vme_trace.proofs.Ranges.{range_next}
use Rattle.vme_trace.proofs.dump.print.print_grants.Goals as goal

pub loop-level-preserved : goal.loop-level-preserved
loop-level-preserved c =
    let f = grant_text c.args.code c.args.bits in
    let rest = flat_map f (range_with_len (c.loop-level.level + 1) (4 - (c.loop-level.level + 1))) in
    ap (λ text. text ++ rest) c.in_ok-print_grant.ensures
    ∙ append_assoc c.loop-level.text.items (f c.loop-level.level) rest
    ∙ ap (λ left. c.loop-level.text.items ++ left) (sym (range_next f c.loop-level.level 4 c.loop-level-test.true)) ∙ c.loop-level.invariant
