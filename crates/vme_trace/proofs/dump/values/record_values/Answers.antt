use Rattle.std.proofs.Common.{List, None, set, get_or, ap, ◌∙◌}
use Rattle.vme_trace.specs.declared.dump.change.Code.{Code}
use Rattle.vme_trace.specs.declared.dump.change.Value.TheVariants.{Low}
use Rattle.vme_trace.specs.declared.dump.values.Shown.{Shown}
use Rattle.vme_trace.specs.Values.{shown_after}
use Rattle.vme_trace.proofs.Mapping.{map_next}
use Rattle.vme_trace.proofs.dump.values.record_values.Goals as goal

pub loop-one-preserved : goal.loop-one-preserved
loop-one-preserved c =
    let f : Shown → Shown = shown_after c.args.changes.now in
    let old : List Shown = c.args.values.now in
    let i = c.loop-one.one-index in
    let code : Code = record { first = 0; second = None } in
    let none : Shown = record { code = code; value = Low } in
    ap (set c.loop-one.values i) c.after.ensures
    ∙ ap (λ (values : List Shown). set values i (f (get_or values i none))) c.loop-one.invariant
    ∙ map_next f old i none c.loop-one-test.true
