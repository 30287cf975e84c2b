use Rattle.std.proofs.Common.{List, set, get_or, None, ap, ◌∙◌}
use Rattle.vme_trace.specs.declared.dump.change.Code.{Code}
use Rattle.vme_trace.specs.declared.dump.change.Value.TheVariants.{Low}
use Rattle.vme_page.specs.declared.diagram.layout.Bar.{Bar}
use Rattle.vme_page.specs.Layouts.{bar_past}
use Rattle.vme_page.proofs.Lines.{map_next}
use Rattle.vme_page.proofs.diagram.layout.record_bars.Goals as goal

pub loop-bar-preserved : goal.loop-bar-preserved
loop-bar-preserved c =
    let f : Bar → Bar = bar_past c.args.window c.args.changes.now in
    let old : List Bar = c.args.bars.now in
    let i = c.loop-bar.bar-index in
    let no_code : Code = record { first = 0; second = None } in
    let none : Bar = record { slot = 0; level = 0; request_code = no_code; request = Low; busy_code = no_code; busy = Low } in
    ap (set c.loop-bar.bars i) c.past.ensures
    ∙ ap (λ (bars : List Bar). set bars i (f (get_or bars i none))) c.loop-bar.invariant
    ∙ map_next f old i none c.loop-bar-test.true
