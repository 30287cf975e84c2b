use Rattle.std.proofs.Common.{◌≡◌, ◌-◌, List, [], drop, sym, ap, ◌∙◌}
use Rattle.std.proofs.lemmas.List.{drop_all}
use Rattle.vme_trace.specs.declared.dump.change.Change.{Change}
use Rattle.vme_trace.specs.Shown.{value_over}
use Rattle.vme_trace.proofs.Edges.{over_none}
use Rattle.vme_trace.proofs.dump.latest.value_over.Goals as goal

pub returns : goal.returns
returns c =
    let latest = c.loop-change.latest in
    let count = c.args.end - latest.edge in
    let none : drop c.loop-change.change-index c.args.changes.now ≡ [] = drop_all c.loop-change.change-index c.args.changes.now c.loop-change-test.false in
    sym (over_none c.args.code latest.edge count latest.value)
    ∙ ap (λ (changes : List Change). value_over c.args.code changes latest.edge count latest.value) (sym none) ∙ c.loop-change.invariant
