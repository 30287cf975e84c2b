use Rattle.std.proofs.Common.{rules, sym, subst}
use Rattle.std.proofs.lemmas.List.Elements.{All-head, All-rest, All-push, All-same}
use Rattle.vme_port_bench.specs.Workers.{HasBumped, IsSameWork}
use Rattle.vme_port_bench.proofs.run.join_all.Goals as goal

-- the thread that is joined is the first of the remaining ones
pub loop-child-preserved : goal.loop-child-preserved
loop-child-preserved g c =
    let was = c.loop-child.invariant in
    let step = c.in-Some.ensures.steps.0 in
    let same = All-head (λ d. IsSameWork d.promise c.args.promise) _ _ (All-same (λ d. IsSameWork d.promise c.args.promise) _ _ (sym step) was.2) in
    let made = subst (λ p. HasBumped p c.args.promise.calls c.in-Some-join.pass) same.0 (subst (λ n. HasBumped c.in-Some.child.promise.port.now n c.in-Some-join.pass) same.1 c.in-Some-join.ensures) in (
      search rules,
      search rules,
      All-rest (λ d. IsSameWork d.promise c.args.promise) _ _ _ step was.2,
      All-same (HasBumped c.args.promise.port.now c.args.promise.calls) _ _ c.push_reserved.ensures.items (All-push (HasBumped c.args.promise.port.now c.args.promise.calls) _ _ was.3 made),
    )
