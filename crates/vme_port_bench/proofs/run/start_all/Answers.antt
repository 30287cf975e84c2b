use Rattle.std.proofs.Common.{rules, ap}
use Rattle.std.proofs.lemmas.List.Elements.{All-rest, All-push, All-same}
use Rattle.vme_port_bench.specs.Workers.{HasBumped, IsSameWork}
use Rattle.vme_port_bench.proofs.run.start_all.Goals as goal

-- the pass of the next thread is the first of the remaining ones
pub loop-pass-preserved : goal.loop-pass-preserved
loop-pass-preserved g c =
    let was = c.loop-pass.invariant in
    let promise = c.in-Ok.ensures.ok in (
      search rules,
      search rules,
      All-rest (HasBumped c.args.promise.port.now 0) _ _ _ c.in-Some.ensures.steps.0 was.2,
      All-same (λ d. IsSameWork d.promise c.args.promise) _ _ c.push_reserved.ensures.items
          (All-push (λ d. IsSameWork d.promise c.args.promise) _ _ was.3 (ap (λ w. w.port.now) promise, ap (λ w. w.calls) promise)),
    )
