use Rattle.std.proofs.Common.{◌≡◌, ◌∙◌}
use Rattle.std.proofs.lemmas.List.Elements.{All-same, All-append}
use Rattle.vme_object.specs.declared.counter.CounterCmd.TheVariants.{Bump}
use Rattle.vme_port_bench.proofs.Bumps.{all_of_call}
use Rattle.vme_port_bench.proofs.worker.work.Goals as goal

pub loop-preserved : goal.loop-preserved
loop-preserved g c =
    let added = c.call.ensures.adds in (
      added.port ∙ c.loop.invariant.0,
      All-same (λ e. e.cmd ≡ Bump) _ _ added.mine (All-append (λ e. e.cmd ≡ Bump) _ _ c.loop.invariant.1 (all_of_call _ Bump c.call.result)),
    )
