use Rattle.std.proofs.Common.{◌≡◌, ◌*◌, ◌∙◌, All, length, ap, arith}
use Rattle.std.proofs.lemmas.List.Elements.{All-weaker}
use Rattle.vme_object.specs.declared.counter.CounterCmd.TheVariants.{Bump}
use Rattle.vme_port.specs.Ports.{opening}
use Rattle.vme_port_bench.specs.Workers.{HasBumped}
use Rattle.vme_port_bench.proofs.Totals.{sum_of_equal}
use Rattle.vme_port_bench.proofs.Bumps.{settled_number}
use Rattle.vme_port_bench.proofs.run.run.Goals as goal

-- the history has as many entries as the passes made, each of them `calls`, and there are as many passes as threads
steps : goal.returns-clause-steps
steps g c =
    let calls = c.args.arguments.calls in
    let settled = c.in-Ok.ensures.settled in
    let made = All-weaker (HasBumped c.in_ok-port.port calls) (λ p. p.made ≡ calls) (λ p has. has.count) _ c.in_ok-passes.ensures.made in
    let total = c.calls_make_one_history.ensures.as_many _ _ _ _ _ settled in
    c.of.ensures.steps ∙ settled.counted ∙ total ∙ sum_of_equal (λ p. length p.mine) calls _ (λ i d less. settled.made i d less ∙ made i d less)
    ∙ ap (λ n. n * calls) (settled.all ∙ c.in_ok-port.ensures.passes)

pub returns-clause-steps : goal.returns-clause-steps
returns-clause-steps g c = steps g c

-- each entry is an increment of some pass, which adds one to the number
pub returns-clause-number : goal.returns-clause-number
returns-clause-number g c =
    let port = c.in_ok-port.port in
    let settled = c.in-Ok.ensures.settled in
    let bumps = All-weaker (HasBumped port c.args.arguments.calls) (λ p. All (λ e. e.cmd ≡ Bump) p.mine) (λ p has. has.bumps) _ c.in_ok-passes.ensures.made in
    let no_others = c.calls_make_one_history.ensures.no_others _ _ _ _ _ settled in
    let zero = c.in_ok-port.ensures.opening in
    let number = settled_number (opening port) _ _ _ c.in-Ok.steps settled no_others bumps (omega (arith, zero, c.of.ensures.fits)) in
    let total = steps g c in
    omega (arith, zero, number, total, c.of.ensures.number, c.of.ensures.steps)
