-- Each step halves the ranks that remain, and after the last step none remains.
use Rattle.std.proofs.Common.{◌≡◌, ◌+◌, ◌-◌, ◌*◌, subst, arith}
use Rattle.vme_decode.proofs.Halving.{Splits, halved, parted_at}
use Rattle.vme_decode.proofs.table.count_up_to.Goals as goal

pub loop-step-preserved : goal.loop-step-preserved
loop-step-preserved c =
    halved _ c.args.top _ _ c.from.result (omega arith) (omega arith) c.loop-step.invariant c.from.ensures

pub returns-clause-parted : goal.returns-clause-parted
returns-clause-parted c = λ parted.
    let last : c.loop-step.count + (2 * c.loop-step.step - 1) ≡ c.loop-step.count = omega arith in
    let split = subst (Splits c.args.ranks.now c.args.top c.loop-step.count) last (c.loop-step.invariant.split parted) in
    parted_at c.args.ranks.now c.args.top c.loop-step.count (omega arith) (omega arith) split
