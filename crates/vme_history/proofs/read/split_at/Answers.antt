use Rattle.vme_history.proofs.Cuts.{cut_found, cut_next}
use Rattle.vme_history.proofs.read.split_at.Goals as goal

pub returns-in-Some : goal.returns-in-Some
returns-in-Some c =
    cut_found c.args.text.now c.args.mark.now c.split_at.result.0.now c.split_at.result.1.now c.in-Some.after.now c.loop-i.i c.loop-i-test.true
    c.split_at.ensures.front c.split_at.ensures.back c.in-Some.ensures c.loop-i.invariant

pub loop-i-preserved : goal.loop-i-preserved
loop-i-preserved c =
    cut_next c.args.text.now c.args.mark.now c.split_at.result.1.now c.loop-i.i c.loop-i-test.true c.split_at.ensures.back c.in-None.ensures
    c.loop-i.invariant
