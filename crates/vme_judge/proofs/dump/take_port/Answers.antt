use Rattle.vme_judge.proofs.Dumps.{takes_judged, takes_waiting}
use Rattle.vme_judge.proofs.dump.take_port.Goals as goal

pub returns-then-not-is_begun : goal.returns-then-not-is_begun
returns-then-not-is_begun c = λ stood.
    takes_waiting _ _ _ _ _ _ _ c.in-Some.is c.is_begun.ensures c.if-not-is_begun.true stood

pub returns : goal.returns
returns c = λ stood.
    takes_judged _ _ _ _ _ _ _ _ _ c.in-Some.is c.is_begun.ensures c.if-not-is_begun.false (c.take_done.ensures stood)
