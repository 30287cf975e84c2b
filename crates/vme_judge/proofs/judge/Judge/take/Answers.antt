use Rattle.std.proofs.Common.{sym, ◌∙◌}
use Rattle.vme_judge.proofs.Samples.{fallen_is, fallen_stays, goes_then, stands_then}
use Rattle.vme_judge.specs.Standing.{sample_taken}
use Rattle.vme_judge.proofs.judge.Judge.take.Goals as goal

pub returns-then-is_some-clause-standing : goal.returns-then-is_some-clause-standing
returns-then-is_some-clause-standing c =
    fallen_stays c.args.self.now (sample_taken c.args.spot c.args.undefined c.args.sample.now) (sym c.is_some.ensures ∙ c.if-is_some.true)

pub returns-then-is_some-clause-legal : goal.returns-then-is_some-clause-legal
returns-then-is_some-clause-legal c = fallen_is c.args.self.now (sym c.is_some.ensures ∙ c.if-is_some.true)

pub returns-clause-standing : goal.returns-clause-standing
returns-clause-standing c =
    stands_then c.args.self.now c.step.new.self c.args.spot c.args.undefined c.args.sample.now c.step.result (sym c.is_some.ensures ∙ c.if-is_some.false)
    c.step.ensures.step

pub returns-clause-legal : goal.returns-clause-legal
returns-clause-legal c = goes_then c.args.self.now c.step.new.self c.step.result (sym c.is_some.ensures ∙ c.if-is_some.false) c.step.ensures.legal
