use Rattle.vme_judge.proofs.DumpRuns.{last_only, last_stopped, last_taken, still_going}
use Rattle.vme_judge.proofs.run.Run.take_last.Goals as goal

pub returns-then-not-goes_on-clause-samples : goal.returns-then-not-goes_on-clause-samples
returns-then-not-goes_on-clause-samples c = λ samples last going.
    last_stopped c.args.self.now c.take_shown.new.self c.args.step samples c.in_ok-goes_on.goes_on c.in-Sample.is last
    (c.in_ok-goes_on.ensures.sample going) (c.in_ok-goes_on.ensures.going going) c.if-not-goes_on.true

pub returns-clause-samples : goal.returns-clause-samples
returns-clause-samples c = λ samples last going.
    last_taken c.args.self.now c.take_shown.new.self c.take_shown-2.new.self c.last_sample.new.self c.args.step c.last_sample.result samples
    c.in-Sample.is last (c.in_ok-goes_on.ensures.sample going) c.last_sample.ensures c.in-Sample-last_sample.is
    (c.in_ok-take_shown.ensures.sample
    (still_going c.take_shown.new.self c.in_ok-goes_on.goes_on (c.in_ok-goes_on.ensures.going going) c.if-not-goes_on.false))

pub returns-in_default-last_sample-clause-samples : goal.returns-in_default-last_sample-clause-samples
returns-in_default-last_sample-clause-samples c = λ samples last going.
    last_only c.args.self.now c.take_shown.new.self c.last_sample.new.self c.args.step c.last_sample.result samples c.in-Sample.is last
    (c.in_ok-goes_on.ensures.sample going) c.last_sample.ensures c.in_default-last_sample.not-Sample
