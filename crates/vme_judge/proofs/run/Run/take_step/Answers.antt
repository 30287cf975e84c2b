use Rattle.vme_judge.proofs.DumpHeaders.{begins_going}
use Rattle.vme_judge.proofs.DumpRuns.{next_never, next_nothing, next_reported}
use Rattle.vme_judge.proofs.run.Run.take_step.Goals as goal

pub returns-in-More-clause-sample : goal.returns-in-More-clause-sample
returns-in-More-clause-sample c = λ shown is going. next_nothing c.args.self.now c.args.step shown c.in-More.is is

pub returns-in-Header-clause-sample : goal.returns-in-Header-clause-sample
returns-in-Header-clause-sample c = λ shown is going. absurd (next_never c.args.step c.args.self.now.vcd shown c.in-Header.is is)

pub returns-in-Sample-clause-sample : goal.returns-in-Sample-clause-sample
returns-in-Sample-clause-sample c = λ shown is going.
    next_reported c.args.self.now c.take_shown.new.self c.args.step c.take_shown.result shown c.in-Sample.is is
    (c.take_shown.ensures.sample going)
