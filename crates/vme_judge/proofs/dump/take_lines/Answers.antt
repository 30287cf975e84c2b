use Rattle.vme_judge.specs.Standing.{sample_taken}
use Rattle.vme_judge.proofs.Dumps.{takes_illegal, takes_legal}
use Rattle.vme_judge.proofs.dump.take_lines.Goals as goal

pub returns-then-branch : goal.returns-then-branch
returns-then-branch c = λ stood.
    takes_legal c.args.judge.now c.take.new.self (sample_taken c.args.spot c.args.undefined c.args.sample.now)
    c.in_ok-take.field-0 stood c.if-branch.true c.in_ok-take.ensures.standing c.in_ok-take.ensures.legal

pub returns : goal.returns
returns c = λ stood.
    takes_illegal c.args.judge.now c.take.new.self c.goes_on.new.self (sample_taken c.args.spot c.args.undefined c.args.sample.now)
    c.goes_on.result stood c.in_ok-take.ensures.standing c.goes_on.ensures.resumes c.goes_on.ensures.goes
