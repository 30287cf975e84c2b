use Rattle.vme_judge.specs.Logs.{access_taken}
use Rattle.vme_judge.proofs.Dumps.{takes_illegal, takes_legal}
use Rattle.vme_judge.proofs.dump.take_access.Goals as goal

pub returns-then-branch : goal.returns-then-branch
returns-then-branch c = λ stood.
    takes_legal c.args.judge.now c.access.new.self (access_taken c.args.spot c.args.slot c.args.access.now)
    c.in_ok-access.field-0 stood c.if-branch.true c.in_ok-access.ensures.standing c.in_ok-access.ensures.legal

pub returns : goal.returns
returns c = λ stood.
    takes_illegal c.args.judge.now c.access.new.self c.goes_on.new.self (access_taken c.args.spot c.args.slot c.args.access.now)
    c.goes_on.result stood c.in_ok-access.ensures.standing c.goes_on.ensures.resumes c.goes_on.ensures.goes
