use Rattle.vme_judge.specs.Dumps.{breach_taken}
use Rattle.vme_judge.proofs.Dumps.{takes_illegal}
use Rattle.vme_judge.proofs.dump.take_breach.Goals as goal

pub returns : goal.returns
returns c = λ stood.
    takes_illegal c.args.judge.now c.port_breaks.new.self c.goes_on.new.self (breach_taken c.args.spot c.args.slot c.args.rule)
    c.goes_on.result stood c.port_breaks.ensures.standing c.goes_on.ensures.resumes c.goes_on.ensures.goes
