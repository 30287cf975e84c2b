use Rattle.vme_legal_traces.proofs.Each.{legal}
use Rattle.vme_legal_traces.proofs.laws.traces_that_keep_each_rule_are_legal.Goals as goal

pub returns : goal.returns
returns c = legal
