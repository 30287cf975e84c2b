use Rattle.vme_legal_traces.proofs.Granted.{trace_granted}
use Rattle.vme_legal_traces.proofs.laws.our_traces_keep_the_rule_of_grants.Goals as goal

pub returns : goal.returns
returns c = λ config slots timeout lawful order. trace_granted config lawful order slots timeout
