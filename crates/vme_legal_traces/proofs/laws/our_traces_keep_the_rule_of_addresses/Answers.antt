use Rattle.vme_legal_traces.proofs.Unmoved.{trace_unmoved}
use Rattle.vme_legal_traces.proofs.laws.our_traces_keep_the_rule_of_addresses.Goals as goal

pub returns : goal.returns
returns c = λ config slots timeout lawful. trace_unmoved config lawful slots timeout
