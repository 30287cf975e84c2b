use Rattle.vme_legal_traces.proofs.Unchanged.{trace_unchanged}
use Rattle.vme_legal_traces.proofs.laws.our_traces_keep_the_rule_of_data.Goals as goal

pub returns : goal.returns
returns c = λ config slots timeout lawful. trace_unchanged config lawful slots timeout
