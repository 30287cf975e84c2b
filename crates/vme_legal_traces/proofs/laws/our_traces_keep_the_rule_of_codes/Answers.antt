use Rattle.vme_legal_traces.proofs.Coded.{trace_coded}
use Rattle.vme_legal_traces.proofs.laws.our_traces_keep_the_rule_of_codes.Goals as goal

pub returns : goal.returns
returns c = λ config slots timeout lawful. trace_coded config lawful slots timeout
