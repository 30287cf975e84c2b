use Rattle.std.proofs.Common.{true}
use Rattle.vme_legal_traces.proofs.Placed.{trace_placed}
use Rattle.vme_legal_traces.proofs.laws.our_traces_keep_the_rule_of_undefined_lines.Goals as goal

pub returns : goal.returns
returns c = λ config slots timeout lawful. trace_placed config lawful slots timeout true
