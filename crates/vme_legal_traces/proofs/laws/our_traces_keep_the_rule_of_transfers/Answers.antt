use Rattle.std.proofs.Common.{false}
use Rattle.vme_legal_traces.proofs.Placed.{trace_placed}
use Rattle.vme_legal_traces.proofs.laws.our_traces_keep_the_rule_of_transfers.Goals as goal

pub returns : goal.returns
returns c = λ config slots timeout lawful. trace_placed config lawful slots timeout false
