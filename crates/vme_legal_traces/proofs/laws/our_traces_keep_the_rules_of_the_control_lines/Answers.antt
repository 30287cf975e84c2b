use Rattle.vme_legal_traces.proofs.Decided.{control_kept}
use Rattle.vme_legal_traces.proofs.laws.our_traces_keep_the_rules_of_the_control_lines.Goals as goal

pub returns : goal.returns
returns c = λ config slots timeout rule lawful is. control_kept config lawful slots timeout rule is
