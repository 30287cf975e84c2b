use Rattle.vme_run.proofs.lemmas.Turns.{one_order}
use Rattle.vme_run.proofs.laws.one_order_is_a_run_of_turns.Goals as goal

pub returns : goal.returns
returns c = one_order
