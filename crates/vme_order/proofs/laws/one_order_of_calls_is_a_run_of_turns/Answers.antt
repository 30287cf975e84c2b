use Rattle.vme_order.proofs.lemmas.Turns.{order_is_turns}
use Rattle.vme_order.proofs.laws.one_order_of_calls_is_a_run_of_turns.Goals as goal

pub returns : goal.returns
returns g c = order_is_turns
