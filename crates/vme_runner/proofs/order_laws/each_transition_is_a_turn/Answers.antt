use Rattle.vme_runner.proofs.Orders.{turn_after}
use Rattle.vme_runner.proofs.order_laws.each_transition_is_a_turn.Goals as goal

pub returns : goal.returns
returns c = turn_after
