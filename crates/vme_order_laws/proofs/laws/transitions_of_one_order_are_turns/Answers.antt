use Rattle.vme_order_laws.proofs.Orders.{order_of_turns}
use Rattle.vme_order_laws.proofs.laws.transitions_of_one_order_are_turns.Goals as goal

pub returns : goal.returns
returns c = λ config run answers machine lawful one. order_of_turns config lawful run answers machine one
