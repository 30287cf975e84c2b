use Rattle.vme_order.proofs.lemmas.Gathered.{one_order}
use Rattle.vme_order.proofs.laws.a_settled_array_has_one_order.Goals as goal

pub returns : goal.returns
returns g c = one_order g.O.Object.step
