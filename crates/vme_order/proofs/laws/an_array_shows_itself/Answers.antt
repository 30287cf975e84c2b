use Rattle.vme_order.proofs.lemmas.Gathered.{shows_itself}
use Rattle.vme_order.proofs.laws.an_array_shows_itself.Goals as goal

pub returns : goal.returns
returns g c = shows_itself g.O.Object.step
