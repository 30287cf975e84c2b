use Rattle.vme_order.proofs.lemmas.Gathered.{gathered_is_turns}
use Rattle.vme_order.proofs.laws.what_is_gathered_is_a_run_of_turns.Goals as goal

pub returns : goal.returns
returns g c = gathered_is_turns g.O.Object.step
