use Rattle.vme_shared.proofs.lemmas.Tenures.{calls_below}
use Rattle.vme_shared.proofs.laws.shared_tasks_call_boards_of_the_map.Goals as goal

pub returns : goal.returns
returns c = calls_below
