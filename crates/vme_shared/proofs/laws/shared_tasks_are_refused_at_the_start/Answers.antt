use Rattle.vme_shared.proofs.lemmas.Starts.{rests, asks, all_lawful}
use Rattle.vme_shared.proofs.laws.shared_tasks_are_refused_at_the_start.Goals as goal

pub returns-clause-rests : goal.returns-clause-rests
returns-clause-rests c = rests

pub returns-clause-asks : goal.returns-clause-asks
returns-clause-asks c = asks

pub returns-clause-later : goal.returns-clause-later
returns-clause-later c = all_lawful
