use Rattle.vme_object.proofs.lemmas.Histories.{replay-append, legal-append, legal-begins}
use Rattle.vme_object.proofs.laws.histories_compose.Goals as goal

pub returns-clause-replayed : goal.returns-clause-replayed
returns-clause-replayed g c = replay-append g.O.Object.step

pub returns-clause-goes_on : goal.returns-clause-goes_on
returns-clause-goes_on g c = legal-append g.O.Object.step

pub returns-clause-begins : goal.returns-clause-begins
returns-clause-begins g c = legal-begins g.O.Object.step
