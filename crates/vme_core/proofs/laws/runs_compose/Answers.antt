-- A run that continues another one.
use Rattle.vme_core.proofs.lemmas.RunSteps.{did_trans}
use Rattle.vme_core.proofs.laws.runs_compose.Goals as goal

-- by the lemma on runs
pub returns-clause-goes_on : goal.returns-clause-goes_on
returns-clause-goes_on c = did_trans
