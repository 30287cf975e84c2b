-- The state after a run from an opening state.
use Rattle.vme_core.proofs.lemmas.RunSteps.{opened_boards}
use Rattle.vme_core.proofs.laws.opening_is_replayed.Goals as goal

-- by the lemma on each board
pub returns-clause-boards : goal.returns-clause-boards
returns-clause-boards c = opened_boards
