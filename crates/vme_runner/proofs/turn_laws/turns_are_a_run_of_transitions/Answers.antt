use Rattle.vme_runner.proofs.Followed.{are_run}
use Rattle.vme_runner.proofs.turn_laws.turns_are_a_run_of_transitions.Goals as goal

pub returns : goal.returns
returns c = are_run
