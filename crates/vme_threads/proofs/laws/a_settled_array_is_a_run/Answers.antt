use Rattle.vme_threads.proofs.Settlements.{run_of_array}
use Rattle.vme_threads.proofs.laws.a_settled_array_is_a_run.Goals as goal

pub returns : goal.returns
returns c = run_of_array
