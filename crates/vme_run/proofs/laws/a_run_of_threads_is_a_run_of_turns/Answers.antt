use Rattle.vme_run.proofs.lemmas.Reports.{report_of_turns}
use Rattle.vme_run.proofs.laws.a_run_of_threads_is_a_run_of_turns.Goals as goal

pub returns : goal.returns
returns c = report_of_turns
