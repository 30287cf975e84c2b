use Rattle.vme_run.proofs.lemmas.Histories.{is_report}
use Rattle.vme_run.proofs.laws.one_order_has_a_history_of_each_object.Goals as goal

pub returns : goal.returns
returns c = is_report
