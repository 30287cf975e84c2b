use Rattle.vme_order_laws.proofs.Texts.{report_of_turns}
use Rattle.vme_order_laws.proofs.laws.gathered_reports_are_of_turns.Goals as goal

pub returns : goal.returns
returns c = report_of_turns
