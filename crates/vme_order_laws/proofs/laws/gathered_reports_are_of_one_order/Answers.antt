use Rattle.vme_order_laws.proofs.Reports.{report_of_one_order}
use Rattle.vme_order_laws.proofs.laws.gathered_reports_are_of_one_order.Goals as goal

pub returns : goal.returns
returns c = report_of_one_order
