use Rattle.vme_threads.proofs.Gathering.{one_order_of}
use Rattle.vme_threads.proofs.laws.gathered_reports_have_one_order.Goals as goal

pub returns : goal.returns
returns c = one_order_of
