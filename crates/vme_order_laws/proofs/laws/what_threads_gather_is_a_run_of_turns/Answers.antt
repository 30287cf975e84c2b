use Rattle.vme_order_laws.proofs.Orders.{gathered_by_turns}
use Rattle.vme_order_laws.proofs.laws.what_threads_gather_is_a_run_of_turns.Goals as goal

pub returns : goal.returns
returns c = λ config passes homes report lawful g. gathered_by_turns config lawful passes homes report g
