use Rattle.vme_runner.proofs.Holders.{order_orderly, order_holder}
use Rattle.vme_runner.proofs.order_laws.data_move_for_the_holder.Goals as goal

pub returns-clause-orderly : goal.returns-clause-orderly
returns-clause-orderly c = order_orderly

pub returns-clause-holder : goal.returns-clause-holder
returns-clause-holder c = order_holder
