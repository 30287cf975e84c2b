use Rattle.vme_master.proofs.lemmas.Tenures.{data_go_on, nowhere_ends}
use Rattle.vme_master.proofs.lemmas.Locals.{local_calls}
use Rattle.vme_master.proofs.laws.data_go_in_order.Goals as goal

pub returns-clause-data : goal.returns-clause-data
returns-clause-data c = data_go_on

pub returns-clause-local : goal.returns-clause-local
returns-clause-local c = local_calls

pub returns-clause-nowhere : goal.returns-clause-nowhere
returns-clause-nowhere c = nowhere_ends
