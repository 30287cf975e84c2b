use Rattle.vme_arbiter.proofs.Shares.{grant-holds, holder-granted, waits-elsewhere, waits-by_order, waits-three}
use Rattle.vme_arbiter.proofs.laws.at_most_three_go_before.Goals as goal

pub returns-clause-granted : goal.returns-clause-granted
returns-clause-granted c = grant-holds

pub returns-clause-every : goal.returns-clause-every
returns-clause-every c = holder-granted

pub returns-clause-elsewhere : goal.returns-clause-elsewhere
returns-clause-elsewhere c = waits-elsewhere

pub returns-clause-by_order : goal.returns-clause-by_order
returns-clause-by_order c = waits-by_order

pub returns-clause-three : goal.returns-clause-three
returns-clause-three c = waits-three
