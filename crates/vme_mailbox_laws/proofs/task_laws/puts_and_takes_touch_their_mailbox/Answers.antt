use Rattle.vme_mailbox_laws.proofs.Datums.{touching, answered}
use Rattle.vme_mailbox_laws.proofs.task_laws.puts_and_takes_touch_their_mailbox.Goals as goal

pub returns-clause-touches : goal.returns-clause-touches
returns-clause-touches c = touching

pub returns-clause-answered : goal.returns-clause-answered
returns-clause-answered c = answered
