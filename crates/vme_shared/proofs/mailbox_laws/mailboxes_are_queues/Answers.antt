use Rattle.vme_shared.proofs.lemmas.Opening.{is_queue}
use Rattle.vme_shared.proofs.mailbox_laws.mailboxes_are_queues.Goals as goal

pub returns-clause-order : goal.returns-clause-order
returns-clause-order c = λ board m h new legal proper. (is_queue board m h new legal proper).order

pub returns-clause-capacity : goal.returns-clause-capacity
returns-clause-capacity c = λ board m h new legal proper. (is_queue board m h new legal proper).capacity
