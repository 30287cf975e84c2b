use Rattle.vme_runner.proofs.Declared.{has_history, declared_queue}
use Rattle.vme_runner.proofs.queue_laws.declared_mailboxes_are_queues.Goals as goal

pub returns-clause-each : goal.returns-clause-each
returns-clause-each c = λ config report is k lawful less. has_history config report is k lawful less

pub returns-clause-proper : goal.returns-clause-proper
returns-clause-proper c = λ config report is box m h lawful at. (declared_queue config report is box m h lawful at).is_proper

pub returns-clause-order : goal.returns-clause-order
returns-clause-order c = λ config report is box m h lawful at. (declared_queue config report is box m h lawful at).order

pub returns-clause-capacity : goal.returns-clause-capacity
returns-clause-capacity c = λ config report is box m h lawful at. (declared_queue config report is box m h lawful at).capacity

pub returns-clause-put : goal.returns-clause-put
returns-clause-put c = λ config report is box m h lawful at. (declared_queue config report is box m h lawful at).put

pub returns-clause-taken : goal.returns-clause-taken
returns-clause-taken c = λ config report is box m h lawful at. (declared_queue config report is box m h lawful at).taken
