use Rattle.vme_runner.proofs.Texts.{reported_lawful, reported_history, reported_queue}
use Rattle.vme_runner.proofs.queue_laws.texts_show_queues.Goals as goal

pub returns-clause-lawful : goal.returns-clause-lawful
returns-clause-lawful c = λ input text status reported. reported_lawful input text status reported

pub returns-clause-each : goal.returns-clause-each
returns-clause-each c = λ input text status reported k less. reported_history input text status reported k less

pub returns-clause-proper : goal.returns-clause-proper
returns-clause-proper c = λ input text status reported box m h at. (reported_queue input text status reported box m h at).is_proper

pub returns-clause-order : goal.returns-clause-order
returns-clause-order c = λ input text status reported box m h at. (reported_queue input text status reported box m h at).order

pub returns-clause-capacity : goal.returns-clause-capacity
returns-clause-capacity c = λ input text status reported box m h at. (reported_queue input text status reported box m h at).capacity

pub returns-clause-put : goal.returns-clause-put
returns-clause-put c = λ input text status reported box m h at. (reported_queue input text status reported box m h at).put

pub returns-clause-taken : goal.returns-clause-taken
returns-clause-taken c = λ input text status reported box m h at. (reported_queue input text status reported box m h at).taken
