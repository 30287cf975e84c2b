use Rattle.vme_mailbox_laws.proofs.lemmas.Lawful.{lies_at, lies_in, accepted}
use Rattle.vme_mailbox_laws.proofs.queue_laws.declared_mailboxes_lie_in_their_boards.Goals as goal

pub returns-clause-addresses : goal.returns-clause-addresses
returns-clause-addresses c = λ config mailbox lawful fine. lies_at config lawful mailbox fine

pub returns-clause-memory : goal.returns-clause-memory
returns-clause-memory c = λ config mailbox lawful fine. lies_in config lawful mailbox fine

pub returns-clause-accepted : goal.returns-clause-accepted
returns-clause-accepted c = λ config mailbox lawful fine. accepted config lawful mailbox fine
