use Rattle.vme_mailbox_laws.proofs.lemmas.LinesApart.{left_alone}
use Rattle.vme_mailbox_laws.proofs.isolation_laws.declared_mailboxes_are_left_alone.Goals as goal

pub returns : goal.returns
returns c = record { lines = left_alone }
