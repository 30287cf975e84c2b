use Rattle.vme_mailbox_laws.proofs.Within.{within, others}
use Rattle.vme_mailbox_laws.proofs.task_laws.puts_and_takes_stay_in_their_mailbox.Goals as goal

pub returns-clause-within : goal.returns-clause-within
returns-clause-within c = within

pub returns-clause-others : goal.returns-clause-others
returns-clause-others c = others
