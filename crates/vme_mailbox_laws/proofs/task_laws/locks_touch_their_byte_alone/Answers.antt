use Rattle.vme_mailbox_laws.proofs.Datums.{taken, lock_cleared}
use Rattle.vme_mailbox_laws.proofs.task_laws.locks_touch_their_byte_alone.Goals as goal

pub returns-clause-taken : goal.returns-clause-taken
returns-clause-taken c = taken

pub returns-clause-lock_cleared : goal.returns-clause-lock_cleared
returns-clause-lock_cleared c = lock_cleared
