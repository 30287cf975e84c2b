-- A request to a lock or a mailbox is attempted by its task.
use Rattle.std.proofs.Common.{◌≡◌, Option, Some, None, Result, Ok, ap}
use Rattle.vme_cycle.specs.declared.fault.CycleFault.{CycleFault}
use Rattle.vme_shared.specs.Mailboxes.{shared_refusal}
use Rattle.vme_shared.specs.Tables.{SharedJob}
use Rattle.vme_shared.specs.Machine.{SharedView, shared_fresh, shared_started, shared_task}
use Rattle.vme_line_task.specs.declared.attempt.AttemptTask.{AttemptTask}
use Rattle.vme_line_task.specs.declared.attempt.AttemptTask.TheVariants as tasks
use Rattle.vme_line_task.specs.Scripts.{Sharing, unless_refused}
use Rattle.vme_line_task.specs.Machine.{fresh_of}

-- the attempt of a request to a lock or a mailbox, by its task
pub shares_so : (s : SharedJob) (v : SharedView) → Ok v ≡ shared_task s
    → Ok (tasks.Shared v) ≡ fresh_of (unless_refused (Sharing s) (shared_refusal s.request))
shares_so s v is = by_refusal (shared_refusal s.request) is
  where
    by_refusal : (refusal : Option CycleFault) → Ok v ≡ shared_started s refusal
        → Ok (tasks.Shared v) ≡ fresh_of (unless_refused (Sharing s) refusal)
    by_refusal None is =
        let fresh : v ≡ shared_fresh s = cc in
        ap (λ (u : SharedView). let r : Result AttemptTask CycleFault = Ok (tasks.Shared u) in r) fresh
    by_refusal (Some fault) is = absurd cc
