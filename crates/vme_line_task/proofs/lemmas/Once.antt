-- Lines that are attempted once: all replies to them are replies to their one attempt.
use Rattle.std.proofs.Common.{◌≡◌, ℕ, false, [], ◌∷◌, refl, ap}
use Rattle.vme_core.specs.NextSteps.{NextStep, NotStarted, Invokes, Returns}
use Rattle.vme_master.specs.declared.job.Job.{Job}
use Rattle.vme_master.specs.declared.outcome.Outcome.{Outcome}
use Rattle.vme_master.specs.Tables.{Inputs, next_of}
use Rattle.vme_line_task.specs.Scripts.{Transferring}
use Rattle.vme_line_task.specs.Tables.{transferring_next, attempts_of, next_wants_retry}

-- the outcome of a transfer or of a local command never asks for another attempt
attempted_once : (next : NextStep Outcome) → next_wants_retry (transferring_next next) ≡ false
attempted_once NotStarted = refl
attempted_once (Invokes call) = refl
attempted_once (Returns outcome) = refl

-- all replies to a transfer or to a local command are replies to its one attempt
pub all_given : (job : Job) (tries : ℕ) (given : Inputs) → (attempts_of (Transferring job) tries given).given ≡ given
all_given job tries [] = refl
all_given job tries (last ∷ before) =
    rw (attempted_once (next_of job (last ∷ (attempts_of (Transferring job) tries before).given)))
    (ap (λ (g : Inputs). last ∷ g) (all_given job tries before))
