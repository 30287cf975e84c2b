-- A task that found its lock taken and has begun again in its place.
use Rattle.std.specs.Prelude.{ℕ, ◌≡◌, ◌≢◌, None}
use Rattle.vme_core.specs.Runs.{Machine}
use Rattle.vme_core.specs.NextSteps.{NotStarted, Returns}
use Rattle.vme_core.specs.Advances.{AdvancesOn}
use Rattle.vme_shared.specs.declared.outcome.SharedOutcome.{SharedOutcome}
use Rattle.vme_shared.specs.declared.outcome.SharedOutcome.TheVariants as shared
use Rattle.vme_shared.specs.Machine.{SharedView, shared_fresh, shared_advance, shared_to_do}

-- a task makes its next call for a processor and advances by the reply to its end, since the lock was already taken; then
-- it is the task of the same request after its first call
pub record RetriesOn (who : ℕ) (before after : Machine) (old new : SharedView) : Type 0 where
  pub going : (end : SharedOutcome) → shared_to_do old ≢ Returns end
  pub ended : SharedView
  pub advances : AdvancesOn shared_to_do shared_advance who before after old ended
  pub busy : shared_to_do ended ≡ Returns shared.Busy
  pub again : new ≡ shared_advance (shared_fresh ended.job) None
  pub begun : shared_to_do new ≢ NotStarted
