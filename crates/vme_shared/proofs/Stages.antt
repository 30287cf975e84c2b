-- The bus task of the current transfer is that of its stage. So a lock's that begins again is that of the first stage.
use Rattle.std.proofs.Common.{◌≡◌, ◌≢◌, ℕ, Option, Some, None, Result, Ok, Err, refl, ap, sym, ◌∙◌}
use Rattle.vme_cycle.specs.declared.fault.CycleFault.{CycleFault}
use Rattle.vme_core.specs.declared.event.EventReply.{EventReply}
use Rattle.vme_core.specs.Runs.{Machine}
use Rattle.vme_core.specs.Calls.{Call, machine_step}
use Rattle.vme_core.specs.NextSteps.{NextStep, NotStarted, Invokes, Returns, call_in}
use Rattle.vme_core.specs.Advances.{advanced_on, AdvancesOn}
use Rattle.vme_master.specs.declared.outcome.Outcome.{Outcome}
use Rattle.vme_master.specs.declared.job.Job.{Job}
use Rattle.vme_master.specs.declared.job.Job.TheVariants.{Bus, Local}
use Rattle.vme_master.specs.Machine.{TaskView, fresh_task, advance, to_do}
use Rattle.vme_master.proofs.lemmas.Stands.{job_stays}
use Rattle.vme_shared.specs.declared.outcome.SharedOutcome.{SharedOutcome}
use Rattle.vme_shared.specs.declared.outcome.SharedOutcome.TheVariants as shared
use Rattle.vme_shared.specs.declared.stage.Stage.{Stage}
use Rattle.vme_shared.specs.declared.stage.StageResult.{StageResult}
use Rattle.vme_shared.specs.declared.stage.StageResult.TheVariants.{Continue, Finish}
use Rattle.vme_shared.specs.declared.current.CurrentTransfer.{CurrentTransfer}
use Rattle.vme_shared.specs.declared.current.CurrentTransfer.TheVariants.{Running}
use Rattle.vme_shared.specs.Steps.{first_stage}
use Rattle.vme_shared.specs.Tables.{SharedJob, stage_job, task_shown}
use Rattle.vme_shared.specs.Machine.{SharedView, stage_fresh, stage_called, current_stepped, current_after, current_to_do, first_transfer, shared_fresh, shared_advance, IsOfStage, IsKept}
use Rattle.vme_shared.specs.Retries.{RetriesOn}
use Rattle.vme_shared.proofs.Advances.{called_begun, shared_advances}

-- a bus task that makes its own call keeps its job
pub advances_job : (who : ℕ) (before after : Machine) (old new : TaskView) → AdvancesOn to_do advance who before after old new
    → new.job ≡ old.job
advances_job who before after old new it = by (call_in (to_do old)) it.step
  where
    by : (call : Option Call) → (after, new) ≡ advanced_on advance call who before old → new.job ≡ old.job
    by None step = ap (λ (r : Machine × TaskView). r.1.job) step
    by (Some call) step =
        ap (λ (r : Machine × TaskView). r.1.job) step ∙ job_stays old old.phase (Some (machine_step before who call).1)

-- a transfer whose bus task makes its own call stays of its stage
pub advances_of_stage : (s : SharedJob) (stage : Stage) (who : ℕ) (before after : Machine) (old new : TaskView)
    → AdvancesOn to_do advance who before after old new → IsOfStage s (Running stage old) → IsOfStage s (Running stage new)
advances_of_stage s stage who before after old new it of = of ∙ ap (λ (job : Job). Ok job) (sym (advances_job who before after old new it))

-- a transfer whose bus task is given a reply, or none, stays of its stage
pub given_of_stage : (s : SharedJob) (stage : Stage) (old new : TaskView) (given : Option EventReply) → new ≡ advance old given
    → IsOfStage s (Running stage old) → IsOfStage s (Running stage new)
given_of_stage s stage old new given is of =
    of ∙ ap (λ (job : Job). Ok job) (sym (ap (λ (t : TaskView). t.job) is ∙ job_stays old old.phase given))

-- a bus task that has not ended shows no end
pub shows_no_end : (task : TaskView) → ((outcome : Outcome) → to_do task ≢ Returns outcome) → (end : SharedOutcome)
    → task_shown (to_do task) ≢ Returns end
shows_no_end task going end = by (to_do task) going
  where
    by : (next : NextStep Outcome) → ((outcome : Outcome) → next ≢ Returns outcome) → task_shown next ≢ Returns end
    by NotStarted going = λ same. absurd cc
    by (Invokes call) going = λ same. absurd cc
    by (Returns outcome) going = absurd (going outcome refl)

-- a stage before its first call is kept
fresh_kept : (s : SharedJob) (stage : Stage) (job : Result Job CycleFault) → stage_job s stage ≡ job → IsKept s (stage_fresh stage job)
fresh_kept s stage (Ok (Bus j)) same = record { going = λ outcome ends. absurd cc; of_stage = same }
fresh_kept s stage (Ok (Local j)) same = record { going = λ outcome ends. absurd cc; of_stage = same }
fresh_kept s stage (Err fault) same = record { going = tt; of_stage = tt }

-- a stage after its first call is kept
called_kept : (s : SharedJob) (stage : Stage) (job : Result Job CycleFault) → stage_job s stage ≡ job → IsKept s (stage_called stage job)
called_kept s stage (Ok (Bus j)) same = record { going = λ outcome ends. absurd cc; of_stage = same }
called_kept s stage (Ok (Local j)) same = record { going = λ outcome ends. absurd cc; of_stage = same }
called_kept s stage (Err fault) same = record { going = tt; of_stage = tt }

-- the first transfer is kept before its first call
pub first_kept : (s : SharedJob) → IsKept s (first_transfer s)
first_kept s = fresh_kept s (first_stage s.request) (stage_job s (first_stage s.request)) refl

-- the transfer of a stage is kept after its first call
pub begun_kept : (s : SharedJob) (stage : Stage) → IsKept s (stage_called stage (stage_job s stage))
begun_kept s stage = called_kept s stage (stage_job s stage) refl

-- what follows a transfer is kept
pub stepped_kept : (s : SharedJob) (step : StageResult) → IsKept s (current_stepped s step)
stepped_kept s (Continue stage) = begun_kept s stage
stepped_kept s (Finish end) = record { going = tt; of_stage = tt }

-- the bus task of a stage, begun again, is that of the stage after its first call
pub begun_again : (s : SharedJob) (stage : Stage) (job : Job) → stage_job s stage ≡ Ok job
    → Running stage (advance (fresh_task job) None) ≡ stage_called stage (stage_job s stage)
begun_again s stage job same = sym (ap (stage_called stage) same)

-- a stage is after its first call what the first call makes of it
call_made : (s : SharedJob) (stage : Stage) (job : Result Job CycleFault) → stage_called stage job ≡ current_after s (stage_fresh stage job) None
call_made s stage (Ok (Bus j)) = refl
call_made s stage (Ok (Local j)) = refl
call_made s stage (Err fault) = refl

-- a task whose first transfer is after its first call is the task after its first call
pub first_called : (s : SharedJob) (current : CurrentTransfer)
    → current ≡ stage_called (first_stage s.request) (stage_job s (first_stage s.request))
    → record { job = s; current = current } ≡ shared_advance (shared_fresh s) None
first_called s current is =
    ap (λ (one : CurrentTransfer). let v : SharedView = record { job = s; current = one } in v)
    (is ∙ call_made s (first_stage s.request) (stage_job s (first_stage s.request)))

-- a task that ends since the lock is taken, and whose first transfer is then after its first call, has begun again
pub retries : (s : SharedJob) (who : ℕ) (before after : Machine) (old new : CurrentTransfer) (step : StageResult)
    → ((end : SharedOutcome) → current_to_do old ≢ Returns end)
    → AdvancesOn current_to_do (current_after s) who before after old (current_stepped s step) → step ≡ Finish shared.Busy
    → new ≡ stage_called (first_stage s.request) (stage_job s (first_stage s.request))
    → RetriesOn who before after (record { job = s; current = old }) (record { job = s; current = new })
retries s who before after old new step going it busy again = record {
  going = going;
  ended = record { job = s; current = current_stepped s step };
  advances = shared_advances s who before after old (current_stepped s step) it;
  busy = ap (λ (one : StageResult). current_to_do (current_stepped s one)) busy;
  again = first_called s new again;
  begun = λ rests. called_begun (first_stage s.request) (stage_job s (first_stage s.request)) (sym (ap current_to_do again) ∙ rests);
}
