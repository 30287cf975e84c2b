-- A task of a lock or a mailbox that makes its own call, by the bus task of the transfer at work.
use Rattle.std.proofs.Common.{◌≡◌, ◌≢◌, ℕ, Option, Some, None, Result, Ok, Err, refl, ap, sym, ◌∙◌}
use Rattle.std.specs.Option.{option_map}
use Rattle.vme_cycle.specs.declared.fault.CycleFault.{CycleFault}
use Rattle.vme_core.specs.Runs.{Machine}
use Rattle.vme_core.specs.NextSteps.{NextStep, NotStarted, Invokes, Returns, call_in, result_in}
use Rattle.vme_core.specs.Advances.{advanced_on, AdvancesOn}
use Rattle.vme_core.proofs.lemmas.NextSteps.{map_rests, map_same}
use Rattle.vme_core.proofs.lemmas.Advances.{part_advances}
use Rattle.vme_master.specs.declared.outcome.Outcome.{Outcome}
use Rattle.vme_master.specs.declared.job.Job.{Job}
use Rattle.vme_master.specs.declared.job.Job.TheVariants.{Bus, Local}
use Rattle.vme_master.specs.Machine.{TaskView, advance, to_do}
use Rattle.vme_shared.specs.declared.outcome.SharedOutcome.TheVariants as shared
use Rattle.vme_shared.specs.declared.stage.Stage.{Stage}
use Rattle.vme_shared.specs.declared.stage.StageResult.{StageResult}
use Rattle.vme_shared.specs.declared.stage.StageResult.TheVariants.{Continue, Finish}
use Rattle.vme_shared.specs.declared.current.CurrentTransfer.{CurrentTransfer}
use Rattle.vme_shared.specs.declared.current.CurrentTransfer.TheVariants.{Running}
use Rattle.vme_shared.specs.Steps.{step_after}
use Rattle.vme_shared.specs.Tables.{SharedJob, stage_job, task_shown}
use Rattle.vme_shared.specs.Machine.{stage_called, current_stepped, current_by, current_or, current_after, current_to_do, shared_advance, shared_to_do}
use Rattle.vme_shared.proofs.lemmas.Stands.{by_outcome}

-- a stage after its first call has begun
pub called_begun : (stage : Stage) (job : Result Job CycleFault) → current_to_do (stage_called stage job) ≢ NotStarted
called_begun stage (Ok (Bus j)) = λ rests. absurd cc
called_begun stage (Ok (Local j)) = λ rests. absurd cc
called_begun stage (Err fault) = λ rests. absurd cc

-- what follows a transfer has begun
stepped_begun : (s : SharedJob) (step : StageResult) → current_to_do (current_stepped s step) ≢ NotStarted
stepped_begun s (Continue stage) = called_begun stage (stage_job s stage)
stepped_begun s (Finish end) = λ rests. absurd cc

-- a transfer that has not ended makes the call of its bus task and advances; what follows its outcome is then at work
pub stage_advances : (s : SharedJob) (stage : Stage) (who : ℕ) (before after : Machine) (old new : TaskView) (result : Option StageResult)
    → ((outcome : Outcome) → to_do old ≢ Returns outcome) → AdvancesOn to_do advance who before after old new
    → result ≡ option_map (step_after s.request stage) (result_in (to_do new))
    → AdvancesOn current_to_do (current_after s) who before after (Running stage old) (current_or s (Running stage new) result)
stage_advances s stage who before after old new result going it is = record {
  step = by (to_do old) refl it.step;
  begun = λ begun. started result (it.begun (λ first. begun (ap task_shown first)));
  boards = it.boards;
  process_count = it.process_count;
}
  where
    shown : current_or s (Running stage new) result ≡ current_by s stage new (to_do new)
    shown = ap (current_or s (Running stage new)) is ∙ sym (by_outcome s stage new (to_do new))

    by : (next : NextStep Outcome) → to_do old ≡ next → (after, new) ≡ advanced_on advance (call_in next) who before old
        → (after, current_or s (Running stage new) result)
        ≡ advanced_on (current_after s) (call_in (task_shown next)) who before (Running stage old)
    by NotStarted same step =
        ap (λ (one : CurrentTransfer). (after, one)) shown
        ∙ ap (λ (r : Machine × TaskView). (r.0, current_by s stage r.1 (to_do r.1))) step
        ∙ ap (λ (next : NextStep Outcome). (before, current_by s stage old next)) same
    by (Invokes call) same step =
        ap (λ (one : CurrentTransfer). (after, one)) shown
        ∙ ap (λ (r : Machine × TaskView). (r.0, current_by s stage r.1 (to_do r.1))) step
    by (Returns outcome) same step = absurd (going outcome same)

    started : (one : Option StageResult) → to_do new ≢ NotStarted → current_to_do (current_or s (Running stage new) one) ≢ NotStarted
    started None begun = λ rests. begun (map_rests (λ (outcome : Outcome). shared.Denied) (to_do new) rests)
    started (Some step) begun = stepped_begun s step

-- a task makes the call of its transfer at work and advances as that does
pub shared_advances : (s : SharedJob) (who : ℕ) (before after : Machine) (old new : CurrentTransfer)
    → AdvancesOn current_to_do (current_after s) who before after old new
    → AdvancesOn shared_to_do shared_advance who before after (record { job = s; current = old }) (record { job = s; current = new })
shared_advances s who before after old new it =
    part_advances (λ current. record { job = s; current = current }) (λ outcome. outcome) current_to_do shared_to_do (current_after s)
    shared_advance who before after old new (λ current. map_same (current_to_do current)) (λ current reply. refl) it
