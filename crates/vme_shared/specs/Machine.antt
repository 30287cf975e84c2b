-- The task of a lock, an unlock, a put or a take as a state machine: it keeps its progress in place of the replies.
use Rattle.std.specs.Prelude.{◌≡◌, ◌≢◌, [], ◌∷◌, Option, Some, None, Result, Ok, Err}
use Rattle.vme_cycle.specs.declared.fault.CycleFault.{CycleFault}
use Rattle.vme_core.specs.declared.event.EventReply.{EventReply}
use Rattle.vme_core.specs.NextSteps.{NextStep, Returns}
use Rattle.vme_shared.specs.declared.outcome.SharedOutcome.{SharedOutcome}
use Rattle.vme_master.specs.declared.job.Job.{Job}
use Rattle.vme_master.specs.declared.outcome.Outcome.{Outcome}
use Rattle.vme_master.specs.Tables.{Inputs}
use Rattle.vme_master.specs.Machine.{TaskView, fresh_task, advance, to_do}
use Rattle.vme_shared.specs.declared.outcome.SharedOutcome.TheVariants as shared
use Rattle.vme_shared.specs.declared.stage.Stage.{Stage}
use Rattle.vme_shared.specs.declared.stage.StageResult.{StageResult}
use Rattle.vme_shared.specs.declared.stage.StageResult.TheVariants.{Continue, Finish}
use Rattle.vme_shared.specs.declared.current.CurrentTransfer.{CurrentTransfer}
use Rattle.vme_shared.specs.declared.current.CurrentTransfer.TheVariants.{Running, Finished}
use Rattle.vme_shared.specs.Mailboxes.{shared_refusal}
use Rattle.vme_shared.specs.Steps.{first_stage, step_after}
use Rattle.vme_shared.specs.Tables.{SharedJob, stage_job, task_shown}

-- the task of a shared request: what is requested, and the current transfer
pub record SharedView : Type 0 where
  pub job : SharedJob
  pub current : CurrentTransfer

-- the bus task of a stage, or the refusal of its transfer
abbrev pub stage_task : Result Job CycleFault → Result TaskView CycleFault
stage_task (Ok job) = Ok (fresh_task job)
stage_task (Err fault) = Err fault

-- a stage before its first call; a refused transfer ends the task with a bus error
abbrev pub stage_fresh : Stage → Result Job CycleFault → CurrentTransfer
stage_fresh stage (Ok job) = Running stage (fresh_task job)
stage_fresh stage (Err fault) = Finished shared.Berr

-- a stage after its first call; a refused transfer ends the task with a bus error
abbrev pub stage_called : Stage → Result Job CycleFault → CurrentTransfer
stage_called stage (Ok job) = Running stage (advance (fresh_task job) None)
stage_called stage (Err fault) = Finished shared.Berr

-- what follows a transfer: the next stage, or the end
abbrev pub current_stepped : SharedJob → StageResult → CurrentTransfer
current_stepped s (Continue stage) = stage_called stage (stage_job s stage)
current_stepped s (Finish end) = Finished end

-- the current transfer by what its bus task does next, or what follows the outcome of that task
abbrev pub current_by : SharedJob → Stage → TaskView → NextStep Outcome → CurrentTransfer
current_by s stage task (Returns outcome) = current_stepped s (step_after s.request stage outcome)
current_by s stage task next = Running stage task

-- the current transfer, or what follows it if it has ended
abbrev pub current_or : SharedJob → CurrentTransfer → Option StageResult → CurrentTransfer
current_or s current None = current
current_or s current (Some step) = current_stepped s step

-- the current transfer, or what follows it, after the next reply or an absent one
abbrev pub current_after : SharedJob → CurrentTransfer → Option EventReply → CurrentTransfer
current_after s (Running stage task) given = current_by s stage (advance task given) (to_do (advance task given))
current_after s (Finished end) given = Finished end

-- the first transfer before its first call
abbrev pub first_transfer : SharedJob → CurrentTransfer
first_transfer s = stage_fresh (first_stage s.request) (stage_job s (first_stage s.request))

-- the task before its first call
abbrev pub shared_fresh : SharedJob → SharedView
shared_fresh s = record { job = s; current = first_transfer s }

-- the task before its first call, or the refusal of the request
abbrev pub shared_started : SharedJob → Option CycleFault → Result SharedView CycleFault
shared_started s None = Ok (shared_fresh s)
shared_started s (Some fault) = Err fault

-- the task of a shared request before its first call, or the first refusal
abbrev pub shared_task : SharedJob → Result SharedView CycleFault
shared_task s = shared_started s (shared_refusal s.request)

-- the task after the next reply, or an absent one
abbrev pub shared_advance : SharedView → Option EventReply → SharedView
shared_advance v given = record { job = v.job; current = current_after v.job v.current given }

-- the task after these replies, the newest first
abbrev pub shared_given : SharedJob → Inputs → SharedView
shared_given s [] = shared_fresh s
shared_given s (last ∷ before) = shared_advance (shared_given s before) last

-- what the current transfer does next, or the end
abbrev pub current_to_do : CurrentTransfer → NextStep SharedOutcome
current_to_do (Running stage task) = task_shown (to_do task)
current_to_do (Finished end) = Returns end

-- what the task does next
abbrev pub shared_to_do : SharedView → NextStep SharedOutcome
shared_to_do v = current_to_do v.current

-- the bus task of the current transfer, if there is one, has not ended
abbrev pub IsGoing : CurrentTransfer → Type 0
IsGoing (Running stage task) = (outcome : Outcome) → to_do task ≢ Returns outcome
IsGoing (Finished end) = Unit {0}

-- the bus task of the current transfer, if there is one, is that of its stage
abbrev pub IsOfStage : SharedJob → CurrentTransfer → Type 0
IsOfStage s (Running stage task) = stage_job s stage ≡ Ok task.job
IsOfStage s (Finished end) = Unit {0}

-- the invariant of a task: its transfer is that of its stage and has not ended
pub record IsKept (s : SharedJob) (current : CurrentTransfer) : Type 0 where
  pub going : IsGoing current
  pub of_stage : IsOfStage s current
