-- At each stage of a lock, an unlock, a put or a take, the current bus task is that of the stage.
use Rattle.std.proofs.Common.{◌≡◌, [], ◌∷◌, Option, None, Result, Ok, Err, refl}
use Rattle.vme_cycle.specs.declared.fault.CycleFault.{CycleFault}
use Rattle.vme_core.specs.declared.event.EventReply.{EventReply}
use Rattle.vme_master.specs.declared.job.Job.{Job}
use Rattle.vme_core.specs.NextSteps.{NextStep, NotStarted, Invokes, Returns}
use Rattle.vme_master.specs.declared.outcome.Outcome.{Outcome}
use Rattle.vme_master.specs.Tables.{Inputs, next_of}
use Rattle.vme_shared.specs.declared.stage.Stage.{Stage}
use Rattle.vme_shared.specs.declared.stage.StageResult.{StageResult}
use Rattle.vme_shared.specs.declared.stage.StageResult.TheVariants.{Continue, Finish}
use Rattle.vme_shared.specs.Steps.{first_stage, step_after}
use Rattle.vme_shared.specs.Tables.{SharedJob, Progress, At, Over, stage_job, stage_begun, step_begun, progress_by, progress_given, progress_of}

-- the bus task of the current stage, if there is one, is the stage's own
abbrev pub OwnJob : SharedJob → Progress → Type 0
OwnJob s (At stage job g) = stage_job s stage ≡ Ok job
OwnJob s (Over end) = Unit {0}

-- a stage that begins has its own bus task
own_begun : (s : SharedJob) (stage : Stage) (g : Inputs) (job : Result Job CycleFault) → stage_job s stage ≡ job → OwnJob s (stage_begun stage g job)
own_begun s stage g (Ok job) own = own
own_begun s stage g (Err fault) own = tt

-- the next stage has its own bus task
own_stepped : (s : SharedJob) (step : StageResult) → OwnJob s (step_begun s step)
own_stepped s (Continue stage) = own_begun s stage (None ∷ []) (stage_job s stage) refl
own_stepped s (Finish end) = tt

-- a stage keeps its own bus task until its end
own_by : (s : SharedJob) (stage : Stage) (job : Job) (g : Inputs) (next : NextStep Outcome) → stage_job s stage ≡ Ok job → OwnJob s (progress_by s stage job g next)
own_by s stage job g NotStarted own = own
own_by s stage job g (Invokes call) own = own
own_by s stage job g (Returns outcome) own = own_stepped s (step_after s.request stage outcome)

-- after one more reply, the current stage has its own bus task
own_given : (s : SharedJob) (last : Option EventReply) (progress : Progress) → OwnJob s progress → OwnJob s (progress_given s last progress)
own_given s last (At stage job g) own = own_by s stage job (last ∷ g) (next_of job (last ∷ g)) own
own_given s last (Over end) own = tt

-- after any replies, the current stage has its own bus task
pub own_job : (s : SharedJob) (given : Inputs) → OwnJob s (progress_of s given)
own_job s [] = own_begun s (first_stage s.request) [] (stage_job s (first_stage s.request)) refl
own_job s (last ∷ before) = own_given s last (progress_of s before) (own_job s before)
