-- The state machine follows the table: its current transfer is the one that all given replies lead to.
use Rattle.std.proofs.Common.{◌≡◌, [], ◌∷◌, Option, None, Result, Ok, Err, refl, ap, ◌∙◌}
use Rattle.std.specs.Option.{option_map}
use Rattle.vme_cycle.specs.declared.fault.CycleFault.{CycleFault}
use Rattle.vme_core.specs.declared.event.EventReply.{EventReply}
use Rattle.vme_core.specs.NextSteps.{NextStep, NotStarted, Invokes, Returns, result_in}
use Rattle.vme_master.specs.declared.outcome.Outcome.{Outcome}
use Rattle.vme_master.specs.declared.job.Job.{Job}
use Rattle.vme_master.specs.Tables.{Inputs, next_of}
use Rattle.vme_master.specs.Machine.{TaskView, task_given}
use Rattle.vme_master.proofs.lemmas.Stands.{by_the_table}
use Rattle.vme_shared.specs.declared.stage.Stage.{Stage}
use Rattle.vme_shared.specs.declared.stage.StageResult.{StageResult}
use Rattle.vme_shared.specs.declared.stage.StageResult.TheVariants.{Continue, Finish}
use Rattle.vme_shared.specs.declared.current.CurrentTransfer.{CurrentTransfer}
use Rattle.vme_shared.specs.declared.current.CurrentTransfer.TheVariants as currents
use Rattle.vme_shared.specs.Steps.{first_stage, step_after}
use Rattle.vme_shared.specs.Tables.{SharedJob, Progress, At, Over, stage_job, stage_begun, step_begun, progress_by, progress_given, progress_of, task_shown, next_at, shared_next}
use Rattle.vme_shared.specs.Machine.{SharedView, stage_fresh, stage_called, current_stepped, current_by, current_or, current_after, shared_advance, shared_given, current_to_do, shared_to_do}

-- the current transfer, or what follows its outcome if it has one
pub by_outcome : (s : SharedJob) (stage : Stage) (task : TaskView) (next : NextStep Outcome)
    → current_by s stage task next ≡ current_or s (currents.Running stage task) (option_map (step_after s.request stage) (result_in next))
by_outcome s stage task NotStarted = refl
by_outcome s stage task (Invokes call) = refl
by_outcome s stage task (Returns outcome) = refl

-- the current transfer, by how far the task has come
abbrev current_of : Progress → CurrentTransfer
current_of (At stage job given) = currents.Running stage (task_given job given)
current_of (Over end) = currents.Finished end

-- a stage before its first call is the current transfer of its progress
fresh_is : (stage : Stage) (job : Result Job CycleFault) → stage_fresh stage job ≡ current_of (stage_begun stage [] job)
fresh_is stage (Ok job) = refl
fresh_is stage (Err fault) = refl

-- a stage after its first call is the current transfer of its progress
called_is : (stage : Stage) (job : Result Job CycleFault) → stage_called stage job ≡ current_of (stage_begun stage (None ∷ []) job)
called_is stage (Ok job) = refl
called_is stage (Err fault) = refl

-- what follows a transfer is the current transfer of its progress
stepped_is : (s : SharedJob) (step : StageResult) → current_stepped s step ≡ current_of (step_begun s step)
stepped_is s (Continue stage) = called_is stage (stage_job s stage)
stepped_is s (Finish end) = refl

-- what the bus task does next leads the state machine and the table to the same current transfer
by_is : (s : SharedJob) (stage : Stage) (job : Job) (given : Inputs) (next : NextStep Outcome)
    → current_by s stage (task_given job given) next ≡ current_of (progress_by s stage job given next)
by_is s stage job given NotStarted = refl
by_is s stage job given (Invokes call) = refl
by_is s stage job given (Returns outcome) = stepped_is s (step_after s.request stage outcome)

-- one more reply leads the state machine and the table to the same current transfer
after_is : (s : SharedJob) (p : Progress) (last : Option EventReply) → current_after s (current_of p) last ≡ current_of (progress_given s last p)
after_is s (At stage job given) last =
    ap (current_by s stage (task_given job (last ∷ given))) (by_the_table job (last ∷ given))
    ∙ by_is s stage job (last ∷ given) (next_of job (last ∷ given))
after_is s (Over end) last = refl

-- a task keeps its job after any replies
pub given_job : (s : SharedJob) (g : Inputs) → (shared_given s g).job ≡ s
given_job s [] = refl
given_job s (last ∷ g) = given_job s g

-- the current transfer is the one that all given replies lead to
given_current : (s : SharedJob) (g : Inputs) → (shared_given s g).current ≡ current_of (progress_of s g)
given_current s [] = fresh_is (first_stage s.request) (stage_job s (first_stage s.request))
given_current s (last ∷ g) =
    ap (λ (t : SharedJob). current_after t (shared_given s g).current last) (given_job s g)
    ∙ ap (λ current. current_after s current last) (given_current s g) ∙ after_is s (progress_of s g) last

-- the current transfer does next what the progress states
shows : (p : Progress) → current_to_do (current_of p) ≡ next_at p
shows (At stage job given) = ap task_shown (by_the_table job given)
shows (Over end) = refl

-- a task does next what the table says
pub by_the_given : (s : SharedJob) (g : Inputs) → shared_to_do (shared_given s g) ≡ shared_next s g
by_the_given s g = ap current_to_do (given_current s g) ∙ shows (progress_of s g)

-- a task does next what the table says after one more reply
pub next_by_the_given : (s : SharedJob) (g : Inputs) (v : SharedView) (last : Option EventReply) → v ≡ shared_given s g
    → shared_to_do (shared_advance v last) ≡ shared_next s (last ∷ g)
next_by_the_given s g v last same =
    ap (λ (u : SharedView). shared_to_do (shared_advance u last)) same ∙ by_the_given s (last ∷ g)
