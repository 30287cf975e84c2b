-- A line's task after a reply, in terms of the transfer that it is at.
use Rattle.std.proofs.Common.{◌≡◌, ℕ, ◌&&◌, List, Option, Some, None, Result, Ok, Err, refl, ◌∙◌, inl, inr}
use Rattle.std.specs.Prelude.{nat_lt}
use Rattle.std.specs.Option.{option_and_then}
use Rattle.std.proofs.lemmas.Bool.{cases_Bool}
use Rattle.vme_cycle.specs.declared.fault.CycleFault.{CycleFault}
use Rattle.vme_core.specs.declared.event.EventReply.{EventReply}
use Rattle.vme_core.specs.Calls.{Call}
use Rattle.vme_core.specs.NextSteps.{NextStep, NotStarted, Invokes, Returns, next_map}
use Rattle.vme_core.proofs.lemmas.NextSteps.{map_makes}
use Rattle.vme_master.specs.declared.job.Job.{Job}
use Rattle.vme_master.specs.declared.job.Job.TheVariants.{Bus, Local}
use Rattle.vme_master.specs.declared.outcome.Outcome.{Outcome}
use Rattle.vme_master.specs.declared.phase.Phase.{Phase}
use Rattle.vme_master.specs.declared.phase.Phase.TheVariants as phases
use Rattle.vme_master.specs.CurrentData.{task_datum}
use Rattle.vme_master.specs.Machine.{TaskView, fresh_task, advance, job_next, to_do}
use Rattle.vme_shared.specs.declared.outcome.SharedOutcome.TheVariants as outcomes
use Rattle.vme_shared.specs.declared.reply.LineReply.{LineReply}
use Rattle.vme_shared.specs.declared.reply.LineReply.TheVariants as answers
use Rattle.vme_shared.specs.declared.stage.Stage.{Stage}
use Rattle.vme_shared.specs.declared.stage.StageResult.{StageResult}
use Rattle.vme_shared.specs.declared.stage.StageResult.TheVariants.{Continue, Finish}
use Rattle.vme_shared.specs.declared.current.CurrentTransfer.{CurrentTransfer}
use Rattle.vme_shared.specs.declared.current.CurrentTransfer.TheVariants as currents
use Rattle.vme_shared.specs.CurrentData.{transfer_datum}
use Rattle.vme_shared.specs.Steps.{first_stage, step_after}
use Rattle.vme_shared.specs.Tables.{SharedJob, stage_job, task_shown}
use Rattle.vme_shared.specs.Machine.{stage_fresh, stage_called, current_stepped, current_by, current_after, current_to_do}
use Rattle.vme_grammar.specs.declared.line.Line.{Line}
use Rattle.vme_script.specs.Configurations.{Configuration}
use Rattle.vme_line_task.specs.declared.task.LineTask.{LineTask}
use Rattle.vme_line_task.specs.declared.task.LineTask.TheVariants.{Refused, Running}
use Rattle.vme_line_task.specs.declared.attempt.Attempts.{Attempts}
use Rattle.vme_line_task.specs.declared.attempt.AttemptTask.{AttemptTask}
use Rattle.vme_line_task.specs.declared.attempt.AttemptTask.TheVariants as tasks
use Rattle.vme_line_task.specs.Scripts.{Attempt, Transferring, Awaiting, Sharing, line_attempt}
use Rattle.vme_line_task.specs.CurrentData.{attempt_datum, line_datum}
use Rattle.vme_line_task.specs.Tables.{await_reply, sharing_next, next_wants_retry}
use Rattle.vme_line_task.specs.Machine.{attempt_fresh, attempt_anew, attempt_advance, attempt_to_do, attempts_again, line_fresh, line_started, line_advance, line_to_do}
use Rattle.vme_line_task.proofs.lemmas.Below.{transferring_makes, waits_makes, shares_makes}
use Rattle.vme_stepper.specs.Steppers.{line_begun}
use Rattle.vme_trace_laws.proofs.turns.Views.{current_view, attempt_view, line_view, view_after, job_reply, last_reply, IsLike, like_same, like_on, like_idle}

-- a job that has just begun has no reply of the arbiter
begun_idle : (job : Job) → last_reply (Some (advance (fresh_task job) None)) ≡ None
begun_idle (Bus job) = refl
begun_idle (Local job) = refl

-- a job that has ended has no reply of the arbiter
job_ended : (job : Job) (phase : Phase) (read : List ℕ) (outcome : Outcome) → job_next job phase read ≡ Returns outcome → job_reply job phase ≡ None
job_ended (Bus job) phases.New read outcome ends = refl
job_ended (Bus job) phases.Requesting read outcome ends = refl
job_ended (Bus job) phases.Polling read outcome ends = absurd cc
job_ended (Bus job) (phases.Transferring i) read outcome ends = absurd cc
job_ended (Bus job) (phases.Releasing berr) read outcome ends = absurd cc
job_ended (Bus job) (phases.Finished berr) read outcome ends = refl
job_ended (Bus job) phases.Denied read outcome ends = refl
job_ended (Local job) phase read outcome ends = refl

-- a next step whose mapped result is returned has a result
map_ended : {R S : Type 0} (f : R → S) (next : NextStep R) (answer : S) → next_map f next ≡ Returns answer → (result : R) × (next ≡ Returns result)
map_ended f NotStarted answer ends = absurd cc
map_ended f (Invokes call) answer ends = absurd cc
map_ended f (Returns result) answer ends = (result, refl)

-- a task whose mapped next step is a result has no reply of the arbiter
task_ended : {S : Type 0} (f : Outcome → S) (t : TaskView) (answer : S) → next_map f (to_do t) ≡ Returns answer → last_reply (Some t) ≡ None
task_ended f t answer ends =
    let outcome = map_ended f (to_do t) answer ends in
    job_ended t.job t.phase t.read outcome.0 outcome.1

-- a lock or a mailbox whose task has ended has no reply of the arbiter
current_ended : (current : CurrentTransfer) (answer : LineReply) → sharing_next (current_to_do current) ≡ Returns answer → last_reply (current_view current) ≡ None
current_ended (currents.Running stage task) answer ends =
    let end = map_ended answers.Shared (task_shown (to_do task)) answer ends in
    task_ended (λ outcome. outcomes.Denied) task end.0 end.1
current_ended (currents.Finished end) answer ends = refl

-- an attempt that has ended has no reply of the arbiter
attempt_ended : (a : AttemptTask) (answer : LineReply) → attempt_to_do a ≡ Returns answer → last_reply (attempt_view a) ≡ None
attempt_ended (tasks.Transfer t) answer ends = task_ended answers.Transfer t answer ends
attempt_ended (tasks.Await w) answer ends = task_ended (await_reply w.want.items) w.task answer ends
attempt_ended (tasks.Shared v) answer ends = current_ended v.current answer ends

-- a line that has ended has no reply of the arbiter
pub line_ended : (task : LineTask) (answer : LineReply) → line_to_do task ≡ Returns answer → last_reply (line_view task) ≡ None
line_ended (Refused fault) answer ends = refl
line_ended (Running a) answer ends = attempt_ended a.attempt answer ends

-- a stage after its first call has no reply of the arbiter
called_idle : (stage : Stage) (job : Result Job CycleFault) → last_reply (current_view (stage_called stage job)) ≡ None
called_idle stage (Ok job) = begun_idle job
called_idle stage (Err fault) = refl

-- what follows a transfer has no reply of the arbiter
stepped_idle : (s : SharedJob) (step : StageResult) → last_reply (current_view (current_stepped s step)) ≡ None
stepped_idle s (Continue stage) = called_idle stage (stage_job s stage)
stepped_idle s (Finish end) = refl

-- the current transfer, by what its task does next, is like that task
current_like : (s : SharedJob) (stage : Stage) (t : TaskView) (next : NextStep Outcome) → to_do t ≡ next
    → IsLike (current_view (current_by s stage t next)) (Some t)
current_like s stage t NotStarted is = like_same (Some t)
current_like s stage t (Invokes call) is = like_same (Some t)
current_like s stage t (Returns outcome) is =
    like_idle (current_view (current_by s stage t (Returns outcome))) (Some t) (stepped_idle s (step_after s.request stage outcome))
    (job_ended t.job t.phase t.read outcome is)

-- a lock or a mailbox after a reply is like its transfer after it
current_after_like : (s : SharedJob) (current : CurrentTransfer) (given : Option EventReply)
    → IsLike (current_view (current_after s current given)) (view_after given (current_view current))
current_after_like s (currents.Running stage task) given = current_like s stage (advance task given) (to_do (advance task given)) refl
current_after_like s (currents.Finished end) given = like_same None

-- an attempt after a reply is like its transfer after it
attempt_like : (a : AttemptTask) (given : Option EventReply) → IsLike (attempt_view (attempt_advance a given)) (view_after given (attempt_view a))
attempt_like (tasks.Transfer t) given = like_same (Some (advance t given))
attempt_like (tasks.Await w) given = like_same (Some (advance w.task given))
attempt_like (tasks.Shared v) given = current_after_like v.job v.current given

-- the first transfer of a lock or a mailbox has no reply of the arbiter
first_idle : (s : SharedJob) (stage : Stage) (job : Result Job CycleFault) → last_reply (view_after None (current_view (stage_fresh stage job))) ≡ None
first_idle s stage (Ok job) = begun_idle job
first_idle s stage (Err fault) = refl

-- an attempt that has just begun anew has no reply of the arbiter
anew_idle : (a : AttemptTask) → last_reply (view_after None (attempt_view (attempt_anew a))) ≡ None
anew_idle (tasks.Transfer t) = begun_idle t.job
anew_idle (tasks.Await w) = begun_idle w.task.job
anew_idle (tasks.Shared v) = first_idle v.job (first_stage v.job.request) (stage_job v.job (first_stage v.job.request))

-- the attempts after one has ended are like it
again_like : (a : Attempts) (next : NextStep LineReply) → attempt_to_do a.attempt ≡ next → IsLike (attempt_view (attempts_again a next).attempt) (attempt_view a.attempt)
again_like a NotStarted is = like_same (attempt_view a.attempt)
again_like a (Invokes call) is = like_same (attempt_view a.attempt)
again_like a (Returns answer) is =
    elim (cases_Bool (next_wants_retry (Returns answer) && nat_lt 1 a.left)) [
      | inl more ↦
          rw more (like_idle (attempt_view (attempt_advance (attempt_anew a.attempt) None)) (attempt_view a.attempt)
          ((attempt_like (attempt_anew a.attempt) None).reply ∙ anew_idle a.attempt) (attempt_ended a.attempt answer is))
      | inr last ↦ rw last (like_same (attempt_view a.attempt))
    ]

-- a line after a reply is like its transfer after it
pub line_like : (task : LineTask) (given : Option EventReply) → IsLike (line_view (line_advance task given)) (view_after given (line_view task))
line_like (Refused fault) given = like_same None
line_like (Running a) given =
    let next : Attempts = record { attempt = attempt_advance a.attempt given; left = a.left } in
    like_on (line_view (line_advance (Running a) given)) (attempt_view next.attempt) (view_after given (line_view (Running a)))
    (again_like next (attempt_to_do next.attempt) refl) (attempt_like a.attempt given)

-- an attempt that has just begun has no reply of the arbiter
attempt_idle : (attempt : Attempt) → last_reply (view_after None (attempt_view (attempt_fresh attempt))) ≡ None
attempt_idle (Transferring job) = begun_idle job
attempt_idle (Awaiting job want) = begun_idle job
attempt_idle (Sharing s) = first_idle s (first_stage s.request) (stage_job s (first_stage s.request))

-- a line that has just begun, by its attempt, has no reply of the arbiter
fresh_idle : (count : ℕ) (attempt : Result Attempt CycleFault) → last_reply (line_view (line_advance (line_fresh count attempt) None)) ≡ None
fresh_idle count (Ok attempt) = (line_like (line_fresh count (Ok attempt)) None).reply ∙ attempt_idle attempt
fresh_idle count (Err fault) = refl

-- a line that has just begun has no reply of the arbiter
pub line_idle : (config : Configuration) (board : ℕ) (line : Line) → last_reply (line_view (line_begun config board line)) ≡ None
unfolding line_started
line_idle config board line = fresh_idle config.tries (line_attempt config board line)

-- the call of a lock or a mailbox is that of its transfer
current_makes : (current : CurrentTransfer) (call : Call) → sharing_next (current_to_do current) ≡ Invokes call
    → (t : TaskView) × (current_view current ≡ Some t) × (to_do t ≡ Invokes call)
current_makes (currents.Running stage task) call made =
    (task, refl, map_makes (λ outcome. outcomes.Denied) (to_do task) call (shares_makes (task_shown (to_do task)) call made))
current_makes (currents.Finished end) call made = absurd cc

-- the call of an attempt is that of its transfer or local command
attempt_makes : (a : AttemptTask) (call : Call) → attempt_to_do a ≡ Invokes call → (t : TaskView) × (attempt_view a ≡ Some t) × (to_do t ≡ Invokes call)
attempt_makes (tasks.Transfer t) call made = (t, refl, transferring_makes (to_do t) call made)
attempt_makes (tasks.Await w) call made = (w.task, refl, waits_makes w.want.items (to_do w.task) call made)
attempt_makes (tasks.Shared v) call made = current_makes v.current call made

-- the call of a line is that of its transfer or local command
pub line_makes : (task : LineTask) (call : Call) → line_to_do task ≡ Invokes call → (t : TaskView) × (line_view task ≡ Some t) × (to_do t ≡ Invokes call)
line_makes (Refused fault) call made = absurd cc
line_makes (Running a) call made = attempt_makes a.attempt call made

-- the datum of a lock or a mailbox
current_datum : (current : CurrentTransfer) → transfer_datum current ≡ option_and_then task_datum (current_view current)
current_datum (currents.Running stage task) = refl
current_datum (currents.Finished end) = refl

-- the datum of an attempt
attempt_datum_of : (a : AttemptTask) → attempt_datum a ≡ option_and_then task_datum (attempt_view a)
attempt_datum_of (tasks.Transfer t) = refl
attempt_datum_of (tasks.Await w) = refl
attempt_datum_of (tasks.Shared v) = current_datum v.current

-- the datum of a line is that of its transfer
pub line_datum_of : (task : LineTask) → line_datum task ≡ option_and_then task_datum (line_view task)
line_datum_of (Refused fault) = refl
line_datum_of (Running a) = attempt_datum_of a.attempt
