-- A transfer at a datum has selected a board, and the datum is one of its own.
use Rattle.std.proofs.Common.{◌≡◌, ℕ, ◌+◌, Bool, true, false, if◌then◌else◌, [], ◌∷◌, Option, Some, None, Result, Ok, Err, is_some, refl, inl, inr}
use Rattle.std.specs.Prelude.{nat_lt, ◌&&◌}
use Rattle.std.proofs.lemmas.Bool.{cases_Bool}
use Rattle.vme_cycle.specs.declared.fault.CycleFault.{CycleFault}
use Rattle.vme_cycle.specs.Requests.{count_of}
use Rattle.vme_memory.specs.declared.reply.Reply.{Reply}
use Rattle.vme_memory.specs.declared.reply.Reply.TheVariants.{Bytes, Done, Berr}
use Rattle.vme_memory.specs.Data.{has_form}
use Rattle.vme_arbiter.specs.declared.command.ArbReply.{ArbReply}
use Rattle.vme_arbiter.specs.declared.command.ArbReply.TheVariants as arb_replies
use Rattle.vme_core.specs.declared.event.EventReply.{EventReply}
use Rattle.vme_core.specs.declared.event.EventReply.TheVariants as replies
use Rattle.vme_core.specs.NextSteps.{NextStep, NotStarted, Invokes, Returns}
use Rattle.vme_master.specs.declared.job.BusJob.{BusJob}
use Rattle.vme_master.specs.declared.job.Job.{Job}
use Rattle.vme_master.specs.declared.job.Job.TheVariants.{Bus, Local}
use Rattle.vme_master.specs.declared.outcome.Outcome.{Outcome}
use Rattle.vme_master.specs.declared.phase.Phase.{Phase}
use Rattle.vme_master.specs.declared.phase.Phase.TheVariants.{New, Requesting, Polling, Transferring, Releasing, Finished, Denied}
use Rattle.vme_master.specs.Tables.{Inputs}
use Rattle.vme_master.specs.Machine.{TaskView, fresh_task, job_expected, expected_len, datum_phase, phase_at, phase_broken, first_phase, phase_answered, phase_replied, task_after, advance, to_do}
use Rattle.vme_shared.specs.declared.reply.LineReply.{LineReply}
use Rattle.vme_shared.specs.declared.stage.Stage.{Stage}
use Rattle.vme_shared.specs.declared.stage.StageResult.{StageResult}
use Rattle.vme_shared.specs.declared.stage.StageResult.TheVariants.{Continue, Finish}
use Rattle.vme_shared.specs.declared.current.CurrentTransfer.{CurrentTransfer}
use Rattle.vme_shared.specs.declared.current.CurrentTransfer.TheVariants as currents
use Rattle.vme_shared.specs.Steps.{first_stage, step_after}
use Rattle.vme_shared.specs.Tables.{SharedJob, stage_job}
use Rattle.vme_shared.specs.Machine.{stage_fresh, stage_called, current_stepped, current_by, current_after}
use Rattle.vme_grammar.specs.declared.line.Line.{Line}
use Rattle.vme_script.specs.Configurations.{Configuration}
use Rattle.vme_line_task.specs.declared.task.LineTask.{LineTask}
use Rattle.vme_line_task.specs.declared.task.LineTask.TheVariants.{Refused, Running}
use Rattle.vme_line_task.specs.declared.attempt.Attempts.{Attempts}
use Rattle.vme_line_task.specs.declared.attempt.AttemptTask.{AttemptTask}
use Rattle.vme_line_task.specs.declared.attempt.AttemptTask.TheVariants as tasks
use Rattle.vme_line_task.specs.Scripts.{Attempt, Awaiting, Sharing, line_attempt}
use Rattle.vme_line_task.specs.Scripts as scripts
use Rattle.vme_line_task.specs.Tables.{next_wants_retry}
use Rattle.vme_line_task.specs.Machine.{attempt_fresh, attempt_anew, attempt_advance, attempt_to_do, attempts_again, line_fresh, line_started, line_advance, line_advanced, line_given}
use Rattle.vme_trace_laws.proofs.turns.Views.{current_view, attempt_view, line_view}

-- in a phase at a datum a board is selected, and the transfer has that datum
abbrev pub IsDuePhase : BusJob → Phase → Type 0
IsDuePhase job (Transferring i) = (is_some job.place ≡ true) × (nat_lt i (count_of job.transfer.request) ≡ true)
IsDuePhase job phase = Unit {0}

-- a job at a datum has selected a board, and has that datum
abbrev pub IsDueJob : Job → Phase → Type 0
IsDueJob (Bus job) phase = IsDuePhase job phase
IsDueJob (Local job) phase = Unit {0}

-- so has the job of a processor
abbrev pub IsDue : Option TaskView → Type 0
IsDue None = Unit {0}
IsDue (Some t) = IsDueJob t.job t.phase

-- the phase at a datum, if the transfer has it, or else past the last
due_by : (job : BusJob) (i : ℕ) (less : Bool) → nat_lt i (count_of job.transfer.request) ≡ less → is_some job.place ≡ true
    → IsDuePhase job (if less then Transferring i else Releasing None)
due_by job i true is some = (some, is)
due_by job i false is some = tt

-- the phase at a datum
datum_due : (job : BusJob) (place : Option (ℕ × ℕ)) (i : ℕ) → job.place ≡ place → IsDuePhase job (datum_phase job place i)
datum_due job None i at = tt
datum_due job (Some p) i at = due_by job i (nat_lt i (count_of job.transfer.request)) refl (rw at refl)

-- the phase of a job at a call
at_due : (job : Job) (i : ℕ) → IsDueJob job (phase_at job i)
at_due (Bus job) i = datum_due job job.place i refl
at_due (Local job) i = tt

-- a phase at no datum
denied_due : (job : Job) → IsDueJob job Denied
denied_due (Bus job) = tt
denied_due (Local job) = tt

-- the phase after the first call
first_due : (job : Job) → IsDueJob job (first_phase job)
first_due (Bus job) = tt
first_due (Local job) = tt

-- a job that polls
polling_due : (job : Job) → IsDueJob job Polling
polling_due (Bus job) = tt
polling_due (Local job) = tt

-- a job that has finished
finished_due : (job : Job) (berr : Option ℕ) → IsDueJob job (Finished berr)
finished_due (Bus job) berr = tt
finished_due (Local job) berr = tt

-- the phase after a bus error
broken_due : (job : Job) (i : ℕ) → IsDueJob job (phase_broken job i)
broken_due (Bus job) i = tt
broken_due (Local job) i = tt

-- the phase after a reply of the arbiter
answered_due : (job : Job) (reply : ArbReply) → IsDueJob job (phase_answered job reply)
answered_due job arb_replies.Granted = at_due job 0
answered_due job arb_replies.Waiting = polling_due job
answered_due job arb_replies.Freed = denied_due job
answered_due job arb_replies.Denied = denied_due job

-- the phase after a reply of a board
replied_due : (job : Job) (i : ℕ) (reply : Reply) → IsDueJob job (phase_replied job i reply)
replied_due job i (Bytes datum) = at_due job (i + 1)
replied_due job i Done = at_due job (i + 1)
replied_due job i Berr = broken_due job i

-- a task after a reply, or an absent one, in a phase
after_due : (t : TaskView) (phase : Phase) (given : Option EventReply) → IsDue (Some t) → IsDue (Some (task_after t phase given))
after_due t New None due = first_due t.job
after_due t Requesting (Some (replies.Bus reply)) due = answered_due t.job reply
after_due t Polling (Some (replies.Bus reply)) due = answered_due t.job reply
after_due t (Transferring i) (Some (replies.Board reply)) due =
    elim (cases_Bool (has_form (expected_len (job_expected t.job)) reply)) [
      | inl form ↦ rw form (replied_due t.job i reply)
      | inr misfit ↦ rw misfit (denied_due t.job)
    ]
after_due t (Releasing berr) (Some (replies.Bus arb_replies.Freed)) due = finished_due t.job berr
after_due t (Finished berr) given due = due
after_due t phase given due = denied_due t.job

-- a task after a reply, or an absent one
advance_due : (t : TaskView) (given : Option EventReply) → IsDue (Some t) → IsDue (Some (advance t given))
advance_due t given due = after_due t t.phase given due

-- a task before its first call
fresh_due : (job : Job) → IsDue (Some (fresh_task job))
fresh_due (Bus job) = tt
fresh_due (Local job) = tt

-- a stage before its first call
stage_due : (stage : Stage) (job : Result Job CycleFault) → IsDue (current_view (stage_fresh stage job))
stage_due stage (Ok job) = fresh_due job
stage_due stage (Err fault) = tt

-- a stage after its first call
called_due : (stage : Stage) (job : Result Job CycleFault) → IsDue (current_view (stage_called stage job))
called_due stage (Ok job) = advance_due (fresh_task job) None (fresh_due job)
called_due stage (Err fault) = tt

-- what follows a transfer
stepped_due : (s : SharedJob) (step : StageResult) → IsDue (current_view (current_stepped s step))
stepped_due s (Continue stage) = called_due stage (stage_job s stage)
stepped_due s (Finish end) = tt

-- the current transfer, by what its task does next
current_due : (s : SharedJob) (stage : Stage) (t : TaskView) (next : NextStep Outcome) → IsDue (Some t) → IsDue (current_view (current_by s stage t next))
current_due s stage t NotStarted due = due
current_due s stage t (Invokes call) due = due
current_due s stage t (Returns outcome) due = stepped_due s (step_after s.request stage outcome)

-- the current transfer after a reply
current_after_due : (s : SharedJob) (current : CurrentTransfer) (given : Option EventReply) → IsDue (current_view current)
    → IsDue (current_view (current_after s current given))
current_after_due s (currents.Running stage task) given due =
    current_due s stage (advance task given) (to_do (advance task given)) (advance_due task given due)
current_after_due s (currents.Finished end) given due = tt

-- an attempt after a reply
attempt_due : (a : AttemptTask) (given : Option EventReply) → IsDue (attempt_view a) → IsDue (attempt_view (attempt_advance a given))
attempt_due (tasks.Transfer t) given due = advance_due t given due
attempt_due (tasks.Await w) given due = advance_due w.task given due
attempt_due (tasks.Shared v) given due = current_after_due v.job v.current given due

-- an attempt put back before its first call
anew_due : (a : AttemptTask) → IsDue (attempt_view (attempt_anew a))
anew_due (tasks.Transfer t) = fresh_due t.job
anew_due (tasks.Await w) = fresh_due w.task.job
anew_due (tasks.Shared v) = stage_due (first_stage v.job.request) (stage_job v.job (first_stage v.job.request))

-- the attempts after one has ended
again_due : (a : Attempts) (next : NextStep LineReply) → IsDue (attempt_view a.attempt) → IsDue (attempt_view (attempts_again a next).attempt)
again_due a next due =
    elim (cases_Bool (next_wants_retry next && nat_lt 1 a.left)) [
      | inl more ↦ rw more (attempt_due (attempt_anew a.attempt) None (anew_due a.attempt))
      | inr last ↦ rw last due
    ]

-- a line after a reply
line_due : (task : LineTask) (given : Option EventReply) → IsDue (line_view task) → IsDue (line_view (line_advance task given))
line_due (Refused fault) given due = tt
line_due (Running a) given due =
    again_due (record { attempt = attempt_advance a.attempt given; left = a.left }) (attempt_to_do (attempt_advance a.attempt given))
    (attempt_due a.attempt given due)

-- a line after all that it was given
advanced_due : (task : LineTask) (given : Inputs) → IsDue (line_view task) → IsDue (line_view (line_advanced task given))
advanced_due task [] due = due
advanced_due task (last ∷ given) due = line_due (line_advanced task given) last (advanced_due task given due)

-- an attempt before its first call
attempt_fresh_due : (attempt : Attempt) → IsDue (attempt_view (attempt_fresh attempt))
attempt_fresh_due (scripts.Transferring job) = fresh_due job
attempt_fresh_due (Awaiting job want) = fresh_due job
attempt_fresh_due (Sharing s) = stage_due (first_stage s.request) (stage_job s (first_stage s.request))

-- a line before its first call
line_fresh_due : (count : ℕ) (attempt : Result Attempt CycleFault) → IsDue (line_view (line_fresh count attempt))
line_fresh_due count (Ok attempt) = attempt_fresh_due attempt
line_fresh_due count (Err fault) = tt

-- a line of a processor, whatever it was given
pub given_due : (config : Configuration) (board : ℕ) (line : Line) (given : Inputs) → IsDue (line_view (line_given config board line given))
unfolding line_started
given_due config board line given =
    advanced_due (line_started config board line) given (line_fresh_due config.tries (line_attempt config board line))
