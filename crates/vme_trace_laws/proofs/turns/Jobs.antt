-- The job of a line's task: a transfer of its processor's slot and level, or a command to its own board's local port.
use Rattle.std.proofs.Common.{◌≡◌, ℕ, [], ◌∷◌, Option, Some, None, Result, Ok, Err, refl, sym, subst, inl, inr}
use Rattle.std.specs.Prelude.{nat_lt, ◌&&◌, length}
use Rattle.std.proofs.lemmas.Bool.{cases_Bool}
use Rattle.vme_cycle.specs.declared.fault.CycleFault.{CycleFault}
use Rattle.vme_cycle.specs.declared.request.Request.TheVariants as requests
use Rattle.vme_cycle.specs.Lawful.{Transfer, transfer_of}
use Rattle.vme_core.specs.declared.event.EventReply.{EventReply}
use Rattle.vme_core.specs.NextSteps.{NextStep, NotStarted, Invokes, Returns}
use Rattle.vme_master.specs.declared.job.Job.{Job}
use Rattle.vme_master.specs.declared.job.Job.TheVariants.{Bus, Local}
use Rattle.vme_master.specs.declared.outcome.Outcome.{Outcome}
use Rattle.vme_master.specs.Tables.{Inputs}
use Rattle.vme_master.specs.Machine.{TaskView, advance, to_do}
use Rattle.vme_master.proofs.lemmas.Stands.{job_stays}
use Rattle.vme_shared.specs.declared.reply.LineReply.{LineReply}
use Rattle.vme_shared.specs.declared.stage.Stage.{Stage}
use Rattle.vme_shared.specs.declared.stage.StageResult.{StageResult}
use Rattle.vme_shared.specs.declared.stage.StageResult.TheVariants.{Continue, Finish}
use Rattle.vme_shared.specs.declared.current.CurrentTransfer.{CurrentTransfer}
use Rattle.vme_shared.specs.declared.current.CurrentTransfer.TheVariants as currents
use Rattle.vme_shared.specs.declared.request.SharedRequest.{SharedRequest}
use Rattle.vme_shared.specs.declared.request.SharedRequest.TheVariants as asked
use Rattle.vme_shared.specs.Mailboxes.{shared_refusal, stage_request}
use Rattle.vme_shared.specs.Steps.{first_stage, step_after}
use Rattle.vme_shared.specs.Tables.{SharedJob, checked_job, stage_job}
use Rattle.vme_shared.specs.Machine.{stage_fresh, stage_called, current_stepped, current_by, current_after}
use Rattle.vme_grammar.specs.declared.line.Line.{Line}
use Rattle.vme_grammar.specs.declared.line.Line.TheVariants as lines
use Rattle.vme_script.specs.Configurations.{Configuration}
use Rattle.vme_line_task.specs.declared.task.LineTask.{LineTask}
use Rattle.vme_line_task.specs.declared.task.LineTask.TheVariants.{Refused, Running}
use Rattle.vme_line_task.specs.declared.attempt.Attempts.{Attempts}
use Rattle.vme_line_task.specs.declared.attempt.AttemptTask.{AttemptTask}
use Rattle.vme_line_task.specs.declared.attempt.AttemptTask.TheVariants as tasks
use Rattle.vme_line_task.specs.Scripts.{Attempt, Transferring, Awaiting, Sharing, slot_at, level_at, mailbox_at, request_attempt, unless_refused, shared_job, shared_attempt, line_attempt}
use Rattle.vme_line_task.specs.Scripts as scripts
use Rattle.vme_line_task.specs.Tables.{next_wants_retry}
use Rattle.vme_line_task.specs.Machine.{attempt_fresh, attempt_anew, attempt_advance, attempt_to_do, attempts_again, line_fresh, line_started, line_advance, line_advanced, line_given}
use Rattle.vme_trace_laws.proofs.turns.Views.{current_view, attempt_view, line_view}

module _ (board slot level : ℕ) where
  -- a transfer over the bus, of this slot and level
  abbrev pub IsOwnTransfer : Job → Type 0
  IsOwnTransfer (Bus job) = (job.slot ≡ slot) × (job.level ≡ level)
  IsOwnTransfer (Local job) = ⊥

  -- a transfer of this slot and level, or a command to the local port of this board
  abbrev pub IsOwnJob : Job → Type 0
  IsOwnJob (Bus job) = (job.slot ≡ slot) × (job.level ≡ level)
  IsOwnJob (Local job) = job.board ≡ board

  -- the current transfer of a lock or a mailbox, if there is one, is of this slot and level
  abbrev pub IsOwnCurrent : CurrentTransfer → Type 0
  IsOwnCurrent (currents.Running stage task) = IsOwnTransfer task.job
  IsOwnCurrent (currents.Finished end) = Unit {0}

  -- the attempt at a line is of this slot and level, or of this board's local port
  abbrev pub IsOwnAttempt : AttemptTask → Type 0
  IsOwnAttempt (tasks.Transfer t) = IsOwnJob t.job
  IsOwnAttempt (tasks.Await w) = IsOwnTransfer w.task.job
  IsOwnAttempt (tasks.Shared v) = (v.job.slot ≡ slot) × (v.job.level ≡ level) × IsOwnCurrent v.current

  -- the task of a line is of this slot and level, or of this board's local port
  abbrev pub IsOwnTask : LineTask → Type 0
  IsOwnTask (Refused fault) = Unit {0}
  IsOwnTask (Running a) = IsOwnAttempt a.attempt

  -- a stage's transfer, if it is not refused, is of this slot and level
  abbrev IsOwnStage : Result Job CycleFault → Type 0
  IsOwnStage (Ok job) = IsOwnTransfer job
  IsOwnStage (Err fault) = Unit {0}

  -- the transfer of a lock or a mailbox is of its slot and level
  stage_own : (s : SharedJob) (transfer : Result Transfer CycleFault) → s.slot ≡ slot → s.level ≡ level → IsOwnStage (checked_job s transfer)
  stage_own s (Ok t) slots levels = (slots, levels)
  stage_own s (Err fault) slots levels = tt

  -- a stage before its first call
  fresh_own : (stage : Stage) (job : Result Job CycleFault) → IsOwnStage job → IsOwnCurrent (stage_fresh stage job)
  fresh_own stage (Ok job) own = own
  fresh_own stage (Err fault) own = tt

  -- a stage after its first call
  called_own : (stage : Stage) (job : Result Job CycleFault) → IsOwnStage job → IsOwnCurrent (stage_called stage job)
  called_own stage (Ok job) own = own
  called_own stage (Err fault) own = tt

  -- what follows a transfer
  stepped_own : (s : SharedJob) (step : StageResult) → s.slot ≡ slot → s.level ≡ level → IsOwnCurrent (current_stepped s step)
  stepped_own s (Continue stage) slots levels =
      called_own stage (stage_job s stage) (stage_own s (transfer_of (stage_request s.request stage)) slots levels)
  stepped_own s (Finish end) slots levels = tt

  -- the current transfer, by what its task does next
  by_own : (s : SharedJob) (stage : Stage) (task : TaskView) (next : NextStep Outcome) → s.slot ≡ slot → s.level ≡ level
      → IsOwnTransfer task.job → IsOwnCurrent (current_by s stage task next)
  by_own s stage task NotStarted slots levels own = own
  by_own s stage task (Invokes call) slots levels own = own
  by_own s stage task (Returns outcome) slots levels own = stepped_own s (step_after s.request stage outcome) slots levels

  -- the current transfer after one more reply, or an absent one
  after_own : (s : SharedJob) (current : CurrentTransfer) (last : Option EventReply) → s.slot ≡ slot → s.level ≡ level
      → IsOwnCurrent current → IsOwnCurrent (current_after s current last)
  after_own s (currents.Running stage task) last slots levels own =
      by_own s stage (advance task last) (to_do (advance task last)) slots levels
      (subst IsOwnTransfer (sym (job_stays task task.phase last)) own)
  after_own s (currents.Finished end) last slots levels own = tt

  -- an attempt after one more reply, or an absent one
  attempt_advance_own : (a : AttemptTask) (last : Option EventReply) → IsOwnAttempt a → IsOwnAttempt (attempt_advance a last)
  attempt_advance_own (tasks.Transfer t) last own = subst IsOwnJob (sym (job_stays t t.phase last)) own
  attempt_advance_own (tasks.Await w) last own = subst IsOwnTransfer (sym (job_stays w.task w.task.phase last)) own
  attempt_advance_own (tasks.Shared v) last own = (own.0, own.1, after_own v.job v.current last own.0 own.1 own.2)

  -- a lock or a mailbox before its first call
  first_own : (s : SharedJob) → s.slot ≡ slot → s.level ≡ level → IsOwnCurrent (stage_fresh (first_stage s.request) (stage_job s (first_stage s.request)))
  first_own s slots levels =
      fresh_own (first_stage s.request) (stage_job s (first_stage s.request))
      (stage_own s (transfer_of (stage_request s.request (first_stage s.request))) slots levels)

  -- an attempt put back before its first call
  attempt_anew_own : (a : AttemptTask) → IsOwnAttempt a → IsOwnAttempt (attempt_anew a)
  attempt_anew_own (tasks.Transfer t) own = own
  attempt_anew_own (tasks.Await w) own = own
  attempt_anew_own (tasks.Shared v) own = (own.0, own.1, first_own v.job own.0 own.1)

  -- the attempts after one has ended
  again_own : (a : Attempts) (next : NextStep LineReply) → IsOwnAttempt a.attempt → IsOwnAttempt (attempts_again a next).attempt
  again_own a next own =
      elim (cases_Bool (next_wants_retry next && nat_lt 1 a.left)) [
        | inl more ↦ rw more (attempt_advance_own (attempt_anew a.attempt) None (attempt_anew_own a.attempt own))
        | inr last ↦ rw last own
      ]

  -- a line after one more reply, or an absent one
  advance_own : (task : LineTask) (last : Option EventReply) → IsOwnTask task → IsOwnTask (line_advance task last)
  advance_own (Refused fault) last own = tt
  advance_own (Running a) last own =
      again_own (record { attempt = attempt_advance a.attempt last; left = a.left }) (attempt_to_do (attempt_advance a.attempt last))
      (attempt_advance_own a.attempt last own)

  -- a line after all that it was given
  advanced_own : (task : LineTask) (given : Inputs) → IsOwnTask task → IsOwnTask (line_advanced task given)
  advanced_own task [] own = own
  advanced_own task (last ∷ given) own = advance_own (line_advanced task given) last (advanced_own task given own)

  -- the attempt of a line, if it is not refused, is of this slot and level, or of this board's local port
  abbrev IsOwnLine : Result Attempt CycleFault → Type 0
  IsOwnLine (Ok attempt) = IsOwnAttempt (attempt_fresh attempt)
  IsOwnLine (Err fault) = Unit {0}

  -- a line before its first call
  fresh_line_own : (count : ℕ) (attempt : Result Attempt CycleFault) → IsOwnLine attempt → IsOwnTask (line_fresh count attempt)
  fresh_line_own count (Ok attempt) own = own
  fresh_line_own count (Err fault) own = tt

  -- the attempt of a request, if each lawful request's is
  request_own : (attempt : Transfer → Attempt) (transfer : Result Transfer CycleFault) → ((t : Transfer) → IsOwnLine (Ok (attempt t)))
      → IsOwnLine (request_attempt attempt transfer)
  request_own attempt (Ok t) each = each t
  request_own attempt (Err fault) each = tt

  -- the attempt of a request to a lock or a mailbox
  sharing_own : (s : SharedJob) (refusal : Option CycleFault) → s.slot ≡ slot → s.level ≡ level → IsOwnLine (unless_refused (Sharing s) refusal)
  sharing_own s None slots levels = (slots, levels, first_own s slots levels)
  sharing_own s (Some fault) slots levels = tt

  -- a transfer of its own slot and level is a job of these
  own_transfer : (job : Job) → IsOwnTransfer job → IsOwnJob job
  own_transfer (Bus job) own = own
  own_transfer (Local job) own = absurd own

  -- the transfer or the local command that a task is at is of this slot and level, or of this board
  abbrev pub IsOwnView : Option TaskView → Type 0
  IsOwnView None = Unit {0}
  IsOwnView (Some t) = IsOwnJob t.job

  -- the transfer of a lock or a mailbox
  own_current : (current : CurrentTransfer) → IsOwnCurrent current → IsOwnView (current_view current)
  own_current (currents.Running stage task) own = own_transfer task.job own
  own_current (currents.Finished end) own = tt

  -- the transfer or the local command of an attempt
  own_attempt : (a : AttemptTask) → IsOwnAttempt a → IsOwnView (attempt_view a)
  own_attempt (tasks.Transfer t) own = own
  own_attempt (tasks.Await w) own = own_transfer w.task.job own
  own_attempt (tasks.Shared v) own = own_current v.current own.2

  -- the transfer or the local command of a line
  pub own_view : (task : LineTask) → IsOwnTask task → IsOwnView (line_view task)
  own_view (Refused fault) own = tt
  own_view (Running a) own = own_attempt a.attempt own

-- the attempt of a processor's request to a lock or a mailbox is its own
shared_own : (config : Configuration) (board : ℕ) (request : SharedRequest)
    → IsOwnLine board (slot_at config board) (level_at config board) (shared_attempt config board request)
shared_own config board request =
    sharing_own board (slot_at config board) (level_at config board) (shared_job config board request) (shared_refusal request) refl refl

-- the attempt of a processor's line is its own
attempt_own : (config : Configuration) (board : ℕ) (line : Line)
    → IsOwnLine board (slot_at config board) (level_at config board) (line_attempt config board line)
attempt_own config board (lines.Bus request) =
    request_own board (slot_at config board) (level_at config board) (λ t. Transferring (scripts.transfer_job config board t)) (transfer_of request)
    (λ t. (refl, refl))
attempt_own config board (lines.Local cmd) = refl
attempt_own config board (lines.Await am addr bytes) =
    request_own board (slot_at config board) (level_at config board) (λ t. Awaiting (scripts.transfer_job config board t) bytes.items)
    (transfer_of (requests.Read am addr (length bytes.items))) (λ t. (refl, refl))
attempt_own config board (lines.Lock am addr) = shared_own config board (asked.Lock am addr)
attempt_own config board (lines.Unlock am addr) = shared_own config board (asked.Unlock am addr)
attempt_own config board (lines.Put box word) = shared_own config board (asked.Put (mailbox_at config box) word)
attempt_own config board (lines.Take box) = shared_own config board (asked.Take (mailbox_at config box))

-- a processor's line is its own, whatever it was given
pub given_own : (config : Configuration) (board : ℕ) (line : Line) (given : Inputs)
    → IsOwnTask board (slot_at config board) (level_at config board) (line_given config board line given)
unfolding line_started
given_own config board line given =
    advanced_own board (slot_at config board) (level_at config board) (line_started config board line) given
    (fresh_line_own board (slot_at config board) (level_at config board) config.tries (line_attempt config board line) (attempt_own config board line))
