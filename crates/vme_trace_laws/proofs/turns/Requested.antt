-- Each transfer is that of a lawful request, on the board that its first byte selects.
use Rattle.std.proofs.Common.{◌≡◌, ℕ, List, [], ◌∷◌, Option, Some, None, Result, Ok, Err, refl, ap, sym, subst, inl, inr}
use Rattle.std.specs.Prelude.{nat_lt, ◌&&◌, length}
use Rattle.std.proofs.lemmas.Bool.{cases_Bool}
use Rattle.vme_cycle.specs.declared.fault.CycleFault.{CycleFault}
use Rattle.vme_cycle.specs.declared.request.Request.{Request}
use Rattle.vme_cycle.specs.declared.request.Request.TheVariants as requests
use Rattle.vme_cycle.specs.Requests.{addr_of}
use Rattle.vme_cycle.specs.Lawful.{Transfer, transfer_of, IsLawfulTransfer}
use Rattle.vme_cycle.proofs.lemmas.Transfers.{transfer_is_lawful}
use Rattle.vme_decode.specs.declared.entry.Entry.{Entry}
use Rattle.vme_decode.specs.Select.{selection_at}
use Rattle.vme_core.specs.declared.event.EventReply.{EventReply}
use Rattle.vme_core.specs.NextSteps.{NextStep, NotStarted, Invokes, Returns}
use Rattle.vme_master.specs.declared.job.Job.{Job}
use Rattle.vme_master.specs.declared.job.Job.TheVariants.{Bus, Local}
use Rattle.vme_master.specs.declared.outcome.Outcome.{Outcome}
use Rattle.vme_master.specs.Tables.{Inputs}
use Rattle.vme_master.specs.Machine.{TaskView, advance, to_do}
use Rattle.vme_master.proofs.lemmas.Stands.{job_stays}
use Rattle.vme_shared.specs.declared.reply.LineReply.{LineReply}
use Rattle.vme_shared.specs.declared.stage.Stage.{Stage}
use Rattle.vme_shared.specs.declared.stage.StageResult.{StageResult}
use Rattle.vme_shared.specs.declared.stage.StageResult.TheVariants.{Continue, Finish}
use Rattle.vme_shared.specs.declared.current.CurrentTransfer.{CurrentTransfer}
use Rattle.vme_shared.specs.declared.current.CurrentTransfer.TheVariants as currents
use Rattle.vme_shared.specs.declared.request.SharedRequest.{SharedRequest}
use Rattle.vme_shared.specs.declared.request.SharedRequest.TheVariants as asked
use Rattle.vme_shared.specs.Mailboxes.{shared_refusal, stage_request}
use Rattle.vme_shared.specs.Steps.{first_stage, step_after}
use Rattle.vme_shared.specs.Tables.{SharedJob, checked_job, stage_job}
use Rattle.vme_shared.specs.Machine.{stage_fresh, stage_called, current_stepped, current_by, current_after}
use Rattle.vme_grammar.specs.declared.line.Line.{Line}
use Rattle.vme_grammar.specs.declared.line.Line.TheVariants as lines
use Rattle.vme_script.specs.Boards.{entries_of}
use Rattle.vme_script.specs.Configurations.{Configuration}
use Rattle.vme_line_task.specs.declared.task.LineTask.{LineTask}
use Rattle.vme_line_task.specs.declared.task.LineTask.TheVariants.{Refused, Running}
use Rattle.vme_line_task.specs.declared.attempt.Attempts.{Attempts}
use Rattle.vme_line_task.specs.declared.attempt.AttemptTask.{AttemptTask}
use Rattle.vme_line_task.specs.declared.attempt.AttemptTask.TheVariants as tasks
use Rattle.vme_line_task.specs.Scripts.{Attempt, Transferring, Awaiting, Sharing, mailbox_at, request_attempt, unless_refused, shared_job, shared_attempt, line_attempt}
use Rattle.vme_line_task.specs.Scripts as scripts
use Rattle.vme_line_task.specs.Tables.{next_wants_retry}
use Rattle.vme_line_task.specs.Machine.{attempt_fresh, attempt_anew, attempt_advance, attempt_to_do, attempts_again, line_fresh, line_started, line_advance, line_advanced, line_given}
use Rattle.vme_trace_laws.proofs.turns.Views.{current_view, attempt_view, line_view}

module _ (map : List Entry) where
  -- a transfer is that of a lawful request, on the board that its first byte selects
  abbrev pub IsRequested : Job → Type 0
  IsRequested (Bus job) = IsLawfulTransfer job.transfer × (job.place ≡ selection_at map job.transfer.am (addr_of job.transfer.request))
  IsRequested (Local job) = Unit {0}

  -- the transfer that a processor is at is so, if it is at one
  abbrev pub IsRequestedView : Option TaskView → Type 0
  IsRequestedView None = Unit {0}
  IsRequestedView (Some t) = IsRequested t.job

  -- the transfers of an attempt are so
  abbrev IsRequestedAttempt : AttemptTask → Type 0
  IsRequestedAttempt (tasks.Transfer t) = IsRequested t.job
  IsRequestedAttempt (tasks.Await w) = IsRequested w.task.job
  IsRequestedAttempt (tasks.Shared v) = (v.job.map ≡ map) × IsRequestedView (current_view v.current)

  -- the transfers of a line are so
  abbrev pub IsRequestedTask : LineTask → Type 0
  IsRequestedTask (Refused fault) = Unit {0}
  IsRequestedTask (Running a) = IsRequestedAttempt a.attempt

  -- a job that is not refused is so
  abbrev IsRequestedResult : Result Job CycleFault → Type 0
  IsRequestedResult (Ok job) = IsRequested job
  IsRequestedResult (Err fault) = Unit {0}

  -- the transfer of a request of a lock or a mailbox
  shared_requested : (s : SharedJob) (request : Request) (transfer : Result Transfer CycleFault) → transfer_of request ≡ transfer → s.map ≡ map
      → IsRequestedResult (checked_job s transfer)
  shared_requested s request (Ok t) is same =
      (transfer_is_lawful request t is, ap (λ (entries : List Entry). selection_at entries t.am (addr_of t.request)) same)
  shared_requested s request (Err fault) is same = tt

  -- the transfer of a stage
  stage_requested : (s : SharedJob) (stage : Stage) → s.map ≡ map → IsRequestedResult (stage_job s stage)
  stage_requested s stage same = shared_requested s (stage_request s.request stage) (transfer_of (stage_request s.request stage)) refl same

  -- a stage before its first call
  fresh_requested : (stage : Stage) (job : Result Job CycleFault) → IsRequestedResult job → IsRequestedView (current_view (stage_fresh stage job))
  fresh_requested stage (Ok job) is = is
  fresh_requested stage (Err fault) is = tt

  -- a stage after its first call
  called_requested : (stage : Stage) (job : Result Job CycleFault) → IsRequestedResult job → IsRequestedView (current_view (stage_called stage job))
  called_requested stage (Ok job) is = is
  called_requested stage (Err fault) is = tt

  -- what follows a transfer
  stepped_requested : (s : SharedJob) (step : StageResult) → s.map ≡ map → IsRequestedView (current_view (current_stepped s step))
  stepped_requested s (Continue stage) same = called_requested stage (stage_job s stage) (stage_requested s stage same)
  stepped_requested s (Finish end) same = tt

  -- the current transfer, by what its task does next
  by_requested : (s : SharedJob) (stage : Stage) (task : TaskView) (next : NextStep Outcome) → s.map ≡ map → IsRequested task.job
      → IsRequestedView (current_view (current_by s stage task next))
  by_requested s stage task NotStarted same is = is
  by_requested s stage task (Invokes call) same is = is
  by_requested s stage task (Returns outcome) same is = stepped_requested s (step_after s.request stage outcome) same

  -- a task after a reply, or an absent one
  advance_requested : (t : TaskView) (given : Option EventReply) → IsRequested t.job → IsRequested (advance t given).job
  advance_requested t given is = subst IsRequested (sym (job_stays t t.phase given)) is

  -- the current transfer after a reply, or an absent one
  after_requested : (s : SharedJob) (current : CurrentTransfer) (given : Option EventReply) → s.map ≡ map → IsRequestedView (current_view current)
      → IsRequestedView (current_view (current_after s current given))
  after_requested s (currents.Running stage task) given same is =
      by_requested s stage (advance task given) (to_do (advance task given)) same (advance_requested task given is)
  after_requested s (currents.Finished end) given same is = tt

  -- an attempt after a reply, or an absent one
  attempt_requested : (a : AttemptTask) (given : Option EventReply) → IsRequestedAttempt a → IsRequestedAttempt (attempt_advance a given)
  attempt_requested (tasks.Transfer t) given is = advance_requested t given is
  attempt_requested (tasks.Await w) given is = advance_requested w.task given is
  attempt_requested (tasks.Shared v) given is = (is.0, after_requested v.job v.current given is.0 is.1)

  -- a lock or a mailbox before its first call
  first_requested : (s : SharedJob) → s.map ≡ map
      → IsRequestedView (current_view (stage_fresh (first_stage s.request) (stage_job s (first_stage s.request))))
  first_requested s same =
      fresh_requested (first_stage s.request) (stage_job s (first_stage s.request)) (stage_requested s (first_stage s.request) same)

  -- an attempt put back before its first call
  anew_requested : (a : AttemptTask) → IsRequestedAttempt a → IsRequestedAttempt (attempt_anew a)
  anew_requested (tasks.Transfer t) is = is
  anew_requested (tasks.Await w) is = is
  anew_requested (tasks.Shared v) is = (is.0, first_requested v.job is.0)

  -- the attempts after one has ended
  again_requested : (a : Attempts) (next : NextStep LineReply) → IsRequestedAttempt a.attempt → IsRequestedAttempt (attempts_again a next).attempt
  again_requested a next is =
      elim (cases_Bool (next_wants_retry next && nat_lt 1 a.left)) [
        | inl more ↦ rw more (attempt_requested (attempt_anew a.attempt) None (anew_requested a.attempt is))
        | inr last ↦ rw last is
      ]

  -- a line after a reply, or an absent one
  line_requested : (task : LineTask) (given : Option EventReply) → IsRequestedTask task → IsRequestedTask (line_advance task given)
  line_requested (Refused fault) given is = tt
  line_requested (Running a) given is =
      again_requested (record { attempt = attempt_advance a.attempt given; left = a.left }) (attempt_to_do (attempt_advance a.attempt given))
      (attempt_requested a.attempt given is)

  -- a line after all that it was given
  advanced_requested : (task : LineTask) (given : Inputs) → IsRequestedTask task → IsRequestedTask (line_advanced task given)
  advanced_requested task [] is = is
  advanced_requested task (last ∷ given) is = line_requested (line_advanced task given) last (advanced_requested task given is)

  -- the attempt of a line, if it is not refused
  abbrev IsRequestedLine : Result Attempt CycleFault → Type 0
  IsRequestedLine (Ok attempt) = IsRequestedAttempt (attempt_fresh attempt)
  IsRequestedLine (Err fault) = Unit {0}

  -- a line before its first call
  fresh_line_requested : (count : ℕ) (attempt : Result Attempt CycleFault) → IsRequestedLine attempt → IsRequestedTask (line_fresh count attempt)
  fresh_line_requested count (Ok attempt) is = is
  fresh_line_requested count (Err fault) is = tt

  -- the attempt of a request, if each lawful request's is
  request_requested : (attempt : Transfer → Attempt) (request : Request) (transfer : Result Transfer CycleFault) → transfer_of request ≡ transfer
      → ((t : Transfer) → IsLawfulTransfer t → IsRequestedLine (Ok (attempt t))) → IsRequestedLine (request_attempt attempt transfer)
  request_requested attempt request (Ok t) is each = each t (transfer_is_lawful request t is)
  request_requested attempt request (Err fault) is each = tt

  -- the attempt of a request to a lock or a mailbox
  sharing_requested : (s : SharedJob) (refusal : Option CycleFault) → s.map ≡ map → IsRequestedLine (unless_refused (Sharing s) refusal)
  sharing_requested s None same = (same, first_requested s same)
  sharing_requested s (Some fault) same = tt

  -- the transfer of a lock or a mailbox, or that of another attempt
  attempt_view_requested : (a : AttemptTask) → IsRequestedAttempt a → IsRequestedView (attempt_view a)
  attempt_view_requested (tasks.Transfer t) is = is
  attempt_view_requested (tasks.Await w) is = is
  attempt_view_requested (tasks.Shared v) is = is.1

  -- the transfer of a line
  pub view_requested : (task : LineTask) → IsRequestedTask task → IsRequestedView (line_view task)
  view_requested (Refused fault) is = tt
  view_requested (Running a) is = attempt_view_requested a.attempt is

-- the attempt of a processor's request to a lock or a mailbox
sharing_of : (config : Configuration) (board : ℕ) (request : SharedRequest)
    → IsRequestedLine (entries_of config.boards) (shared_attempt config board request)
sharing_of config board request = sharing_requested (entries_of config.boards) (shared_job config board request) (shared_refusal request) refl

-- the attempt of a processor's line
attempt_of : (config : Configuration) (board : ℕ) (line : Line) → IsRequestedLine (entries_of config.boards) (line_attempt config board line)
attempt_of config board (lines.Bus request) =
    request_requested (entries_of config.boards) (λ t. Transferring (scripts.transfer_job config board t)) request (transfer_of request) refl
    (λ t lawful. (lawful, refl))
attempt_of config board (lines.Local cmd) = tt
attempt_of config board (lines.Await am addr bytes) =
    let request = requests.Read am addr (length bytes.items) in
    request_requested (entries_of config.boards) (λ t. Awaiting (scripts.transfer_job config board t) bytes.items) request (transfer_of request) refl
    (λ t lawful. (lawful, refl))
attempt_of config board (lines.Lock am addr) = sharing_of config board (asked.Lock am addr)
attempt_of config board (lines.Unlock am addr) = sharing_of config board (asked.Unlock am addr)
attempt_of config board (lines.Put box word) = sharing_of config board (asked.Put (mailbox_at config box) word)
attempt_of config board (lines.Take box) = sharing_of config board (asked.Take (mailbox_at config box))

-- the transfers of a processor's line, whatever it was given
pub given_requested : (config : Configuration) (board : ℕ) (line : Line) (given : Inputs)
    → IsRequestedTask (entries_of config.boards) (line_given config board line given)
unfolding line_started
given_requested config board line given =
    advanced_requested (entries_of config.boards) (line_started config board line) given
    (fresh_line_requested (entries_of config.boards) config.tries (line_attempt config board line) (attempt_of config board line))
