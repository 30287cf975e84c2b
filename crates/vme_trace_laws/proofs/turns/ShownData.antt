-- The event of a transfer shows the datum that its processor is at.
use Rattle.std.proofs.Common.{◌≡◌, ℕ, ◌+◌, ◌*◌, ◌%◌, ◌<◌, ◌==◌, ◌||◌, Bool, true, false, if◌then◌else◌, List, Option, Some, None, is_some, refl, ap, sym, subst, ◌∙◌, arith}
use Rattle.std.specs.Prelude.{nat_lt, slice_get}
use Rattle.std.specs.Option.{option_and_then}
use Rattle.std.proofs.lemmas.Bool.{false≢true, ne_eqb, eq-eqb, ltb-true, ltb-false}
use Rattle.vme_cycle.specs.Requests.{addr_of, address_of, count_of, datum_len}
use Rattle.vme_cycle.specs.SignalLines.{SignalLines}
use Rattle.vme_decode.specs.Select.{selection_at}
use Rattle.vme_decode.proofs.lemmas.Selection.{place_responds, place_remainder}
use Rattle.vme_memory.specs.declared.command.BoardCmd.{BoardCmd}
use Rattle.vme_memory.specs.Boards.{Board}
use Rattle.vme_memory.specs.declared.reply.Reply.{Reply}
use Rattle.vme_memory.specs.declared.reply.Reply.TheVariants.{Bytes, Done, Berr}
use Rattle.vme_memory.specs.Steps.{step}
use Rattle.vme_memory.specs.Data.{datum_command, has_form}
use Rattle.vme_memory.proofs.lemmas.Data.{own_command, reply_form}
use Rattle.vme_arbiter.specs.declared.command.ArbReply.{ArbReply}
use Rattle.vme_arbiter.specs.declared.command.ArbReply.TheVariants as arb_replies
use Rattle.vme_arbiter.specs.Arbitration.{ask_step, look_step, done_step}
use Rattle.vme_core.specs.declared.event.EventReply.{EventReply}
use Rattle.vme_core.specs.declared.event.EventReply.TheVariants as replies
use Rattle.vme_core.specs.CountedStates.{CountedState}
use Rattle.vme_core.specs.Runs.{Machine}
use Rattle.vme_core.specs.Calls.{Call, OnBoard, board_after, machine_step}
use Rattle.vme_core.specs.NextSteps.{NextStep, Invokes}
use Rattle.vme_master.specs.declared.job.BusJob.{BusJob}
use Rattle.vme_master.specs.declared.job.LocalJob.{LocalJob}
use Rattle.vme_master.specs.declared.job.Job.{Job}
use Rattle.vme_master.specs.declared.job.Job.TheVariants.{Bus, Local}
use Rattle.vme_master.specs.declared.outcome.Outcome.{Outcome}
use Rattle.vme_master.specs.declared.phase.Phase.{Phase}
use Rattle.vme_master.specs.declared.phase.Phase.TheVariants as phases
use Rattle.vme_master.specs.CurrentData.{bus_datum, task_datum}
use Rattle.vme_master.specs.Jobs.{ask_call, look_call, done_call, datum_call, local_call, request_expected}
use Rattle.vme_master.specs.Machine.{TaskView, expected_len, datum_phase, phase_answered, phase_replied, task_replied, advance, bus_next, local_next, job_next}
use Rattle.vme_master.proofs.lemmas.Expected.{datum_len_wanted}
use Rattle.vme_master.proofs.lemmas.ReadLengths.{same_place}
use Rattle.vme_master.proofs.lemmas.Stands.{job_stays}
use Rattle.vme_script.specs.Boards.{entries_of}
use Rattle.vme_script.specs.Configurations.{Configuration}
use Rattle.vme_line_task.specs.declared.task.LineTask.{LineTask}
use Rattle.vme_line_task.specs.CurrentData.{line_datum, line_command}
use Rattle.vme_line_task.specs.Machine.{line_to_do}
use Rattle.vme_trace.specs.declared.observation.activity.Activity.{Activity}
use Rattle.vme_trace.specs.declared.observation.activity.Activity.TheVariants.{Releases, Transfers}
use Rattle.vme_trace.specs.Activities.{unanswered, transferred, board_activity, activity_of}
use Rattle.vme_trace.specs.Handshakes.{is_berr}
use Rattle.vme_trace_laws.specs.Commands.{IsTransferShown}
use Rattle.vme_trace_laws.proofs.turns.Views.{line_view, view_after, holding, phase_current, current}
use Rattle.vme_trace_laws.proofs.turns.LineViews.{line_makes, line_datum_of}
use Rattle.vme_trace_laws.proofs.turns.Phases.{task_of}
use Rattle.vme_trace_laws.proofs.turns.Handshakes.{ended_by, datum_ends, modify_last}
use Rattle.vme_trace_laws.proofs.turns.Data.{IsDuePhase, IsDueJob, IsDue}
use Rattle.vme_trace_laws.proofs.turns.Requested.{IsRequested, IsRequestedView, IsRequestedTask, view_requested}

-- the call of a next step
pub own_call : (a b : Call) → ◌≡◌ {A = NextStep Outcome} (Invokes a) (Invokes b) → a ≡ b
own_call a b same = cc

-- the first datum, or the release, is between no data
start_current : (job : BusJob) (place : Option (ℕ × ℕ)) (more : Bool) → nat_lt 0 (count_of job.transfer.request) ≡ more
    → phase_current job (datum_phase job place 0) ≡ None
start_current job None more is = refl
start_current job (Some p) true is = rw is refl
start_current job (Some p) false is = rw is refl

-- a transfer after an answer is between no data
answered_current : (job : BusJob) (reply : ArbReply) → phase_current job (phase_answered (Bus job) reply) ≡ None
answered_current job arb_replies.Granted = start_current job job.place (nat_lt 0 (count_of job.transfer.request)) refl
answered_current job arb_replies.Waiting = refl
answered_current job arb_replies.Freed = refl
answered_current job arb_replies.Denied = refl

-- a transfer after its release is between no data
released_current : (job : BusJob) (berr : Option ℕ) (read : List ℕ) (reply : ArbReply)
    → current (Some (advance (task_of (Bus job) (phases.Releasing berr) read) (Some (replies.Bus reply)))) ≡ None
released_current job berr read arb_replies.Granted = refl
released_current job berr read arb_replies.Waiting = refl
released_current job berr read arb_replies.Freed = refl
released_current job berr read arb_replies.Denied = refl

-- a local command is between no data
local_current : (job : LocalJob) (phase : Phase) (read : List ℕ) (given : Option EventReply)
    → current (Some (advance (task_of (Local job) phase read) given)) ≡ None
local_current job phase read given = rw (job_stays (task_of (Local job) phase read) phase given) refl

-- after a datum the next one is due, if there is one
next_current_by : (job : BusJob) (i count : ℕ) (more : Bool) → nat_lt i count ≡ true → nat_lt (i + 1) count ≡ more
    → phase_current job (if more then phases.Transferring (i + 1) else phases.Releasing None)
    ≡ (if i + 1 == count then None else Some (job.transfer, i + 1))
next_current_by job i count true less is =
    rw (ne_eqb (i + 1) 0 (λ same. absurd (omega (arith, same))), ne_eqb (i + 1) count (λ same. absurd (omega (arith, same, ltb-true (i + 1) count is)))) refl
next_current_by job i count false less is =
    rw (eq-eqb (i + 1) count (omega (arith, ltb-true i count less, ltb-false (i + 1) count is))) refl

-- after a datum on a board
next_current : (job : BusJob) (place : Option (ℕ × ℕ)) (i : ℕ) → is_some place ≡ true → nat_lt i (count_of job.transfer.request) ≡ true
    → phase_current job (datum_phase job place (i + 1)) ≡ (if i + 1 == count_of job.transfer.request then None else Some (job.transfer, i + 1))
next_current job None i some less = absurd (false≢true some)
next_current job (Some p) i some less =
    next_current_by job i (count_of job.transfer.request) (nat_lt (i + 1) (count_of job.transfer.request)) less refl

-- after a reply to a datum the next one is due, unless a bus error or the last datum has ended the transfer
replied_current : (job : BusJob) (i : ℕ) (reply : Reply) → is_some job.place ≡ true → nat_lt i (count_of job.transfer.request) ≡ true
    → phase_current job (phase_replied (Bus job) i reply)
    ≡ (if is_berr reply || (i + 1 == count_of job.transfer.request) then None else Some (job.transfer, i + 1))
replied_current job i (Bytes datum) some less = next_current job job.place i some less
replied_current job i Done some less = next_current job job.place i some less
replied_current job i Berr some less = refl

-- the processor is at the datum that an event shows, and after it at the next, unless that has ended the transfer; at another
-- event it is between no data
abbrev pub IsAtDatum : (config : Configuration) (activity : Activity) (call : Call) → IsTransferShown config activity call → Bool
    → Option TaskView → Option TaskView → Type 0
IsAtDatum config (Transfers datum) call shown ended v w =
    (holding v ≡ true) × (current v ≡ (if datum.first then None else Some (shown.transfer, shown.number)))
    × (current w ≡ (if ended then None else Some (shown.transfer, shown.number + 1)))
IsAtDatum config activity call shown ended v w = (current v ≡ None) × (current w ≡ None)

-- what an event shows of a transfer's call, at the processor's place in the transfer
abbrev pub ShowsAt : Configuration → Activity → Call → EventReply → Option TaskView → Option TaskView → Type 0
ShowsAt config activity call reply v w =
    (shown : IsTransferShown config activity call) × IsAtDatum config activity call shown (ended_by activity reply) v w

module _ (config : Configuration) where
  -- a datum on the board that is selected, by the reply
  datum_shows : (job : BusJob) (i : ℕ) (read : List ℕ) (p : ℕ × ℕ) (reply : Reply) → job.place ≡ Some p
      → IsRequested (entries_of config.boards) (Bus job) → is_some job.place ≡ true → nat_lt i (count_of job.transfer.request) ≡ true
      → has_form (expected_len (request_expected job.transfer.request)) reply ≡ true
      → ShowsAt config (Transfers (transferred p.0 (bus_datum job (phases.Transferring i)))) (datum_call job (Some p) i) (replies.Board reply)
      (Some (task_of (Bus job) (phases.Transferring i) read)) (Some (task_replied (task_of (Bus job) (phases.Transferring i) read) i reply))
  datum_shows job i read p reply at is some less form =
      let request = job.transfer.request in
      let more : i < count_of request = ltb-true i (count_of request) less in
      let chosen : selection_at (entries_of config.boards) job.transfer.am (addr_of request) ≡ Some (p.0, p.1) = sym is.1 ∙ at in
      let d = transferred p.0 (bus_datum job (phases.Transferring i)) in (
        record {
          transfer = job.transfer;
          lawful = is.0;
          number = i;
          more = more;
          signals = refl;
          function = refl;
          first = refl;
          last = refl;
          offset = p.1;
          responds = place_responds (entries_of config.boards) job.transfer.am (addr_of request) p.0 p.1 chosen;
          own = refl;
          sensed = λ lawful.
              let aligned : (p.1 + i * datum_len request) % 4 ≡ address_of request i % 4 =
              same_place p.1 (addr_of request) (i * datum_len request)
              (place_remainder (entries_of config.boards) job.transfer.am (addr_of request) p.0 p.1 lawful.map chosen) in
              ap (OnBoard p.0) (sym (own_command job.transfer i (p.1 + i * datum_len request) is.0 more aligned));
        },
        (
          refl,
          refl,
          rw form (replied_current job i reply some less
              ∙ ap (λ (ended : Bool). if ended then None else Some (job.transfer, i + 1)) (sym (datum_ends d reply (modify_last request i less)))),
        ),
      )

  module _ (machine : Machine) (who : ℕ) where
    -- what the event of a task's call shows
    abbrev Shows : LineTask → TaskView → Call → Type 0
    Shows task t call =
        let made = machine_step machine who call in
        ShowsAt config (activity_of task call) call made.1 (Some t) (Some (advance t (Some made.1)))

    -- a datum on the board that is selected, if it is there
    board_shows : (job : BusJob) (i : ℕ) (read : List ℕ) (p : ℕ × ℕ) (found : Option (CountedState Board)) → job.place ≡ Some p
        → IsRequested (entries_of config.boards) (Bus job) → is_some job.place ≡ true → nat_lt i (count_of job.transfer.request) ≡ true
        → (let made = board_after machine who p.0 (Some (datum_command job.transfer.request i (p.1 + i * datum_len job.transfer.request))) found in
        ShowsAt config (Transfers (transferred p.0 (bus_datum job (phases.Transferring i)))) (datum_call job (Some p) i) made.1
        (Some (task_of (Bus job) (phases.Transferring i) read)) (Some (advance (task_of (Bus job) (phases.Transferring i) read) (Some made.1))))
    board_shows job i read p None at is some less = datum_shows job i read p Berr at is some less refl
    board_shows job i read p (Some board) at is some less =
        let command = datum_command job.transfer.request i (p.1 + i * datum_len job.transfer.request) in
        datum_shows job i read p (step board.object command).0 at is some less
        (ap (λ len. has_form len (step board.object command).0)
        (sym (datum_len_wanted job.transfer.request i (p.1 + i * datum_len job.transfer.request)))
        ∙ reply_form board.object command)

    -- a datum of a transfer
    transfer_shows : (task : LineTask) (job : BusJob) (i : ℕ) (read : List ℕ) (place : Option (ℕ × ℕ)) → job.place ≡ place
        → line_datum task ≡ Some (bus_datum job (phases.Transferring i)) → IsRequested (entries_of config.boards) (Bus job)
        → is_some job.place ≡ true → nat_lt i (count_of job.transfer.request) ≡ true
        → Shows task (task_of (Bus job) (phases.Transferring i) read) (datum_call job place i)
    transfer_shows task job i read None at found is some less = absurd (false≢true (sym (ap is_some at) ∙ some))
    transfer_shows task job i read (Some p) at found is some less =
        rw found (board_shows job i read p (slice_get machine.boards p.0) at is some less)

    -- the release of the bus is between no data
    done_shows : (signals : Option SignalLines) (call : Call) (reply : EventReply) (v w : Option TaskView) → current v ≡ None → current w ≡ None
        → ShowsAt config (Releases signals) call reply v w
    done_shows signals call reply v w before after = (tt, (before, after))

    -- a transfer's call
    bus_shows : (task : LineTask) (job : BusJob) (phase : Phase) (read : List ℕ) (call : Call) → line_datum task ≡ Some (bus_datum job phase)
        → IsRequested (entries_of config.boards) (Bus job) → IsDuePhase job phase → bus_next job phase read ≡ Invokes call
        → Shows task (task_of (Bus job) phase read) call
    bus_shows task job phases.New read call found is due made = absurd cc
    bus_shows task job phases.Requesting read call found is due made =
        subst (Shows task (task_of (Bus job) phases.Requesting read)) (own_call (ask_call job) call made)
        (tt, (refl, answered_current job (ask_step machine.bus.object job.slot job.level).1))
    bus_shows task job phases.Polling read call found is due made =
        subst (Shows task (task_of (Bus job) phases.Polling read)) (own_call (look_call job) call made)
        (tt, (refl, answered_current job (look_step machine.bus.object job.slot).1))
    bus_shows task job (phases.Transferring i) read call found is due made =
        subst (Shows task (task_of (Bus job) (phases.Transferring i) read)) (own_call (datum_call job job.place i) call made)
        (transfer_shows task job i read job.place refl found is due.0 due.1)
    bus_shows task job (phases.Releasing berr) read call found is due made =
        let reply = (machine_step machine who (done_call job)).1 in
        let t = task_of (Bus job) (phases.Releasing berr) read in
        subst (Shows task t) (own_call (done_call job) call made)
        (done_shows (unanswered (line_datum task)) (done_call job) reply (Some t) (Some (advance t (Some reply))) refl
        (released_current job berr read (done_step machine.bus.object job.slot).1))
    bus_shows task job (phases.Finished berr) read call found is due made = absurd cc
    bus_shows task job phases.Denied read call found is due made = absurd cc

    -- a command to a local port is no datum of a transfer
    port_shows : (x : ℕ) (cmd : Option BoardCmd) (call : Call) (reply : EventReply) (v w : Option TaskView) → current v ≡ None → current w ≡ None
        → ShowsAt config (board_activity x None cmd) call reply v w
    port_shows x None call reply v w before after = (tt, (before, after))
    port_shows x (Some cmd) call reply v w before after = (tt, (before, after))

    -- a local command's call
    local_shows : (task : LineTask) (job : LocalJob) (phase : Phase) (read : List ℕ) (call : Call) → line_datum task ≡ None
        → local_next job phase read ≡ Invokes call → Shows task (task_of (Local job) phase read) call
    local_shows task job (phases.Transferring i) read call none made =
        let reply = (machine_step machine who (local_call job)).1 in
        let t = task_of (Local job) (phases.Transferring i) read in
        subst (Shows task t) (own_call (local_call job) call made)
        (rw none (port_shows job.board (line_command task) (local_call job) reply (Some t) (Some (advance t (Some reply))) refl
        (local_current job (phases.Transferring i) read (Some reply))))
    local_shows task job phases.New read call none made = absurd cc
    local_shows task job phase read call none made = absurd cc

    -- a job's call
    job_shows : (task : LineTask) (job : Job) (phase : Phase) (read : List ℕ) (call : Call)
        → line_datum task ≡ task_datum (task_of job phase read) → IsRequested (entries_of config.boards) job
        → IsDueJob job phase → job_next job phase read ≡ Invokes call → Shows task (task_of job phase read) call
    job_shows task (Bus job) phase read call found is due made = bus_shows task job phase read call found is due made
    job_shows task (Local job) phase read call found is due made = local_shows task job phase read call found made

    -- a line's call
    pub line_shows : (task : LineTask) (call : Call) → IsRequestedTask (entries_of config.boards) task → IsDue (line_view task)
        → line_to_do task ≡ Invokes call
        → (let made = machine_step machine who call in
        ShowsAt config (activity_of task call) call made.1 (line_view task) (view_after (Some made.1) (line_view task)))
    line_shows task call is due made =
        let makes = line_makes task call made in
        let t = makes.0 in
        let reply = (machine_step machine who call).1 in
        subst (λ (v : Option TaskView). ShowsAt config (activity_of task call) call reply v (view_after (Some reply) v)) (sym makes.1)
        (job_shows task t.job t.phase t.read call (line_datum_of task ∙ ap (option_and_then task_datum) makes.1)
        (subst (IsRequestedView (entries_of config.boards)) makes.1 (view_requested (entries_of config.boards) task is))
        (subst IsDue makes.1 due) makes.2)
