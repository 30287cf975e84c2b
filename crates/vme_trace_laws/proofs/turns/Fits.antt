-- The arbiter denies no command of a processor, and each slot's state at the arbiter is as the replies to its processor state.
use Rattle.std.proofs.Common.{◌≡◌, ◌≢◌, ℕ, ◌+◌, ◌*◌, Bool, true, false, List, Option, Some, None, is_some, refl, ap, sym, subst, ◌∙◌}
use Rattle.std.specs.Prelude.{nat_lt, slice_get}
use Rattle.std.proofs.lemmas.Bool.{false≢true, eq-eqb, and_from}
use Rattle.vme_cycle.specs.Requests.{count_of, datum_len}
use Rattle.vme_memory.specs.Boards.{Board}
use Rattle.vme_memory.specs.declared.reply.Reply.{Reply}
use Rattle.vme_memory.specs.declared.reply.Reply.TheVariants.{Bytes, Done, Berr}
use Rattle.vme_memory.specs.Steps.{step}
use Rattle.vme_memory.specs.Locals.{command_given}
use Rattle.vme_memory.specs.Data.{datum_command, has_form}
use Rattle.vme_memory.proofs.lemmas.Data.{reply_form}
use Rattle.vme_arbiter.specs.declared.command.ArbCmd.{ArbCmd}
use Rattle.vme_arbiter.specs.declared.command.ArbCmd.TheVariants as commands
use Rattle.vme_arbiter.specs.declared.command.ArbReply.{ArbReply}
use Rattle.vme_arbiter.specs.declared.command.ArbReply.TheVariants as arb_replies
use Rattle.vme_arbiter.specs.Requests.{is_slot, is_level}
use Rattle.vme_arbiter.specs.Arbitration.{Arbitration, holds, arbiter_step}
use Rattle.vme_arbiter.specs.Masters.{MatchesReply}
use Rattle.vme_arbiter.specs.Orderly as arbiter
use Rattle.vme_arbiter.proofs.lemmas.Turns.{own-reply, other-reply}
use Rattle.vme_core.specs.declared.event.EventReply.{EventReply}
use Rattle.vme_core.specs.declared.event.EventReply.TheVariants as replies
use Rattle.vme_core.specs.CountedStates.{CountedState}
use Rattle.vme_core.specs.Runs.{Machine}
use Rattle.vme_core.specs.Calls.{Call, command_step, board_after, machine_step}
use Rattle.vme_core.specs.NextSteps.{Invokes}
use Rattle.vme_master.specs.declared.job.BusJob.{BusJob}
use Rattle.vme_master.specs.declared.job.LocalJob.{LocalJob}
use Rattle.vme_master.specs.declared.job.Job.{Job}
use Rattle.vme_master.specs.declared.job.Job.TheVariants.{Bus, Local}
use Rattle.vme_master.specs.declared.phase.Phase.{Phase}
use Rattle.vme_master.specs.declared.phase.Phase.TheVariants as phases
use Rattle.vme_master.specs.Jobs.{ask_call, look_call, done_call, datum_call, local_call, request_expected}
use Rattle.vme_master.specs.Machine.{TaskView, expected_len, datum_phase, phase_answered, phase_replied, task_replied, advance, bus_next, local_next, job_next}
use Rattle.vme_master.proofs.lemmas.Expected.{datum_len_wanted}
use Rattle.vme_master.proofs.lemmas.Stands.{job_stays}
use Rattle.vme_line_task.specs.declared.task.LineTask.{LineTask}
use Rattle.vme_line_task.specs.Machine.{line_to_do}
use Rattle.vme_trace_laws.proofs.turns.Data.{IsDuePhase, IsDueJob, IsDue}
use Rattle.vme_trace_laws.proofs.turns.Jobs.{IsOwnJob, IsOwnTask, IsOwnView, own_view}
use Rattle.vme_trace_laws.proofs.turns.LineViews.{line_makes}
use Rattle.vme_trace_laws.proofs.turns.Phases.{task_of}
use Rattle.vme_trace_laws.proofs.turns.ShownData.{own_call}
use Rattle.vme_trace_laws.proofs.turns.Views.{line_view, view_after, phase_reply, last_reply, IsLike}

-- a call of a processor's slot, by the arbiter's last reply to it before and after
pub record IsFit (slot level : ℕ) (v w : Option TaskView) (before after : Arbitration) (reply : EventReply) : Type 0 where
  pub own : arbiter.IsOrderly before → is_slot slot ≡ true → is_level level ≡ true → MatchesReply before slot (last_reply v)
      → MatchesReply after slot (last_reply w) × (reply ≢ replies.Bus arb_replies.Denied)
  pub others : (other : ℕ) (last : Option ArbReply) → slot ≢ other → MatchesReply before other last → MatchesReply after other last

-- the same, in terms of the processor before it and after it
pub fit_like : (slot level : ℕ) (v v' w w' : Option TaskView) (before after : Arbitration) (reply : EventReply) → IsLike v v' → IsLike w' w
    → IsFit slot level v w before after reply → IsFit slot level v' w' before after reply
fit_like slot level v v' w w' before after reply first second fit = record {
  own = λ orderly slot_ok level_ok was.
      let next = fit.own orderly slot_ok level_ok (subst (MatchesReply before slot) (sym first.reply) was) in
      (subst (MatchesReply after slot) (sym second.reply) next.0, next.1);
  others = fit.others;
}

-- a board's reply is no denial
board_undenied : (reply : Reply) → replies.Board reply ≢ replies.Bus arb_replies.Denied
board_undenied reply same = cc same

-- the first datum of a transfer, or its release, is of a slot that holds the bus
start_reply : (job : BusJob) (place : Option (ℕ × ℕ)) (i : ℕ) (more : Bool) → nat_lt i (count_of job.transfer.request) ≡ more
    → phase_reply (datum_phase job place i) ≡ Some arb_replies.Granted
start_reply job None i more is = refl
start_reply job (Some p) i true is = rw is refl
start_reply job (Some p) i false is = rw is refl

-- a reply of the arbiter that is no denial is the last one
answered_reply : (job : BusJob) (reply : ArbReply) (bus : Arbitration) → MatchesReply bus job.slot (Some reply)
    → MatchesReply bus job.slot (phase_reply (phase_answered (Bus job) reply)) × (replies.Bus reply ≢ replies.Bus arb_replies.Denied)
answered_reply job arb_replies.Granted bus fits =
    (subst (MatchesReply bus job.slot) (sym (start_reply job job.place 0 (nat_lt 0 (count_of job.transfer.request)) refl)) fits, λ same. cc same)
answered_reply job arb_replies.Waiting bus fits = (fits, λ same. cc same)
answered_reply job arb_replies.Freed bus fits = (fits, λ same. cc same)
answered_reply job arb_replies.Denied bus fits = absurd fits

-- after the release the slot has no reply
released_reply : (job : BusJob) (berr : Option ℕ) (read : List ℕ) (reply : ArbReply) (bus : Arbitration) → reply ≡ arb_replies.Freed
    → MatchesReply bus job.slot (Some reply)
    → MatchesReply bus job.slot (last_reply (Some (advance (task_of (Bus job) (phases.Releasing berr) read) (Some (replies.Bus reply)))))
    × (replies.Bus reply ≢ replies.Bus arb_replies.Denied)
released_reply job berr read arb_replies.Freed bus is fits = (fits, λ same. cc same)
released_reply job berr read arb_replies.Granted bus is fits = absurd (cc is)
released_reply job berr read arb_replies.Waiting bus is fits = absurd (cc is)
released_reply job berr read arb_replies.Denied bus is fits = absurd fits

-- after a reply to a datum the slot still holds the bus
replied_reply : (job : BusJob) (i : ℕ) (reply : Reply) → phase_reply (phase_replied (Bus job) i reply) ≡ Some arb_replies.Granted
replied_reply job i (Bytes datum) = start_reply job job.place (i + 1) (nat_lt (i + 1) (count_of job.transfer.request)) refl
replied_reply job i Done = start_reply job job.place (i + 1) (nat_lt (i + 1) (count_of job.transfer.request)) refl
replied_reply job i Berr = refl

-- a datum of a transfer, with the reply of a board
datum_fits : (level : ℕ) (job : BusJob) (i : ℕ) (read : List ℕ) (reply : Reply) (bus : Arbitration)
    → has_form (expected_len (request_expected job.transfer.request)) reply ≡ true
    → IsFit job.slot level (Some (task_of (Bus job) (phases.Transferring i) read))
    (Some (task_replied (task_of (Bus job) (phases.Transferring i) read) i reply)) bus bus (replies.Board reply)
datum_fits level job i read reply bus form = record {
  own = λ orderly slot_ok level_ok was. (rw form (subst (MatchesReply bus job.slot) (sym (replied_reply job i reply)) was), board_undenied reply);
  others = λ other last apart was. was;
}

module _ (machine : Machine) (who : ℕ) where
  -- a call of a task
  abbrev Fits : ℕ → ℕ → TaskView → Call → Type 0
  Fits slot level t call =
      let made = machine_step machine who call in
      IsFit slot level (Some t) (Some (advance t (Some made.1))) machine.bus.object made.0.bus.object made.1

  -- a request
  ask_fits : (job : BusJob) (read : List ℕ) → Fits job.slot job.level (task_of (Bus job) phases.Requesting read) (ask_call job)
  ask_fits job read =
      let bus = machine.bus.object in
      let cmd : ArbCmd = commands.Ask job.slot job.level in record {
        own = λ orderly slot_ok level_ok was.
            answered_reply job (arbiter_step bus cmd).1 (arbiter_step bus cmd).0
            (own-reply bus job.slot None cmd orderly slot_ok was (and_from _ _ (eq-eqb job.slot job.slot refl) level_ok));
        others = λ other last apart was. other-reply bus other last cmd apart was;
      }

  -- a poll
  look_fits : (level : ℕ) (job : BusJob) (read : List ℕ) → Fits job.slot level (task_of (Bus job) phases.Polling read) (look_call job)
  look_fits level job read =
      let bus = machine.bus.object in
      let cmd : ArbCmd = commands.Look job.slot in record {
        own = λ orderly slot_ok level_ok was.
            answered_reply job (arbiter_step bus cmd).1 (arbiter_step bus cmd).0
            (own-reply bus job.slot (Some arb_replies.Waiting) cmd orderly slot_ok was (eq-eqb job.slot job.slot refl));
        others = λ other last apart was. other-reply bus other last cmd apart was;
      }

  -- a release
  done_fits : (level : ℕ) (job : BusJob) (berr : Option ℕ) (read : List ℕ)
      → Fits job.slot level (task_of (Bus job) (phases.Releasing berr) read) (done_call job)
  done_fits level job berr read =
      let bus = machine.bus.object in
      let cmd : ArbCmd = commands.Done job.slot in record {
        own = λ orderly slot_ok level_ok was.
            released_reply job berr read (arbiter_step bus cmd).1 (arbiter_step bus cmd).0 (freed was)
            (own-reply bus job.slot (Some arb_replies.Granted) cmd orderly slot_ok was (eq-eqb job.slot job.slot refl));
        others = λ other last apart was. other-reply bus other last cmd apart was;
      }
    where
      freed : holds machine.bus.object job.slot ≡ true → (arbiter_step machine.bus.object (commands.Done job.slot)).1 ≡ arb_replies.Freed
      freed held = rw held refl

  -- a datum on the board that is selected, if it is there
  board_fits : (level : ℕ) (job : BusJob) (i : ℕ) (read : List ℕ) (x at : ℕ) (found : Option (CountedState Board))
      → (let made = board_after machine who x (Some (datum_command job.transfer.request i at)) found in
      IsFit job.slot level (Some (task_of (Bus job) (phases.Transferring i) read))
      (Some (advance (task_of (Bus job) (phases.Transferring i) read) (Some made.1))) machine.bus.object made.0.bus.object made.1)
  board_fits level job i read x at None = datum_fits level job i read Berr machine.bus.object refl
  board_fits level job i read x at (Some board) =
      datum_fits level job i read (step board.object (datum_command job.transfer.request i at)).0 machine.bus.object
      (ap (λ len. has_form len (step board.object (datum_command job.transfer.request i at)).0) (sym (datum_len_wanted job.transfer.request i at))
      ∙ reply_form board.object (datum_command job.transfer.request i at))

  -- a datum
  transfer_fits : (level : ℕ) (job : BusJob) (i : ℕ) (read : List ℕ) (place : Option (ℕ × ℕ)) → job.place ≡ place → is_some job.place ≡ true
      → Fits job.slot level (task_of (Bus job) (phases.Transferring i) read) (datum_call job place i)
  transfer_fits level job i read None at some = absurd (false≢true (sym (ap is_some at) ∙ some))
  transfer_fits level job i read (Some p) at some =
      board_fits level job i read p.0 (p.1 + i * datum_len job.transfer.request) (slice_get machine.boards p.0)

  -- the call of a transfer
  bus_fits : (job : BusJob) (phase : Phase) (read : List ℕ) (call : Call) → IsDuePhase job phase → bus_next job phase read ≡ Invokes call
      → Fits job.slot job.level (task_of (Bus job) phase read) call
  bus_fits job phases.New read call due made = absurd cc
  bus_fits job phases.Requesting read call due made =
      subst (Fits job.slot job.level (task_of (Bus job) phases.Requesting read)) (own_call (ask_call job) call made) (ask_fits job read)
  bus_fits job phases.Polling read call due made =
      subst (Fits job.slot job.level (task_of (Bus job) phases.Polling read)) (own_call (look_call job) call made) (look_fits job.level job read)
  bus_fits job (phases.Transferring i) read call due made =
      subst (Fits job.slot job.level (task_of (Bus job) (phases.Transferring i) read)) (own_call (datum_call job job.place i) call made)
      (transfer_fits job.level job i read job.place refl due.0)
  bus_fits job (phases.Releasing berr) read call due made =
      subst (Fits job.slot job.level (task_of (Bus job) (phases.Releasing berr) read)) (own_call (done_call job) call made)
      (done_fits job.level job berr read)
  bus_fits job (phases.Finished berr) read call due made = absurd cc
  bus_fits job phases.Denied read call due made = absurd cc

  -- a command to a board that has no reply of the arbiter before or after it
  port_by : (slot level x : ℕ) (job : LocalJob) (phase : Phase) (read : List ℕ) (found : Option (CountedState Board))
      → (let made = board_after machine who x (command_given job.cmd) found in
      IsFit slot level (Some (task_of (Local job) phase read)) (Some (advance (task_of (Local job) phase read) (Some made.1)))
      machine.bus.object made.0.bus.object made.1)
  port_by slot level x job phase read None = record {
    own = λ orderly slot_ok level_ok was. (rw (job_stays (task_of (Local job) phase read) phase (Some (replies.Board Berr))) was, board_undenied Berr);
    others = λ other last apart was. was;
  }
  port_by slot level x job phase read (Some board) =
      let reply = (command_step board.object (command_given job.cmd)).1 in record {
        own = λ orderly slot_ok level_ok was.
            (rw (job_stays (task_of (Local job) phase read) phase (Some (replies.Board reply))) was, board_undenied reply);
        others = λ other last apart was. was;
      }

  -- the call of a local command
  local_fits : (slot level : ℕ) (job : LocalJob) (phase : Phase) (read : List ℕ) (call : Call) → local_next job phase read ≡ Invokes call
      → Fits slot level (task_of (Local job) phase read) call
  local_fits slot level job (phases.Transferring i) read call made =
      subst (Fits slot level (task_of (Local job) (phases.Transferring i) read)) (own_call (local_call job) call made)
      (port_by slot level job.board job (phases.Transferring i) read (slice_get machine.boards job.board))
  local_fits slot level job phases.New read call made = absurd cc
  local_fits slot level job phase read call made = absurd cc

  -- the call of a job
  job_fits : (board slot level : ℕ) (job : Job) (phase : Phase) (read : List ℕ) (call : Call) → IsOwnJob board slot level job
      → IsDueJob job phase → job_next job phase read ≡ Invokes call → Fits slot level (task_of job phase read) call
  job_fits board slot level (Bus job) phase read call own due made =
      subst (λ (s : ℕ). Fits s level (task_of (Bus job) phase read) call) own.0
      (subst (λ (l : ℕ). Fits job.slot l (task_of (Bus job) phase read) call) own.1 (bus_fits job phase read call due made))
  job_fits board slot level (Local job) phase read call own due made = local_fits slot level job phase read call made

  -- the call of a line
  pub line_fits : (board slot level : ℕ) (task : LineTask) (call : Call) → IsOwnTask board slot level task → IsDue (line_view task)
      → line_to_do task ≡ Invokes call
      → (let made = machine_step machine who call in
      IsFit slot level (line_view task) (view_after (Some made.1) (line_view task)) machine.bus.object made.0.bus.object made.1)
  line_fits board slot level task call own due made =
      let makes = line_makes task call made in
      let t = makes.0 in
      let reply = (machine_step machine who call).1 in
      let after = (machine_step machine who call).0 in
      subst (λ (v : Option TaskView). IsFit slot level v (view_after (Some reply) v) machine.bus.object after.bus.object reply) (sym makes.1)
      (job_fits board slot level t.job t.phase t.read call (subst (IsOwnView board slot level) makes.1 (own_view board slot level task own))
      (subst IsDue makes.1 due) makes.2)
