-- A call of a processor, by what it is shown to do: who holds the bus after it, and whether its transfer goes on.
use Rattle.std.proofs.Common.{◌≡◌, ◌⊎◌, ℕ, ◌+◌, ◌*◌, ◌==◌, Bool, true, false, not, if◌then◌else◌, List, Option, Some, None, is_some, refl, ap, sym, subst, ◌∙◌, inl, inr}
use Rattle.std.specs.Prelude.{nat_lt, slice_get}
use Rattle.std.specs.Option.{option_and_then}
use Rattle.std.proofs.lemmas.Bool.{false≢true}
use Rattle.vme_cycle.specs.SignalLines.{SignalLines}
use Rattle.vme_cycle.specs.Requests.{count_of, datum_len}
use Rattle.vme_cycle.specs.Plans.{signals_of}
use Rattle.vme_memory.specs.Boards.{Board}
use Rattle.vme_memory.specs.declared.command.BoardCmd.{BoardCmd}
use Rattle.vme_memory.specs.declared.reply.Reply.{Reply}
use Rattle.vme_memory.specs.declared.reply.Reply.TheVariants.{Berr}
use Rattle.vme_memory.specs.Steps.{step}
use Rattle.vme_memory.specs.Locals.{command_given}
use Rattle.vme_memory.specs.Data.{datum_command, has_form}
use Rattle.vme_memory.proofs.lemmas.Data.{reply_form}
use Rattle.vme_arbiter.specs.declared.command.ArbReply.{ArbReply}
use Rattle.vme_arbiter.specs.Arbitration.{Arbitration, ask_step, look_step, done_step}
use Rattle.vme_core.specs.declared.event.EventReply.{EventReply}
use Rattle.vme_core.specs.declared.event.EventReply.TheVariants as replies
use Rattle.vme_core.specs.CountedStates.{CountedState}
use Rattle.vme_core.specs.Runs.{Machine}
use Rattle.vme_core.specs.Calls.{Call, board_after, machine_step}
use Rattle.vme_core.specs.NextSteps.{Invokes}
use Rattle.vme_master.specs.declared.job.BusJob.{BusJob}
use Rattle.vme_master.specs.declared.job.LocalJob.{LocalJob}
use Rattle.vme_master.specs.declared.job.Job.{Job}
use Rattle.vme_master.specs.declared.job.Job.TheVariants.{Bus, Local}
use Rattle.vme_master.specs.declared.phase.Phase.{Phase}
use Rattle.vme_master.specs.declared.phase.Phase.TheVariants as phases
use Rattle.vme_master.specs.CurrentData.{bus_datum, task_datum}
use Rattle.vme_master.specs.Jobs.{ask_call, look_call, done_call, datum_call, local_call, request_expected}
use Rattle.vme_master.specs.Machine.{TaskView, expected_len, task_replied, advance, bus_next, local_next, job_next}
use Rattle.vme_master.proofs.lemmas.Expected.{datum_len_wanted}
use Rattle.vme_line_task.specs.declared.task.LineTask.{LineTask}
use Rattle.vme_line_task.specs.CurrentData.{line_datum, line_command}
use Rattle.vme_line_task.specs.Machine.{line_to_do}
use Rattle.vme_trace.specs.declared.observation.activity.Activity.{Activity}
use Rattle.vme_trace.specs.declared.observation.activity.Activity.TheVariants.{Releases, Transfers}
use Rattle.vme_trace.specs.Activities.{transferred, board_activity, activity_of}
use Rattle.vme_trace.specs.declared.dump.handshake.Handshake.{Handshake}
use Rattle.vme_trace.specs.Handshakes.{first_handshake}
use Rattle.vme_trace.specs.Slots.{releases}
use Rattle.vme_trace_laws.proofs.turns.Busy.{board_bus}
use Rattle.vme_trace_laws.proofs.turns.ShownData.{own_call}
use Rattle.vme_trace_laws.proofs.turns.Jobs.{IsOwnJob, IsOwnTask, IsOwnView, own_view}
use Rattle.vme_trace_laws.proofs.turns.Views.{holding, amid, line_view, view_after, IsLike}
use Rattle.vme_trace_laws.proofs.turns.LineViews.{line_makes, line_datum_of}
use Rattle.vme_trace_laws.proofs.turns.Data.{IsDue}
use Rattle.vme_trace_laws.proofs.turns.Arbiter.{ask_keeps, ask_grants, look_grants}
use Rattle.vme_trace_laws.proofs.turns.Phases.{task_of, answered_grants, answered_amid, released_holds, released_amid, local_holds, local_amid}
use Rattle.vme_trace_laws.proofs.turns.Handshakes.{ended_by, not_not, first_opens, datum_ends, modify_last, replied_amid}

-- an event without a handshake leaves its processor's transfer; one with a handshake is by the holder of the bus, begins a
-- transfer unless the processor is amid one, and leaves it amid the transfer unless that ends
abbrev pub IsShownSo : Option Handshake → Bool → Option TaskView → Option TaskView → Type 0
IsShownSo None ended v w = (amid v ≡ false) × (amid w ≡ false)
IsShownSo (Some t) ended v w = (holding v ≡ true) × (t.opens ≡ not (amid v)) × (amid w ≡ not ended)

-- a call of a processor: another slot keeps the bus unless this one held it, this one holds it only if the arbiter has it as
-- holder, it held it before a release, and the event shows its transfer
pub record IsMove (slot : ℕ) (v w : Option TaskView) (before after : Arbitration) (activity : Activity) (reply : EventReply) : Type 0 where
  pub others : (other : ℕ) → before.holder ≡ Some other → (after.holder ≡ Some other) ⊎ (holding v ≡ true)
  pub own : (holding v ≡ true → before.holder ≡ Some slot) → holding w ≡ true → after.holder ≡ Some slot
  pub releasing : releases activity ≡ true → holding v ≡ true
  pub shown : IsShownSo (first_handshake activity reply) (ended_by activity reply) v w

-- the same, in terms of the processor before it and after it
pub move_like : (slot : ℕ) (v v' w w' : Option TaskView) (before after : Arbitration) (activity : Activity) (reply : EventReply) → IsLike v v' → IsLike w' w
    → IsMove slot v w before after activity reply → IsMove slot v' w' before after activity reply
move_like slot v v' w w' before after activity reply first second move = record {
  others = λ other held. elim (move.others other held) [ inl kept ↦ inl kept | inr mine ↦ inr (sym first.held ∙ mine) ];
  own = λ was now. move.own (λ mine. was (sym first.held ∙ mine)) (sym second.held ∙ now);
  releasing = λ is. sym first.held ∙ move.releasing is;
  shown = shown_like (first_handshake activity reply) (ended_by activity reply) move.shown;
}
  where
    shown_like : (found : Option Handshake) (ended : Bool) → IsShownSo found ended v w → IsShownSo found ended v' w'
    shown_like None ended shown = (sym first.between ∙ shown.0, second.between ∙ shown.1)
    shown_like (Some t) ended shown = (sym first.held ∙ shown.0, shown.1 ∙ ap not first.between, second.between ∙ shown.2)

-- a task that replied as expected
abbrev replied_task : BusJob → ℕ → List ℕ → Reply → TaskView
replied_task job i read reply = task_replied (task_of (Bus job) (phases.Transferring i) read) i reply

-- the datum of a transfer, as it is shown on a board
abbrev shown_datum : ℕ → BusJob → ℕ → Activity
shown_datum board job i = Transfers (transferred board (bus_datum job (phases.Transferring i)))

-- the datum of a transfer
datum_shown_so : (board : ℕ) (job : BusJob) (i : ℕ) (read : List ℕ) (reply : Reply) → is_some job.place ≡ true
    → nat_lt i (count_of job.transfer.request) ≡ true → has_form (expected_len (request_expected job.transfer.request)) reply ≡ true
    → IsShownSo (first_handshake (shown_datum board job i) (replies.Board reply)) (ended_by (shown_datum board job i) (replies.Board reply))
    (Some (task_of (Bus job) (phases.Transferring i) read)) (Some (replied_task job i read reply))
datum_shown_so board job i read reply placed less form =
    let d = transferred board (bus_datum job (phases.Transferring i)) in (
      refl,
      first_opens d reply ∙ sym (not_not (i == 0)),
      rw form (replied_amid job i reply placed less ∙ sym (ap not (datum_ends d reply (modify_last job.transfer.request i less)))),
    )

-- a datum of a transfer, with the reply of a board
datum_moves : (slot board : ℕ) (job : BusJob) (i : ℕ) (read : List ℕ) (reply : Reply) (bus : Arbitration) → is_some job.place ≡ true
    → nat_lt i (count_of job.transfer.request) ≡ true → has_form (expected_len (request_expected job.transfer.request)) reply ≡ true
    → IsMove slot (Some (task_of (Bus job) (phases.Transferring i) read)) (Some (replied_task job i read reply)) bus bus (shown_datum board job i)
    (replies.Board reply)
datum_moves slot board job i read reply bus placed less form = record {
  others = λ other held. inl held;
  own = λ was now. was refl;
  releasing = λ is. refl;
  shown = datum_shown_so board job i read reply placed less form;
}

module _ (machine : Machine) (who : ℕ) where
  -- a call of a task as a move
  abbrev Moves : ℕ → LineTask → TaskView → Call → Type 0
  Moves slot task t call =
      let made = machine_step machine who call in
      IsMove slot (Some t) (Some (advance t (Some made.1))) machine.bus.object made.0.bus.object (activity_of task call) made.1

  -- a request
  ask_moves : (task : LineTask) (job : BusJob) (read : List ℕ) → Moves job.slot task (task_of (Bus job) phases.Requesting read) (ask_call job)
  ask_moves task job read =
      let bus = machine.bus.object in record {
        others = λ other held. inl (ask_keeps bus job.slot job.level other held);
        own = λ was now. ask_grants bus job.slot job.level (answered_grants job (ask_step bus job.slot job.level).1 now);
        releasing = λ is. absurd (false≢true is);
        shown = (refl, answered_amid job (ask_step bus job.slot job.level).1);
      }

  -- a poll
  look_moves : (task : LineTask) (job : BusJob) (read : List ℕ) → Moves job.slot task (task_of (Bus job) phases.Polling read) (look_call job)
  look_moves task job read =
      let bus = machine.bus.object in record {
        others = λ other held. inl held;
        own = λ was now. look_grants bus job.slot (answered_grants job (look_step bus job.slot).1 now);
        releasing = λ is. absurd (false≢true is);
        shown = (refl, answered_amid job (look_step bus job.slot).1);
      }

  -- the cycle that no board answers, or the end of a transfer
  release_shown : (job : BusJob) (berr : Option ℕ) (read : List ℕ) (reply : ArbReply) (selected : Bool) (s : SignalLines)
      → (let activity = Releases (if selected then None else Some s) in
      IsShownSo (first_handshake activity (replies.Bus reply)) (ended_by activity (replies.Bus reply))
      (Some (task_of (Bus job) (phases.Releasing berr) read))
      (Some (advance (task_of (Bus job) (phases.Releasing berr) read) (Some (replies.Bus reply)))))
  release_shown job berr read reply true s = (refl, released_amid job berr read reply)
  release_shown job berr read reply false s = (refl, refl, released_amid job berr read reply)

  -- a release
  done_moves : (task : LineTask) (job : BusJob) (berr : Option ℕ) (read : List ℕ) → line_datum task ≡ Some (bus_datum job (phases.Releasing berr))
      → Moves job.slot task (task_of (Bus job) (phases.Releasing berr) read) (done_call job)
  done_moves task job berr read found =
      let bus = machine.bus.object in
      let reply = (done_step bus job.slot).1 in record {
        others = λ other held. inr refl;
        own = λ was now. absurd (false≢true (sym (released_holds job berr read reply) ∙ now));
        releasing = λ is. refl;
        shown = rw found (release_shown job berr read reply (is_some job.place) (signals_of job.transfer 0));
      }

  -- a datum on the board that is selected, if it is there
  board_moves : (job : BusJob) (i : ℕ) (read : List ℕ) (x at : ℕ) (found : Option (CountedState Board)) → is_some job.place ≡ true
      → nat_lt i (count_of job.transfer.request) ≡ true
      → (let made = board_after machine who x (Some (datum_command job.transfer.request i at)) found in
      IsMove job.slot (Some (task_of (Bus job) (phases.Transferring i) read))
      (Some (advance (task_of (Bus job) (phases.Transferring i) read) (Some made.1))) machine.bus.object made.0.bus.object (shown_datum x job i) made.1)
  board_moves job i read x at None placed less = datum_moves job.slot x job i read Berr machine.bus.object placed less refl
  board_moves job i read x at (Some board) placed less =
      datum_moves job.slot x job i read (step board.object (datum_command job.transfer.request i at)).0 machine.bus.object placed less
      (ap (λ len. has_form len (step board.object (datum_command job.transfer.request i at)).0) (sym (datum_len_wanted job.transfer.request i at))
      ∙ reply_form board.object (datum_command job.transfer.request i at))

  -- a datum
  transfer_moves : (task : LineTask) (job : BusJob) (i : ℕ) (read : List ℕ) (place : Option (ℕ × ℕ)) → job.place ≡ place
      → line_datum task ≡ Some (bus_datum job (phases.Transferring i)) → is_some job.place ≡ true → nat_lt i (count_of job.transfer.request) ≡ true
      → Moves job.slot task (task_of (Bus job) (phases.Transferring i) read) (datum_call job place i)
  transfer_moves task job i read None at found placed less = absurd (false≢true (sym (ap is_some at) ∙ placed))
  transfer_moves task job i read (Some p) at found placed less =
      rw found (board_moves job i read p.0 (p.1 + i * datum_len job.transfer.request) (slice_get machine.boards p.0) placed less)

  -- the call of a transfer
  bus_moves : (task : LineTask) (job : BusJob) (phase : Phase) (read : List ℕ) (call : Call) → line_datum task ≡ Some (bus_datum job phase)
      → IsDue (Some (task_of (Bus job) phase read)) → bus_next job phase read ≡ Invokes call → Moves job.slot task (task_of (Bus job) phase read) call
  bus_moves task job phases.New read call found due made = absurd cc
  bus_moves task job phases.Requesting read call found due made =
      subst (Moves job.slot task (task_of (Bus job) phases.Requesting read)) (own_call (ask_call job) call made) (ask_moves task job read)
  bus_moves task job phases.Polling read call found due made =
      subst (Moves job.slot task (task_of (Bus job) phases.Polling read)) (own_call (look_call job) call made) (look_moves task job read)
  bus_moves task job (phases.Transferring i) read call found due made =
      subst (Moves job.slot task (task_of (Bus job) (phases.Transferring i) read)) (own_call (datum_call job job.place i) call made)
      (transfer_moves task job i read job.place refl found due.0 due.1)
  bus_moves task job (phases.Releasing berr) read call found due made =
      subst (Moves job.slot task (task_of (Bus job) (phases.Releasing berr) read)) (own_call (done_call job) call made)
      (done_moves task job berr read found)
  bus_moves task job (phases.Finished berr) read call found due made = absurd cc
  bus_moves task job phases.Denied read call found due made = absurd cc

  -- a command to a local port is no part of a transfer
  local_shown_so : (x : ℕ) (cmd : Option BoardCmd) (reply : EventReply) (v w : Option TaskView) → amid v ≡ false → amid w ≡ false
      → IsShownSo (first_handshake (board_activity x None cmd) reply) (ended_by (board_activity x None cmd) reply) v w
  local_shown_so x None reply v w before after = (before, after)
  local_shown_so x (Some cmd) reply v w before after = (before, after)

  -- and no release
  local_releases : (x : ℕ) (cmd : Option BoardCmd) (held : Bool) → releases (board_activity x None cmd) ≡ true → held ≡ true
  local_releases x None held is = absurd (false≢true is)
  local_releases x (Some cmd) held is = absurd (false≢true is)

  -- a command to a local port
  port_moves : (slot : ℕ) (task : LineTask) (job : LocalJob) (phase : Phase) (read : List ℕ) → line_datum task ≡ None
      → Moves slot task (task_of (Local job) phase read) (local_call job)
  port_moves slot task job phase read found =
      let made = machine_step machine who (local_call job) in
      let w = Some (advance (task_of (Local job) phase read) (Some made.1)) in
      let same : made.0.bus ≡ machine.bus = board_bus machine who job.board (command_given job.cmd) (slice_get machine.boards job.board) in record {
        others = λ other held. inl (ap (λ (bus : CountedState Arbitration). bus.object.holder) same ∙ held);
        own = λ was now. absurd (false≢true (sym (local_holds job phase read (Some made.1)) ∙ now));
        releasing = rw found (local_releases job.board (line_command task) (holding (Some (task_of (Local job) phase read))));
        shown = rw found (local_shown_so job.board (line_command task) made.1 (Some (task_of (Local job) phase read)) w refl
            (local_amid job phase read (Some made.1)));
      }

  -- the call of a local command
  local_moves : (slot : ℕ) (task : LineTask) (job : LocalJob) (phase : Phase) (read : List ℕ) (call : Call) → line_datum task ≡ None
      → local_next job phase read ≡ Invokes call → Moves slot task (task_of (Local job) phase read) call
  local_moves slot task job (phases.Transferring i) read call found made =
      subst (Moves slot task (task_of (Local job) (phases.Transferring i) read)) (own_call (local_call job) call made)
      (port_moves slot task job (phases.Transferring i) read found)
  local_moves slot task job phases.New read call found made = absurd cc
  local_moves slot task job phase read call found made = absurd cc

  -- the call of a job
  job_moves : (board slot level : ℕ) (task : LineTask) (job : Job) (phase : Phase) (read : List ℕ) (call : Call)
      → line_datum task ≡ task_datum (task_of job phase read) → IsOwnJob board slot level job → IsDue (Some (task_of job phase read))
      → job_next job phase read ≡ Invokes call → Moves slot task (task_of job phase read) call
  job_moves board slot level task (Bus job) phase read call found own due made =
      subst (λ (s : ℕ). Moves s task (task_of (Bus job) phase read) call) own.0 (bus_moves task job phase read call found due made)
  job_moves board slot level task (Local job) phase read call found own due made = local_moves slot task job phase read call found made

  -- the call of a line
  pub line_moves : (board slot level : ℕ) (task : LineTask) (call : Call) → IsOwnTask board slot level task → IsDue (line_view task)
      → line_to_do task ≡ Invokes call
      → (let made = machine_step machine who call in
      IsMove slot (line_view task) (view_after (Some made.1) (line_view task)) machine.bus.object made.0.bus.object (activity_of task call) made.1)
  line_moves board slot level task call own due made =
      let makes = line_makes task call made in
      let t = makes.0 in
      let reply = (machine_step machine who call).1 in
      let after = (machine_step machine who call).0 in
      subst (λ (v : Option TaskView). IsMove slot v (view_after (Some reply) v) machine.bus.object after.bus.object (activity_of task call) reply)
      (sym makes.1)
      (job_moves board slot level task t.job t.phase t.read call (line_datum_of task ∙ ap (option_and_then task_datum) makes.1)
      (subst (IsOwnView board slot level) makes.1 (own_view board slot level task own)) (subst IsDue makes.1 due) makes.2)
