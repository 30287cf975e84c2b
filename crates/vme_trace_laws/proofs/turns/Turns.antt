-- A turn of a processor is the step that its event shows.
use Rattle.std.proofs.Common.{◌≡◌, ℕ, zero, suc, ◌+◌, ◌<◌, List, [], ◌∷◌, length, Option, Some, None, refl, ap, sym, subst, ◌∙◌, arith}
use Rattle.std.specs.Prelude.{slice_get, slice_index_or, option_map}
use Rattle.std.specs.Option.{option_and_then}
use Rattle.arrayvec.specs.ArrayVec.{ArrayVec}
use Rattle.vme_core.specs.declared.event.EventReply.{EventReply}
use Rattle.vme_core.specs.Runs.{Machine}
use Rattle.vme_core.specs.Calls.{Call, machine_step}
use Rattle.vme_core.specs.NextSteps.{NextStep, NotStarted, Invokes, Returns}
use Rattle.vme_core.proofs.lemmas.NextSteps.{map_makes}
use Rattle.vme_master.specs.declared.job.BusJob.{BusJob}
use Rattle.vme_master.specs.declared.job.LocalJob.{LocalJob}
use Rattle.vme_master.specs.declared.job.Job.{Job}
use Rattle.vme_master.specs.declared.job.Job.TheVariants.{Bus, Local}
use Rattle.vme_master.specs.declared.phase.Phase.{Phase}
use Rattle.vme_master.specs.declared.phase.Phase.TheVariants as phases
use Rattle.vme_master.specs.CurrentData.{DatumAt, bus_datum}
use Rattle.vme_master.specs.Jobs.{ask_call, look_call, done_call, datum_call, local_call}
use Rattle.vme_master.specs.Machine.{bus_next, local_next, job_next, to_do}
use Rattle.vme_shared.specs.declared.current.CurrentTransfer.TheVariants as currents
use Rattle.vme_shared.specs.declared.reply.LineReply.{LineReply}
use Rattle.vme_shared.specs.declared.reply.LineReply.TheVariants.{Unfinished}
use Rattle.vme_shared.specs.declared.current.CurrentTransfer.{CurrentTransfer}
use Rattle.vme_shared.specs.declared.stage.Stage.{Stage}
use Rattle.vme_shared.specs.declared.outcome.SharedOutcome.TheVariants as outcomes
use Rattle.vme_shared.specs.Tables.{SharedJob, task_shown}
use Rattle.vme_shared.specs.Machine.{current_to_do}
use Rattle.vme_grammar.specs.declared.line.Line.{Line}
use Rattle.vme_script.specs.Boards.{entries_of}
use Rattle.vme_script.specs.Configurations.{Configuration}
use Rattle.vme_master.specs.Tables.{Inputs}
use Rattle.vme_line_task.specs.declared.task.LineTask.{LineTask}
use Rattle.vme_line_task.specs.declared.task.LineTask.TheVariants.{Refused, Running}
use Rattle.vme_line_task.specs.declared.attempt.AttemptTask.{AttemptTask}
use Rattle.vme_line_task.specs.declared.attempt.AttemptTask.TheVariants as tasks
use Rattle.vme_line_task.specs.Scripts.{slot_at, level_at}
use Rattle.vme_line_task.specs.CurrentData.{line_datum, line_command}
use Rattle.vme_line_task.specs.Machine.{attempt_to_do, line_to_do, line_given, line_after}
use Rattle.vme_line_task.specs.Tables.{sharing_next, given_of}
use Rattle.vme_line_task.specs.Traces.{ScriptState}
use Rattle.vme_line_task.proofs.lemmas.Below.{transferring_makes, waits_makes, shares_makes, next_below}
use Rattle.vme_line_task.proofs.lemmas.Lines.{by_the_given}
use Rattle.vme_stepper.specs.Turns.{SystemState, lines_left}
use Rattle.vme_stepper.specs.Steppers.{ProcessorView, StepperView, processor_answered, processor_turn_by, line_begun, task_now, lines_turn, stepper_turned, stepper_turn, task_at, processor_of, processors_from, stepper_of}
use Rattle.vme_stepper.specs.Lines.{begun_by, lines_begun, processor_begun, stepper_begun_at, line_in, line_of}
use Rattle.vme_trace.specs.declared.observation.Observation.{Observation}
use Rattle.vme_trace.specs.Activities.{activity_of}
use Rattle.vme_trace.specs.Observations.{call_observed, observed_by, line_observed, observed}
use Rattle.vme_trace_laws.specs.Commands.{IsTransferShown}
use Rattle.vme_trace_laws.specs.Steps.{IsShownAs, IsStepShown}
use Rattle.vme_trace_laws.proofs.turns.Data.{IsDue, given_due}
use Rattle.vme_trace_laws.proofs.turns.Elements.{get_set}
use Rattle.vme_trace_laws.proofs.turns.Jobs.{IsOwnTransfer, IsOwnJob, IsOwnCurrent, IsOwnAttempt, IsOwnTask, given_own}
use Rattle.vme_trace_laws.proofs.turns.Requested.{IsRequestedTask, given_requested}
use Rattle.vme_trace_laws.proofs.turns.ShownData.{ShowsAt, line_shows, own_call}
use Rattle.vme_trace_laws.proofs.turns.Views.{line_view, view_after}

module _ (board slot level : ℕ) where
  -- what a line is shown to do is its call
  abbrev pub IsShown : LineTask → Call → Type 0
  IsShown task call = IsShownAs board slot level (activity_of task call) call

  -- a datum of a transfer, or the release of the bus if no board is selected
  datum_shown : (task : LineTask) (job : BusJob) (i : ℕ) (place : Option (ℕ × ℕ)) (datum : DatumAt) → job.slot ≡ slot
      → line_datum task ≡ Some datum → IsShown task (datum_call job place i)
  datum_shown task job i None datum slots found = rw slots refl
  datum_shown task job i (Some place) datum slots found = rw found (_, refl)

  -- a transfer's call
  bus_shown : (task : LineTask) (job : BusJob) (phase : Phase) (read : List ℕ) (call : Call) → job.slot ≡ slot → job.level ≡ level
      → line_datum task ≡ Some (bus_datum job phase) → bus_next job phase read ≡ Invokes call → IsShown task call
  bus_shown task job phases.New read call slots levels found made = absurd cc
  bus_shown task job phases.Requesting read call slots levels found made =
      subst (IsShown task) (own_call (ask_call job) call made) (rw (slots, levels) refl)
  bus_shown task job phases.Polling read call slots levels found made =
      subst (IsShown task) (own_call (look_call job) call made) (rw slots refl)
  bus_shown task job (phases.Transferring i) read call slots levels found made =
      subst (IsShown task) (own_call (datum_call job job.place i) call made) (datum_shown task job i job.place (bus_datum job (phases.Transferring i)) slots found)
  bus_shown task job (phases.Releasing berr) read call slots levels found made =
      subst (IsShown task) (own_call (done_call job) call made) (rw slots refl)
  bus_shown task job (phases.Finished berr) read call slots levels found made = absurd cc
  bus_shown task job phases.Denied read call slots levels found made = absurd cc

  -- a local command's call
  local_shown : (task : LineTask) (job : LocalJob) (phase : Phase) (read : List ℕ) (call : Call) → job.board ≡ board
      → line_datum task ≡ None → line_command task ≡ Some job.cmd → local_next job phase read ≡ Invokes call → IsShown task call
  local_shown task job (phases.Transferring i) read call own none found made =
      subst (IsShown task) (own_call (local_call job) call made) (rw (none, found, own) refl)
  local_shown task job phases.New read call own none found made = absurd cc
  local_shown task job phase read call own none found made = absurd cc

  -- the call of an attempt at a transfer or a local command
  transfer_shown : (left : ℕ) (job : Job) (phase : Phase) (read : List ℕ) (call : Call) → IsOwnJob board slot level job
      → job_next job phase read ≡ Invokes call
      → IsShown (Running (record { attempt = tasks.Transfer (record { job = job; phase = phase; read = read }); left = left })) call
  transfer_shown left (Bus job) phase read call own made =
      let task : LineTask = Running (record { attempt = tasks.Transfer (record { job = Bus job; phase = phase; read = read }); left = left }) in
      bus_shown task job phase read call own.0 own.1 refl made
  transfer_shown left (Local job) phase read call own made =
      let task : LineTask = Running (record { attempt = tasks.Transfer (record { job = Local job; phase = phase; read = read }); left = left }) in
      local_shown task job phase read call own refl refl made

  -- the call of a read that waits for bytes
  await_shown : (left : ℕ) (job : Job) (phase : Phase) (read : List ℕ) (want : ArrayVec ℕ) (call : Call) → IsOwnTransfer board slot level job
      → job_next job phase read ≡ Invokes call
      → IsShown (Running (record { attempt = tasks.Await (record { task = record { job = job; phase = phase; read = read }; want = want }); left = left })) call
  await_shown left (Bus job) phase read want call own made =
      let task : LineTask = Running (record { attempt = tasks.Await (record { task = record { job = Bus job; phase = phase; read = read }; want = want }); left = left }) in
      bus_shown task job phase read call own.0 own.1 refl made
  await_shown left (Local job) phase read want call own made = absurd own

  -- the call of a lock or a mailbox
  current_shown : (left : ℕ) (shared : SharedJob) (stage : Stage) (job : Job) (phase : Phase) (read : List ℕ) (call : Call) → IsOwnTransfer board slot level job
      → job_next job phase read ≡ Invokes call
      → IsShown (Running (record {
        attempt = tasks.Shared (record { job = shared; current = currents.Running stage (record { job = job; phase = phase; read = read }) });
        left = left;
      })) call
  current_shown left shared stage (Bus job) phase read call own made =
      let current = currents.Running stage (record { job = Bus job; phase = phase; read = read }) in
      let task : LineTask = Running (record { attempt = tasks.Shared (record { job = shared; current = current }); left = left }) in
      bus_shown task job phase read call own.0 own.1 refl made
  current_shown left shared stage (Local job) phase read call own made = absurd own

  -- the call of a lock or a mailbox, if it has not ended
  shared_shown : (left : ℕ) (shared : SharedJob) (current : CurrentTransfer) (call : Call) → IsOwnCurrent board slot level current
      → sharing_next (current_to_do current) ≡ Invokes call
      → IsShown (Running (record { attempt = tasks.Shared (record { job = shared; current = current }); left = left })) call
  shared_shown left shared (currents.Running stage t) call own made =
      current_shown left shared stage t.job t.phase t.read call own
      (map_makes (λ outcome. outcomes.Denied) (to_do t) call (shares_makes (task_shown (to_do t)) call made))
  shared_shown left shared (currents.Finished end) call own made = absurd cc

  -- the call of an attempt
  attempt_shown : (left : ℕ) (a : AttemptTask) (call : Call) → IsOwnAttempt board slot level a → attempt_to_do a ≡ Invokes call
      → IsShown (Running (record { attempt = a; left = left })) call
  attempt_shown left (tasks.Transfer t) call own made = transfer_shown left t.job t.phase t.read call own (transferring_makes (to_do t) call made)
  attempt_shown left (tasks.Await w) call own made =
      await_shown left w.task.job w.task.phase w.task.read w.want call own (waits_makes w.want.items (to_do w.task) call made)
  attempt_shown left (tasks.Shared v) call own made = shared_shown left v.job v.current call own.2 made

  -- the call of a line
  pub task_shown_as : (task : LineTask) (call : Call) → IsOwnTask board slot level task → line_to_do task ≡ Invokes call → IsShown task call
  task_shown_as (Refused fault) call own made = absurd cc
  task_shown_as (Running a) call own made = attempt_shown a.left a.attempt call own made

-- the processor of a script state is among those of all
pub processors_get : (config : Configuration) (from b place : ℕ) (script_states : List ScriptState) → place ≡ from + b
    → slice_get (processors_from config from script_states) b ≡ option_map (processor_of config place) (slice_get script_states b)
processors_get config from b place [] at = refl
processors_get config from zero place (c ∷ script_states) at =
    let same : from ≡ place = omega arith in ap (λ p. Some (processor_of config p c)) same
processors_get config from (suc b) place (c ∷ script_states) at = processors_get config (from + 1) b place script_states (omega arith)

-- what a turn did, if it did something, is one step of the machine
abbrev pub IsTurnShown : Configuration → Machine → Option Observation → Machine → Type 0
IsTurnShown config machine None after = after ≡ machine
IsTurnShown config machine (Some o) after = IsStepShown config machine o after

module _ (config : Configuration) (board : ℕ) (machine : Machine) where
  -- the machine after a next step
  abbrev pub machine_by : NextStep LineReply → Machine
  machine_by (Invokes call) = (machine_step machine board call).0
  machine_by next = machine

  -- the machine after the call of a task, if there is one
  abbrev pub machine_with : Option LineTask → Machine
  machine_with None = machine
  machine_with (Some task) = machine_by (line_to_do task)

  -- a task, if there is one, is that of a line after all that it was given
  abbrev pub IsGiven : Option LineTask → Type 0
  IsGiven None = Unit {0}
  IsGiven (Some task) = (line : Line) × (given : Inputs) × (task ≡ line_given config board line given)

  -- a turn makes the call of the line that has begun
  pub record Begins (after : Machine) (begun : ProcessorView) : Type 0 where
    pub made : after ≡ machine_with begun.at
    pub own : IsGiven begun.at

  -- a turn of a processor with these lines left makes the call of the line that has begun
  abbrev pub LinesBegin : List Line → ProcessorView → Type 0
  LinesBegin lines processor = Begins (lines_turn config board lines machine processor).0 (lines_begun config board lines processor)

  -- a turn by the next step of a task makes its call, or that of a line after it
  by_next : (processor : ProcessorView) (task : LineTask) (line : Line) (given : Inputs) (next : NextStep LineReply) (lines : List Line)
      → task ≡ line_given config board line given → line_to_do task ≡ next
      → ((answer : LineReply) → LinesBegin lines (processor_answered processor answer))
      → Begins (processor_turn_by machine board processor task next (λ now. lines_turn config board lines machine now)).0
      (begun_by processor task next (λ now. lines_begun config board lines now))
  by_next processor task line given NotStarted lines is same after = record { made = rw same refl; own = (line, given, is) }
  by_next processor task line given (Invokes call) lines is same after = record { made = rw same refl; own = (line, given, is) }
  by_next processor task line given (Returns answer) lines is same after = after answer

  -- a turn of a processor with this task of its next line, if it has started, makes the call of the line that has begun
  abbrev TaskBegins : Line → List Line → ProcessorView → Option LineTask → Type 0
  TaskBegins line lines processor at =
      let task = task_now config board line at in
      Begins (processor_turn_by machine board processor task (line_to_do task) (λ now. lines_turn config board lines machine now)).0
      (begun_by processor task (line_to_do task) (λ now. lines_begun config board lines now))

  -- a turn of a processor whose next line has not started
  idle_begins : (lines : List Line) (processor : ProcessorView) → processor.at ≡ None → LinesBegin lines processor
  idle_begins [] processor none = record { made = rw none refl; own = rw none tt }
  idle_begins (line ∷ lines) processor none =
      let task = line_begun config board line in
      subst (TaskBegins line lines processor) (sym none)
      (by_next processor task line (None ∷ []) (line_to_do task) lines refl refl (λ answer. idle_begins lines (processor_answered processor answer) refl))

  -- a turn of a processor whose next line has had these replies
  pub lines_begin : (replies : List EventReply) (lines : List Line) (processor : ProcessorView) → processor.at ≡ task_at config board replies lines
      → LinesBegin lines processor
  lines_begin [] lines processor at = idle_begins lines processor at
  lines_begin (reply ∷ replies) [] processor at = idle_begins [] processor at
  lines_begin (reply ∷ replies) (line ∷ lines) processor at =
      let task = line_after config board line (reply ∷ replies) in
      subst (TaskBegins line lines processor) (sym at)
      (by_next processor task line (given_of (reply ∷ replies)) (line_to_do task) lines refl refl
      (λ answer. idle_begins lines (processor_answered processor answer) refl))

  -- what the event of a line's call shows of its transfer
  pub call_shows : (task : LineTask) (line : Line) (given : Inputs) (call : Call) → task ≡ line_given config board line given
      → line_to_do task ≡ Invokes call
      → (let made = machine_step machine board call in
      ShowsAt config (activity_of task call) call made.1 (line_view task) (view_after (Some made.1) (line_view task)))
  call_shows task line given call is same =
      line_shows config machine board task call (subst (IsRequestedTask (entries_of config.boards)) (sym is) (given_requested config board line given))
      (subst (λ (one : LineTask). IsDue (line_view one)) (sym is) (given_due config board line given)) same

  -- a line's call is one step of the machine, if its event shows its transfer
  abbrev pub call_shown : (number : ℕ) (task : LineTask) (line : Line) (given : Inputs) (call : Call) → board < length config.boards
      → task ≡ line_given config board line given → line_to_do task ≡ Invokes call → IsTransferShown config (activity_of task call) call
      → IsStepShown config machine (call_observed config machine board (number, task) call) (machine_step machine board call).0
  call_shown number task line given call there is same shown = record {
    call = call;
    there = there;
    below = next_below config board line given call there (sym (by_the_given config board line given) ∙ ap line_to_do (sym is) ∙ same);
    slot = refl;
    level = refl;
    shown = task_shown_as board (slot_at config board) (level_at config board) task call
        (subst (IsOwnTask board (slot_at config board) (level_at config board)) (sym is) (given_own config board line given)) same;
    datum = shown;
    step = refl;
    grant = refl;
  }

  -- what a line does next is one step of the machine
  next_shown : (number : ℕ) (task : LineTask) (line : Line) (given : Inputs) (next : NextStep LineReply) → board < length config.boards
      → task ≡ line_given config board line given → line_to_do task ≡ next
      → IsTurnShown config machine (observed_by config machine board (number, task) next) (machine_by next)
  next_shown number task line given NotStarted there is same = refl
  next_shown number task line given (Returns answer) there is same = refl
  next_shown number task line given (Invokes call) there is same =
      call_shown number task line given call there is same (call_shows task line given call is same).0

  -- what the current line does next, if there is one, is one step of the machine
  line_shown : (number : ℕ) (at : Option LineTask) → board < length config.boards → IsGiven at
      → IsTurnShown config machine (line_observed config machine board (option_map (λ task. (number, task)) at)) (machine_with at)
  line_shown number None there own = refl
  line_shown number (Some task) there own = next_shown number task own.0 own.1 (line_to_do task) there own.2 refl

-- what a turn of a stepper did, by its processor
pub observed_is : (config : Configuration) (board : ℕ) (stepper : StepperView) (processor : ProcessorView) → slice_get stepper.processors board ≡ Some processor
    → observed config stepper board ≡ line_observed config stepper.machine board (line_in (processor_begun config board processor))
observed_is config board stepper processor found =
    ap (λ (p : Option ProcessorView). line_observed config stepper.machine board (line_of (stepper_begun_at config stepper board p) board)) found
    ∙ ap (λ (p : Option ProcessorView). line_observed config stepper.machine board (option_and_then line_in p))
    (get_set stepper.processors board (processor_begun config board processor) processor found)

-- a turn without a processor does nothing
pub observed_none : (config : Configuration) (board : ℕ) (stepper : StepperView) → slice_get stepper.processors board ≡ None → observed config stepper board ≡ None
observed_none config board stepper none =
    ap (λ (p : Option ProcessorView). line_observed config stepper.machine board (line_of (stepper_begun_at config stepper board p) board)) none
    ∙ ap (λ (p : Option ProcessorView). line_observed config stepper.machine board (option_and_then line_in p)) none

-- a turn of a processor is one step of the machine, if it did something
pub turn_shown : (config : Configuration) (system : SystemState) (board : ℕ) (found : Option ScriptState) → board < length config.boards
    → slice_get system.script_states board ≡ found
    → IsTurnShown config system.machine (observed config (stepper_of config system) board) (stepper_turn config (stepper_of config system) board).machine
turn_shown config system board None there found =
    let stepper : StepperView = stepper_of config system in
    let none : slice_get stepper.processors board ≡ None
    = processors_get config 0 board board system.script_states (omega arith) ∙ ap (option_map (processor_of config board)) found in
    let stays : (stepper_turn config stepper board).machine ≡ system.machine = ap (λ (p : Option ProcessorView). (stepper_turned config stepper board p).machine) none in
    subst (λ (o : Option Observation). IsTurnShown config system.machine o (stepper_turn config stepper board).machine)
    (sym (observed_none config board stepper none)) stays
turn_shown config system board (Some c) there found =
    let stepper : StepperView = stepper_of config system in
    let processor = processor_of config board c in
    let begun = processor_begun config board processor in
    let at : slice_get stepper.processors board ≡ Some processor
    = processors_get config 0 board board system.script_states (omega arith) ∙ ap (option_map (processor_of config board)) found in
    let begins = lines_begin config board system.machine c.replies (lines_left config board c) processor refl in
    let goes : (stepper_turn config stepper board).machine ≡ machine_with config board system.machine begun.at
    = ap (λ (p : Option ProcessorView). (stepper_turned config stepper board p).machine) at ∙ begins.made in
    let shown = line_shown config board system.machine (slice_index_or begun.lines begun.ended (0, Unfinished)).0 begun.at there begins.own in
    subst (λ (o : Option Observation). IsTurnShown config system.machine o (stepper_turn config stepper board).machine)
    (sym (observed_is config board stepper processor at))
    (subst (λ (m : Machine). IsTurnShown config system.machine (line_observed config system.machine board (line_in begun)) m) (sym goes) shown)
