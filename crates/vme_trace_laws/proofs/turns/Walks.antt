-- A turn moves the transfer of its processor, and leaves the others alone.
use Rattle.std.proofs.Common.{◌≡◌, ℕ, ◌<◌, Bool, length, Option, Some, None, refl, ap, sym, subst, ◌∙◌, arith}
use Rattle.std.specs.Prelude.{slice_get, slice_set, slice_index_or, option_map}
use Rattle.std.specs.Option.{option_and_then}
use Rattle.vme_core.specs.Runs.{Machine}
use Rattle.vme_core.specs.Calls.{Call, machine_step}
use Rattle.vme_core.specs.NextSteps.{NextStep, NotStarted, Invokes, Returns}
use Rattle.vme_master.specs.Machine.{TaskView}
use Rattle.vme_shared.specs.declared.reply.LineReply.{LineReply}
use Rattle.vme_shared.specs.declared.reply.LineReply.TheVariants.{Unfinished}
use Rattle.vme_grammar.specs.declared.line.Line.{Line}
use Rattle.vme_master.specs.Tables.{Inputs}
use Rattle.vme_script.specs.Configurations.{Configuration}
use Rattle.vme_line_task.specs.declared.task.LineTask.{LineTask}
use Rattle.vme_line_task.specs.Scripts.{slot_at, level_at}
use Rattle.vme_line_task.specs.Machine.{line_advance, line_to_do, line_given}
use Rattle.vme_line_task.specs.Traces.{ScriptState}
use Rattle.vme_stepper.specs.Turns.{SystemState, lines_left}
use Rattle.vme_stepper.specs.Steppers.{ProcessorView, StepperView, processor_turn, stepper_turned, stepper_turn, processor_of, stepper_of}
use Rattle.vme_stepper.specs.Lines.{processor_begun, line_in}
use Rattle.vme_trace.specs.declared.observation.activity.Activity.{Activity}
use Rattle.vme_trace.specs.declared.observation.activity.Activity.TheVariants.{Requests, Polls, Releases, Transfers, Local, Other}
use Rattle.vme_trace.specs.declared.observation.Observation.{Observation}
use Rattle.vme_trace.specs.Slots.{has_ended}
use Rattle.vme_trace.specs.Activities.{activity_of}
use Rattle.vme_trace.specs.Observations.{observed_by, line_observed, observed}
use Rattle.vme_trace_laws.specs.Commands.{IsTransferShown}
use Rattle.vme_trace_laws.specs.Steps.{IsStepShown}
use Rattle.vme_trace_laws.proofs.turns.Elements.{get_set, get_other}
use Rattle.vme_trace_laws.proofs.turns.Jobs.{IsOwnTask, given_own}
use Rattle.vme_trace_laws.proofs.turns.Turns.{processors_get, call_shows, call_shown, IsGiven, machine_by, machine_with, lines_begin, observed_is, observed_none}
use Rattle.vme_trace_laws.proofs.turns.Views.{line_view, view_after, IsLike, like_same, like_on}
use Rattle.vme_trace_laws.proofs.turns.LineViews.{line_like}
use Rattle.vme_trace_laws.proofs.turns.Data.{IsDue, given_due}
use Rattle.vme_trace_laws.proofs.turns.Handshakes.{ended_by}
use Rattle.vme_trace_laws.proofs.turns.ShownData.{IsAtDatum}
use Rattle.vme_trace_laws.proofs.turns.Fits.{IsFit, fit_like, line_fits}
use Rattle.vme_trace_laws.proofs.turns.Moves.{IsMove, move_like, line_moves}
use Rattle.vme_trace_laws.proofs.turns.Goes.{view_in, view_by, view_with, lines_go}

-- what the processor of a board in a stepper is at
abbrev pub view_at : StepperView → ℕ → Option TaskView
view_at stepper board = option_and_then view_in (slice_get stepper.processors board)

-- the place of a processor in a transfer, in terms of the processor before it and after it
datum_like : (config : Configuration) (activity : Activity) (call : Call) (shown : IsTransferShown config activity call) (ended : Bool)
    → (v v' w w' : Option TaskView) → IsLike v v' → IsLike w' w → IsAtDatum config activity call shown ended v w
    → IsAtDatum config activity call shown ended v' w'
datum_like config (Transfers datum) call shown ended v v' w w' first second at =
    (sym first.held ∙ at.0, sym first.datum ∙ at.1, second.datum ∙ at.2)
datum_like config Requests call shown ended v v' w w' first second at = (sym first.datum ∙ at.0, second.datum ∙ at.1)
datum_like config Polls call shown ended v v' w w' first second at = (sym first.datum ∙ at.0, second.datum ∙ at.1)
datum_like config (Releases signals) call shown ended v v' w w' first second at = (sym first.datum ∙ at.0, second.datum ∙ at.1)
datum_like config (Local cmd) call shown ended v v' w w' first second at = (sym first.datum ∙ at.0, second.datum ∙ at.1)
datum_like config Other call shown ended v v' w w' first second at = (sym first.datum ∙ at.0, second.datum ∙ at.1)

module _ (config : Configuration) where
  module _ (board : ℕ) (machine : Machine) where
    -- what a turn did, if it did something, is a move of this processor, and a step that shows its transfer where that is; else
    -- nothing moves
    abbrev pub IsStep : Option Observation → Machine → Option TaskView → Option TaskView → Type 0
    IsStep None after v w = (after ≡ machine) × IsLike w v
    IsStep (Some o) after v w =
        (o.board ≡ board) × IsMove (slot_at config board) v w machine.bus.object after.bus.object o.activity o.reply
        × (step : IsStepShown config machine o after) × IsAtDatum config o.activity step.call step.datum (has_ended o) v w
        × IsFit (slot_at config board) (level_at config board) v w machine.bus.object after.bus.object o.reply

    -- the next step of a task
    step_by : (number : ℕ) (task : LineTask) (line : Line) (given : Inputs) (next : NextStep LineReply) (v w : Option TaskView)
        → board < length config.boards → task ≡ line_given config board line given → IsOwnTask board (slot_at config board) (level_at config board) task → IsDue (line_view task) → line_to_do task ≡ next
        → IsLike (line_view task) v → IsLike w (view_by config board machine task next)
        → IsStep (observed_by config machine board (number, task) next) (machine_by config board machine next) v w
    step_by number task line given NotStarted v w there given_is own due is before after = (refl, like_on w (line_view task) v after before)
    step_by number task line given (Returns answer) v w there given_is own due is before after = (refl, like_on w (line_view task) v after before)
    step_by number task line given (Invokes call) v w there given_is own due is before after =
        let made = machine_step machine board call in
        let next = view_after (Some made.1) (line_view task) in
        let shows = call_shows config board machine task line given call given_is is in
        let like : IsLike w next = like_on w (line_view (line_advance task (Some made.1))) next after (line_like task (Some made.1)) in (
          refl,
          move_like (slot_at config board) (line_view task) v next w machine.bus.object made.0.bus.object (activity_of task call) made.1 before like
              (line_moves machine board board (slot_at config board) (level_at config board) task call own due is),
          call_shown config board machine number task line given call there given_is is shows.0,
          datum_like config (activity_of task call) call shows.0 (ended_by (activity_of task call) made.1) (line_view task) v next w before like shows.1,
          fit_like (slot_at config board) (level_at config board) (line_view task) v next w machine.bus.object made.0.bus.object made.1 before like
              (line_fits machine board board (slot_at config board) (level_at config board) task call own due is),
        )

    -- the next step of the current line, if there is one
    line_step : (number : ℕ) (at : Option LineTask) (v w : Option TaskView) → board < length config.boards → IsGiven config board machine at → IsLike (option_and_then line_view at) v
        → IsLike w (view_with config board machine at)
        → IsStep (line_observed config machine board (option_map (λ task. (number, task)) at)) (machine_with config board machine at) v w
    line_step number None v w there own before after = (refl, like_on w None v after before)
    line_step number (Some task) v w there own before after =
        step_by number task own.0 own.1 (line_to_do task) v w there own.2
        (subst (IsOwnTask board (slot_at config board) (level_at config board)) (sym own.2) (given_own config board own.0 own.1))
        (subst (λ (t : LineTask). IsDue (line_view t)) (sym own.2) (given_due config board own.0 own.1)) refl before after

  -- a turn of a board's processor in a stepper
  pub record IsTurn (board : ℕ) (found : Option Observation) (before after : StepperView) : Type 0 where
    pub step : IsStep board before.machine found after.machine (view_at before board) (view_at after board)
    pub others : (j : ℕ) → (board ≡ j → ⊥) → view_at after j ≡ view_at before j

  -- a turn without a processor
  none_turn : (board : ℕ) (stepper : StepperView) → slice_get stepper.processors board ≡ None
      → IsTurn board (observed config stepper board) stepper (stepper_turn config stepper board)
  none_turn board stepper none =
      let same : stepper_turn config stepper board ≡ stepper = ap (stepper_turned config stepper board) none in
      subst (λ (o : Option Observation). IsTurn board o stepper (stepper_turn config stepper board)) (sym (observed_none config board stepper none))
      (subst (IsTurn board None stepper) (sym same) (record { step = (refl, like_same (view_at stepper board)); others = λ j apart. refl }))

  -- a turn of the board's processor of a system
  pub system_turn : (system : SystemState) (board : ℕ) (found : Option ScriptState) → board < length config.boards
      → slice_get system.script_states board ≡ found
      → (let stepper = stepper_of config system in IsTurn board (observed config stepper board) stepper (stepper_turn config stepper board))
  system_turn system board None there is =
      let stepper : StepperView = stepper_of config system in
      none_turn board stepper (processors_get config 0 board board system.script_states (omega arith) ∙ ap (option_map (processor_of config board)) is)
  system_turn system board (Some c) there is =
      let stepper : StepperView = stepper_of config system in
      let processor = processor_of config board c in
      let begun = processor_begun config board processor in
      let next = processor_turn config board system.machine processor in
      let at : slice_get stepper.processors board ≡ Some processor
      = processors_get config 0 board board system.script_states (omega arith) ∙ ap (option_map (processor_of config board)) is in
      let goes = lines_go config board system.machine c.replies (lines_left config board c) processor refl in
      let begins = lines_begin config board system.machine c.replies (lines_left config board c) processor refl in
      let before : view_at stepper board ≡ view_in processor = ap (option_and_then view_in) at in
      let after : option_and_then view_in (slice_get (slice_set stepper.processors board next.1) board) ≡ view_in next.1
      = ap (option_and_then view_in) (get_set stepper.processors board next.1 processor at) in
      let step : IsStep board system.machine (line_observed config system.machine board (line_in begun)) next.0 (view_at stepper board)
      (option_and_then view_in (slice_get (slice_set stepper.processors board next.1) board))
      = subst (λ (m : Machine). IsStep board system.machine (line_observed config system.machine board (line_in begun)) m (view_at stepper board)
      (option_and_then view_in (slice_get (slice_set stepper.processors board next.1) board))) (sym begins.made)
      (line_step board system.machine (slice_index_or begun.lines begun.ended (0, Unfinished)).0 begun.at (view_at stepper board)
      (option_and_then view_in (slice_get (slice_set stepper.processors board next.1) board)) there begins.own
      (subst (IsLike (view_in begun)) (sym before) goes.kept)
      (subst (λ (v : Option TaskView). IsLike v (view_with config board system.machine begun.at)) (sym after) goes.went)) in
      subst (λ (o : Option Observation). IsTurn board o stepper (stepper_turn config stepper board)) (sym (observed_is config board stepper processor at))
      (subst (λ (p : Option ProcessorView). IsTurn board (line_observed config system.machine board (line_in begun)) stepper (stepper_turned config stepper board p))
      (sym at) (record {
        step = step;
        others = λ j apart. ap (option_and_then view_in) (get_other stepper.processors board j next.1 apart);
      }))
