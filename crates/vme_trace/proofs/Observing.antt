-- What a turn did, by the parts that the stepper returns.
use Rattle.std.proofs.Common.{◌≡◌, ℕ, Bool, Option, Some, None, refl, ap, sym, ◌∙◌}
use Rattle.std.specs.Prelude.{slice_get}
use Rattle.vme_core.specs.declared.event.EventReply.{EventReply}
use Rattle.vme_core.specs.Runs.{Machine}
use Rattle.vme_core.specs.Calls.{Call, machine_step}
use Rattle.vme_core.specs.NextSteps.{Invokes}
use Rattle.vme_script.specs.Configurations.{Configuration}
use Rattle.vme_line_task.specs.declared.task.LineTask.{LineTask}
use Rattle.vme_line_task.specs.Scripts.{slot_at, level_at}
use Rattle.vme_line_task.specs.Machine.{line_to_do}
use Rattle.vme_stepper.specs.Steppers.{ProcessorView, StepperView}
use Rattle.vme_stepper.specs.Lines.{stepper_begun_at, stepper_begun, line_of, call_answered}
use Rattle.vme_trace.specs.declared.observation.activity.Activity.{Activity}
use Rattle.vme_trace.specs.declared.observation.grant.Grant.{Grant}
use Rattle.vme_trace.specs.declared.observation.Observation.{Observation}
use Rattle.vme_trace.specs.Activities.{activity_of}
use Rattle.vme_trace.specs.Grants.{grant_of}
use Rattle.vme_trace.specs.Observations.{call_observed, observed_by, line_observed, observed}

-- the machine is the same after the current line has begun
begun_machine : (config : Configuration) (stepper : StepperView) (board : ℕ) (found : Option ProcessorView)
    → (stepper_begun_at config stepper board found).machine ≡ stepper.machine
begun_machine config stepper board None = refl
begun_machine config stepper board (Some processor) = refl

-- an observation from its parts
abbrev observation : ℕ → ℕ → ℕ → ℕ → Activity → EventReply → Bool → Option Grant → Observation
observation board slot level line activity reply ended grant = record {
  board = board;
  slot = slot;
  level = level;
  line = line;
  activity = activity;
  reply = reply;
  ended = ended;
  grant = grant;
}

module _ (config : Configuration) (stepper begun : StepperView) (board slot level : ℕ) (line : ℕ × LineTask) (call : Call)
    (activity : Activity) (reply : EventReply) (ended : Bool) (after : Machine) (grant : Option Grant) where
  -- the parts are those of the turn's observation
  pub observes : begun ≡ stepper_begun config stepper board → Some line ≡ line_of begun board → Invokes call ≡ line_to_do line.1
      → (reply, ended) ≡ call_answered begun.machine board line.1 call → after ≡ (machine_step begun.machine board call).0
      → slot_at config board ≡ slot → level_at config board ≡ level → activity ≡ activity_of line.1 call
      → grant ≡ grant_of config activity reply after.bus.object
      → Some (observation board slot level line.0 activity reply ended grant) ≡ observed config stepper board
  observes is found makes answered made own_slot own_level does granted =
      let same : begun.machine ≡ stepper.machine
      = ap (λ (s : StepperView). s.machine) is ∙ begun_machine config stepper board (slice_get stepper.processors board) in
      let at : line_observed config stepper.machine board (line_of (stepper_begun config stepper board) board)
      ≡ observed_by config stepper.machine board line (line_to_do line.1)
      = ap (line_observed config stepper.machine board) (sym (found ∙ ap (λ (s : StepperView). line_of s board) is)) in
      let whole : observed config stepper board ≡ Some (call_observed config stepper.machine board line call)
      = at ∙ ap (observed_by config stepper.machine board line) (sym makes) in
      let replied : reply ≡ (machine_step stepper.machine board call).1
      = ap (λ (p : EventReply × Bool). p.0) answered ∙ ap (λ (m : Machine). (machine_step m board call).1) same in
      let ends : ended ≡ (call_answered stepper.machine board line.1 call).1
      = ap (λ (p : EventReply × Bool). p.1) answered ∙ ap (λ (m : Machine). (call_answered m board line.1 call).1) same in
      let next : after ≡ (machine_step stepper.machine board call).0 = made ∙ ap (λ (m : Machine). (machine_step m board call).0) same in
      rw (granted, does, replied, ends, next, ← own_slot, ← own_level) (sym whole)
