use Rattle.std.proofs.Common.{sym, ap, subst, ◌∙◌, arith, take, get_or, ℕ, List, Some, None}
use Rattle.std.proofs.lemmas.List.{take_more, length-take}
use Rattle.vme_stepper.specs.Turns.{state_after}
use Rattle.vme_stepper.specs.Steppers.{stepper_of, IsStepperOf}
use Rattle.vme_stepper.proofs.SystemStates.{system_none}
use Rattle.vme_stepper.proofs.lemmas.Runs.{turn_more, few_steps}
use Rattle.vme_stepper.proofs.stepper.Stepper.run.Goals as goal
use Rattle.vme_stepper.proofs.stepper.Stepper.run.Goals.{in-Some, in_default}

pub loop-slot-init : goal.loop-slot-init
loop-slot-init c = record {
  run = c.requires.opening ∙ ap (stepper_of c.args.config.now) (sym (system_none c.args.config.now));
  sound = c.requires.stepper;
}

pub turn-requires-clause-capacity : goal.turn-requires-clause-capacity
turn-requires-clause-capacity c =
    few_steps c.args.config.now c.loop-slot.self (take c.loop-slot.slot-index c.args.slots.now) c.loop-slot.invariant.run
    (omega (arith, length-take c.loop-slot.slot-index c.args.slots.now, c.loop-slot-test.true))

pub loop-slot-preserved : goal.loop-slot-preserved
loop-slot-preserved c =
    let before : List ℕ = take c.loop-slot.slot-index c.args.slots.now in
    let slot : ℕ = get_or c.args.slots.now c.loop-slot.slot-index 0 in
    let reported = ap (λ slots. stepper_of c.args.config.now (state_after c.args.config.now slots)) (sym (take_more c.args.slots.now c.loop-slot.slot-index 0 c.loop-slot-test.true)) in
    elim c.match-board_in_slot.branch [
      | in-Some w ↦ record {
        run = w.self-is ∙ w.turn.ensures.turn
            ∙ turn_more c.args.config.now c.loop-slot.self before slot (Some w.in-Some.board) c.loop-slot.invariant.run w.in-Some.ensures.place ∙ reported;
        sound = subst (IsStepperOf c.args.config.now) (sym w.self-is) w.turn.ensures.sound;
      }
      | in_default w ↦ record {
        run = w.self-is
            ∙ turn_more c.args.config.now c.loop-slot.self before slot None c.loop-slot.invariant.run (sym w.in_default.is ∙ c.board_in_slot.ensures.place) ∙ reported;
        sound = subst (IsStepperOf c.args.config.now) (sym w.self-is) c.loop-slot.invariant.sound;
      }
    ]
