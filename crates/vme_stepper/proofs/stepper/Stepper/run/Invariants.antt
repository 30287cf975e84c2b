use Rattle.std.proofs.Common.{◌≡◌, take}
use Rattle.vme_stepper.specs.Turns.{state_after}
use Rattle.vme_stepper.specs.Steppers.{stepper_of, IsStepperOf}
use Rattle.vme_stepper.proofs.stepper.Stepper.run.Given as goal

-- the stepper is that of the state after the turns so far
abbrev pub invariant-loop-slot : goal.invariant-loop-slot
invariant-loop-slot l = record {
  run : l.self ≡ stepper_of l.config (state_after l.config (take l.slot-index l.slots));
  sound : IsStepperOf l.config l.self;
}
