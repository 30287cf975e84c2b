use Rattle.std.proofs.Common.{subst, sym}
use Rattle.vme_stepper.specs.Steppers.{IsStepperOf}
use Rattle.vme_stepper.proofs.Opening.{opens, opens_soundly}
use Rattle.vme_stepper.proofs.stepper.Stepper.new.Goals as goal

pub returns-clause-sound : goal.returns-clause-sound
returns-clause-sound c =
    subst (IsStepperOf c.args.config.now)
    (sym (opens c.args.config.now _ _ _ _ _ c.in_ok-core.ensures c.in_ok-memories.ensures c.arbiter.ensures c.boards-boards.ensures.value c.in-Ok.ensures))
    (opens_soundly c.args.config.now c.boards-boards.ensures.lawful)
