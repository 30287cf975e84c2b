use Rattle.std.proofs.Common.{◌≡◌, ◌++◌, take, replicate, get_or}
use Rattle.vme_stepper.specs.Turns.{state_after}
use Rattle.vme_stepper.specs.Schedules.{schedule_turns}
use Rattle.vme_stepper.specs.Steppers.{stepper_of, IsStepperOf}
use Rattle.vme_stepper.proofs.stepper.Stepper.run_schedule.Given as goal

-- the stepper is that of the state after the turns of the pairs so far
abbrev pub invariant-loop-turns : goal.invariant-loop-turns
invariant-loop-turns l = record {
  run : l.self ≡ stepper_of l.config (state_after l.config (schedule_turns (take l.turns-index l.config.schedule)));
  sound : IsStepperOf l.config l.self;
  pairs : l.turns-items ≡ l.config.schedule;
}

-- the stepper is that of the state after the turns of the pairs so far and some of the next pair
abbrev pub invariant-loop-turn : goal.invariant-loop-turn
invariant-loop-turn l = record {
  run : l.self ≡ stepper_of l.config (state_after l.config
      (schedule_turns (take l.turns-index l.config.schedule) ++ replicate l._turn (get_or l.turns-items l.turns-index (0, 0)).0));
  sound : IsStepperOf l.config l.self;
}
