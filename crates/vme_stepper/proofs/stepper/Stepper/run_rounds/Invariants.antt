use Rattle.std.proofs.Common.{◌≡◌, ◌++◌, map, take}
use Rattle.vme_stepper.specs.Turns.{state_after}
use Rattle.vme_stepper.specs.Schedules.{schedule_turns, round_turns}
use Rattle.vme_stepper.specs.Steppers.{stepper_of, IsStepperOf}
use Rattle.vme_stepper.proofs.stepper.Stepper.run_rounds.Given as goal

-- the stepper is that of the state after the schedule and the rounds so far
abbrev pub invariant-loop-round : goal.invariant-loop-round
invariant-loop-round l = record {
  run : l.self ≡ stepper_of l.config (state_after l.config
      (schedule_turns l.config.schedule ++ round_turns l._round (map (λ board. board.slot) l.config.boards)));
  sound : IsStepperOf l.config l.self;
}

-- the stepper is that of the state after the schedule, the rounds so far and the turns of the first slots in the next
-- one
abbrev pub invariant-loop-board : goal.invariant-loop-board
invariant-loop-board l = record {
  run : l.self ≡ stepper_of l.config (state_after l.config
      (schedule_turns l.config.schedule
      ++ (round_turns l._round (map (λ board. board.slot) l.config.boards) ++ take l.board (map (λ board. board.slot) l.config.boards))));
  sound : IsStepperOf l.config l.self;
}
