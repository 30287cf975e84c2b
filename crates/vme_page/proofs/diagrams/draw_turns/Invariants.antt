use Rattle.std.proofs.Common.{◌≡◌, ◌≤◌, ℕ, List, ◌++◌, length, false}
use Rattle.vme_stepper.specs.Turns.{state_after}
use Rattle.vme_stepper.specs.Schedules.{file_turns}
use Rattle.vme_stepper.specs.Steppers.{stepper_of, IsStepperOf}
use Rattle.vme_trace.specs.declared.observation.Observation.{Observation}
use Rattle.vme_trace.specs.Observations.{observed_from, observations}
use Rattle.vme_trace.specs.Turns.{turns_left, IsTurnsOf}
use Rattle.vme_page.specs.Drawings.{ShowsRun}
use Rattle.vme_page.specs.Pages.{Grows}
use Rattle.vme_page.proofs.diagrams.draw_turns.Given as goal

-- the turns so far were made, and the diagrams show their events
abbrev pub invariant-loop-slot : goal.invariant-loop-slot
invariant-loop-slot g l = record {
  before : List ℕ;
  split : before ++ turns_left l.config l.turns ≡ file_turns l.config;
  within : IsTurnsOf l.config l.turns;
  state : l.stepper ≡ stepper_of l.config (state_after l.config before);
  sound : IsStepperOf l.config l.stepper;
  few : l.drawing.count ≤ length before;
  events : List Observation;
  whole : events ++ observed_from l.config l.stepper (turns_left l.config l.turns) ≡ observations l.config (file_turns l.config);
  shows : ShowsRun l.config events l.drawing;
  grown : Grows (g.W.Sink.contents l.fn.writer) (g.W.Sink.contents l.writer);
  mark : g.W.Sink.is_marked l.writer ≡ false;
}

abbrev pub decreases-loop-slot : goal.decreases-loop-slot
decreases-loop-slot g l = length (turns_left l.config l.turns)
