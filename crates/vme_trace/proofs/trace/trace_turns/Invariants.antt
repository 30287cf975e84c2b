use Rattle.std.proofs.Common.{◌≡◌, ◌≤◌, ℕ, List, ◌++◌, length, false}
use Rattle.vme_io.proofs.lemmas.Gathering.{SoFar}
use Rattle.vme_stepper.specs.Turns.{state_after}
use Rattle.vme_stepper.specs.Schedules.{file_turns}
use Rattle.vme_stepper.specs.Steppers.{stepper_of, IsStepperOf}
use Rattle.vme_trace.specs.Observations.{observed_from}
use Rattle.vme_trace.specs.Dumps.{rest_text, vcd_text}
use Rattle.vme_trace.specs.Turns.{turns_left}
use Rattle.vme_trace.proofs.trace.trace_turns.Given as goal

-- the turns so far were made, and the text of their events, with that of the turns that are left, is the whole text
abbrev pub invariant-loop-slot : goal.invariant-loop-slot
invariant-loop-slot g l = record {
  before : List ℕ;
  split : before ++ turns_left l.config l.turns ≡ file_turns l.config;
  within : l.turns.board ≤ length l.config.boards;
  state : l.stepper ≡ stepper_of l.config (state_after l.config before);
  sound : IsStepperOf l.config l.stepper;
  few : l.progress.number ≤ length before;
  shown : l.progress.shown ≤ l.progress.number;
  gathered : SoFar (g.W.Sink.contents l.fn.writer) (g.W.Sink.contents l.writer) l.text.items
      (rest_text l.config l.progress l.values.items (observed_from l.config l.stepper (turns_left l.config l.turns)))
      (l.fn.text.items ++ vcd_text l.fn.selection l.config (file_turns l.config));
  mark : g.W.Sink.is_marked l.writer ≡ false;
}

abbrev pub decreases-loop-slot : goal.decreases-loop-slot
decreases-loop-slot g l = length (turns_left l.config l.turns)
