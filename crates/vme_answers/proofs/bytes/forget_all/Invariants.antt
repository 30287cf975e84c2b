use Rattle.std.proofs.Common.{◌≡◌, length}
use Rattle.vme_answers.specs.Bytes.{all_forgotten}
use Rattle.vme_answers.proofs.bytes.forget_all.Given as goal

abbrev pub invariant-loop-step : goal.invariant-loop-step
invariant-loop-step l = record {
  len : length l.known ≡ length l.fn.known;
  known : l.known ≡ all_forgotten l.fn.known l.fn.at l.step;
}
