use Rattle.std.proofs.Common.{◌≡◌, ◌+◌, drop}
use Rattle.vme_protocol.specs.Verdicts.{verdict_after}
use Rattle.vme_protocol.proofs.verdict.judge_after.Given as goal

abbrev pub invariant-loop-sample : goal.invariant-loop-sample
invariant-loop-sample l =
    (l.at ≡ l.sample-index + 1)
    × (verdict_after l.fn.watch l.samples 1 ≡ verdict_after l.watch (drop l.sample-index l.samples) (l.sample-index + 1))
