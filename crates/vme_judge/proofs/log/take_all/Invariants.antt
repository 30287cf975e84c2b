use Rattle.std.proofs.Common.{◌≡◌, drop}
use Rattle.vme_judge.specs.Standing.{course_then, samples_taken, standing, IsStanding}
use Rattle.vme_judge.proofs.log.take_all.Given as goal

-- a course, with the samples that are left, is that after all
abbrev pub invariant-loop-sample : goal.invariant-loop-sample
invariant-loop-sample l = record {
  left : course_then (samples_taken l.spot (drop l.sample-index l.samples)) (standing l.judge)
      ≡ course_then (samples_taken l.spot l.samples) (standing l.initial.judge);
  stands : IsStanding (standing l.initial.judge) → IsStanding (standing l.judge);
}
