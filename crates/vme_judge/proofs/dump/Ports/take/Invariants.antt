use Rattle.std.proofs.Common.{◌≡◌, ◌++◌, take, drop, length}
use Rattle.vme_judge.specs.Dumps.{ports_after, ports_taken}
use Rattle.vme_judge.specs.Standing.{course_then, standing, IsStanding}
use Rattle.vme_judge.proofs.dump.Ports.take.Given as goal

-- the ports so far, with those that are left, are all
abbrev pub invariant-loop-place : goal.invariant-loop-place
invariant-loop-place l = record {
  whole : length l.self.last ≡ 21;
  judged : IsStanding (standing l.fn.judge) → course_then (ports_taken l.spot l.bus l.changed 0 l.fn.self.last) (standing l.fn.judge)
      ≡ course_then (ports_taken l.spot l.bus l.changed l.place (drop l.place l.self.last)) (standing l.judge);
  shown : ports_after l.bus l.changed 0 l.fn.self.last
      ≡ take l.place l.self.last ++ ports_after l.bus l.changed l.place (drop l.place l.self.last);
  stood : IsStanding (standing l.fn.judge) → IsStanding (standing l.judge);
}
