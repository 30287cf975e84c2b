use Rattle.std.proofs.Common.{◌≡◌, drop, length}
use Rattle.vme_known.specs.Judging.{may_all_come}
use Rattle.vme_known.proofs.known.KnownBytes.take_all.Given as goal

abbrev pub invariant-loop-access : goal.invariant-loop-access
invariant-loop-access l =
    (length l.self ≡ length l.fn.self)
    × (may_all_come l.fn.self l.accesses ≡ may_all_come l.self (drop l.access-index l.accesses))
