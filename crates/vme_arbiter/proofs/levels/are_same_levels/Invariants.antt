use Rattle.std.proofs.Common.{◌≡◌, take}
use Rattle.vme_arbiter.proofs.levels.are_same_levels.Given as goal

abbrev pub invariant-loop-i : goal.invariant-loop-i
invariant-loop-i l = take l.i l.a ≡ take l.i l.b
