use Rattle.std.proofs.Common.{◌≡◌, drop}
use Rattle.vme_decode.specs.Lawful.{some_overlap}
use Rattle.vme_decode.proofs.map.some_overlap.Given as goal

-- no entry so far shares an address with a later one
abbrev pub invariant-loop-i : goal.invariant-loop-i
invariant-loop-i l = some_overlap (drop l.i l.entries) ≡ some_overlap l.entries
