use Rattle.std.proofs.Common.{◌≡◌, false, take}
use Rattle.std.specs.List.{list_any}
use Rattle.vme_vcd_reader.specs.Matches.{clashes}
use Rattle.vme_vcd_reader.proofs.matching.has_clash.Given as goal

-- none so far
abbrev pub invariant-loop-other : goal.invariant-loop-other
invariant-loop-other l = list_any (λ p. clashes p l.fn.part) (take l.other-index l.parts) ≡ false
