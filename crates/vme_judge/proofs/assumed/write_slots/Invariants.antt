use Rattle.std.proofs.Common.{◌≡◌, ◌++◌, flat_map, string_bytes, take}
use Rattle.std.specs.Prelude.{codes, decimal}
use Rattle.vme_judge.proofs.assumed.write_slots.Given as goal

-- the slots so far are written
abbrev pub invariant-loop-slot : goal.invariant-loop-slot
invariant-loop-slot l = string_bytes l.to ≡ string_bytes l.initial.to ++ flat_map (λ slot. codes ", " ++ decimal slot) (take l.slot-index l.others)
