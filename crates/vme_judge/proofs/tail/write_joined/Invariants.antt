use Rattle.std.proofs.Common.{◌≡◌, ◌++◌, flat_map, string_bytes, take}
use Rattle.vme_judge.proofs.tail.write_joined.Given as goal

-- the texts so far are written
abbrev pub invariant-loop-text : goal.invariant-loop-text
invariant-loop-text l = string_bytes l.to ≡ string_bytes l.initial.to ++ flat_map (λ text. l.between ++ string_bytes text) (take l.text-index l.others)
