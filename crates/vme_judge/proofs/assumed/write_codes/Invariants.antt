use Rattle.std.proofs.Common.{◌≡◌, ◌++◌, flat_map, string_bytes, take}
use Rattle.std.specs.Prelude.{codes}
use Rattle.vme_judge.specs.Levels.{hex}
use Rattle.vme_judge.proofs.assumed.write_codes.Given as goal

-- the codes so far are written
abbrev pub invariant-loop-code : goal.invariant-loop-code
invariant-loop-code l = string_bytes l.to ≡ string_bytes l.initial.to ++ flat_map (λ code. codes "," ++ hex 2 code) (take l.code-index l.others)
