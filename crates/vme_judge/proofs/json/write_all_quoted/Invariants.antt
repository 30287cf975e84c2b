use Rattle.std.proofs.Common.{◌≡◌, ◌++◌, flat_map, string_bytes, take}
use Rattle.std.specs.Prelude.{codes}
use Rattle.vme_judge.specs.JsonTexts.{quoted}
use Rattle.vme_judge.proofs.json.write_all_quoted.Given as goal

-- the texts so far are written
abbrev pub invariant-loop-text : goal.invariant-loop-text
invariant-loop-text l = string_bytes l.to ≡ string_bytes l.initial.to ++ flat_map (λ text. codes "," ++ quoted (string_bytes text)) (take l.text-index l.others)
