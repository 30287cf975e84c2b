use Rattle.std.proofs.Common.{◌≡◌, ◌++◌, flat_map, string_bytes, take}
use Rattle.std.specs.Prelude.{codes}
use Rattle.vme_judge.specs.AssumedTexts.{open_text}
use Rattle.vme_judge.proofs.assumed.write_opens.Given as goal

-- the bytes so far are written
abbrev pub invariant-loop-bytes : goal.invariant-loop-bytes
invariant-loop-bytes l = string_bytes l.to ≡ string_bytes l.initial.to ++ flat_map (λ bytes. codes ", " ++ open_text bytes) (take l.bytes-index l.others)
