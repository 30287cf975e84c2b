use Rattle.std.proofs.Common.{◌≡◌, ◌++◌, flat_map, map, string_bytes}
use Rattle.vme_judge.specs.FindingTexts.{comment}
use Rattle.vme_judge.proofs.verdict.write_commented.Given as goal

-- the lines so far are written
abbrev pub invariant-loop-line : goal.invariant-loop-line
invariant-loop-line l = string_bytes l.to ≡ string_bytes l.fn.to ++ flat_map comment (map (λ line. line.now) l.yielded)
