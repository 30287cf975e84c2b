use Rattle.std.proofs.Common.{◌≡◌, ◌++◌, ◌-◌, replicate}
use Rattle.std.specs.Prelude.{string_bytes}
use Rattle.vme_judge.proofs.message.write_blanks.Given as goal

-- what is written, with the blanks that are left, is what is written in all
abbrev pub invariant-loop-place : goal.invariant-loop-place
invariant-loop-place l = string_bytes l.fn.to ++ replicate l.count 32 ≡ string_bytes l.to ++ replicate (l.count - l._place) 32
