use Rattle.std.proofs.Common.{◌≡◌, ◌-◌, ◌++◌}
use Rattle.vme_trace.specs.Changes.{binary}
use Rattle.vme_trace.proofs.dump.print.print_binary.Given as goal

-- the text so far, with the digits that are left, is the whole text
abbrev pub invariant-loop-k : goal.invariant-loop-k
invariant-loop-k l = l.text.items ++ binary (l.width - l.k) l.number ≡ l.fn.text.items ++ binary l.fn.width l.fn.number
