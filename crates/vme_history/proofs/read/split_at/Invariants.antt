use Rattle.std.proofs.Common.{◌≡◌, take, drop}
use Rattle.vme_history.specs.Reading.{cut_at, cut_from}
use Rattle.vme_history.proofs.read.split_at.Given as goal

-- the mark stands at no place so far
abbrev pub invariant-loop-i : goal.invariant-loop-i
invariant-loop-i l = cut_from (take l.i l.text) l.mark (drop l.i l.text) ≡ cut_at l.mark l.text
