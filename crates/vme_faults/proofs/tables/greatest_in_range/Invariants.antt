use Rattle.std.proofs.Common.{◌≡◌, drop}
use Rattle.vme_faults.specs.Boards.{greatest_slot}
use Rattle.vme_faults.proofs.tables.greatest_in_range.Given as goal

-- the greatest slot so far and the remaining boards give the greatest of all
abbrev pub invariant-loop-index : goal.invariant-loop-index
invariant-loop-index l = greatest_slot l.greatest (drop l.index l.boards) ≡ greatest_slot 0 l.fn.boards
