use Rattle.std.proofs.Common.{◌≡◌, drop}
use Rattle.vme_judge.specs.Dumps.{slots_of, with_boards}
use Rattle.vme_judge.proofs.dump.slots_of.Given as goal

-- the slots so far, with those of the boards that are left, are all
abbrev pub invariant-loop-board : goal.invariant-loop-board
invariant-loop-board l = slots_of l.boards ≡ with_boards l.slots (drop l.board-index l.boards)
