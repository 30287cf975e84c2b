use Rattle.std.proofs.Common.{◌≡◌, ◌++◌, drop}
use Rattle.vme_answers.specs.Starting.{entries_of}
use Rattle.vme_answers.proofs.starting.entries_of.Given as goal

abbrev pub invariant-loop-board : goal.invariant-loop-board
invariant-loop-board l = entries_of l.boards ≡ l.entries.items ++ entries_of (drop l.board-index l.boards)
