use Rattle.std.proofs.Common.{◌≡◌, ◌++◌, drop}
use Rattle.std.specs.Prelude.{map}
use Rattle.vme_judge.specs.Openings.{rule_of}
use Rattle.vme_judge.proofs.opening.rules_of.Given as goal

-- the boards so far, with those that are left, are all
abbrev pub invariant-loop-board : goal.invariant-loop-board
invariant-loop-board l = map rule_of l.boards ≡ l.rules.items ++ map rule_of (drop l.board-index l.boards)
