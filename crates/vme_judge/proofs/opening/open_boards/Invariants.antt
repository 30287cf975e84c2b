use Rattle.std.proofs.Common.{◌≡◌, ◌++◌, drop}
use Rattle.vme_judge.specs.Openings.{opens_in}
use Rattle.vme_judge.proofs.opening.open_boards.Given as goal

-- what is opened, with the boards that are left, is what is opened in all
abbrev pub invariant-loop-index : goal.invariant-loop-index
invariant-loop-index l =
    l.fn.opened.items ++ opens_in l.word 0 l.boards ≡ l.opened.items ++ opens_in l.word l.index (drop l.index l.boards)
