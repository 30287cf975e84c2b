use Rattle.std.proofs.Common.{◌≡◌, drop}
use Rattle.vme_judge.specs.Forgetting.{without_boards}
use Rattle.vme_judge.proofs.resume.forget_boards.Given as goal

-- what is known once the bytes of the boards that are left are forgotten too is what is known at the end
abbrev pub invariant-loop-index : goal.invariant-loop-index
invariant-loop-index l = without_boards 0 l.boards l.fn.answers ≡ without_boards l.index (drop l.index l.boards) l.answers
