use Rattle.std.proofs.Common.{◌≡◌, ◌++◌, drop}
use Rattle.vme_judge.specs.Openings.{opens_of}
use Rattle.vme_judge.proofs.opening.opened.Given as goal

-- what is opened, with the words that are left, is what all open
abbrev pub invariant-loop-word : goal.invariant-loop-word
invariant-loop-word l = opens_of l.words l.boards ≡ l.opened.items ++ opens_of (drop l.word-index l.words) l.boards
