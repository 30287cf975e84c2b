use Rattle.std.proofs.Common.{◌≡◌, drop}
use Rattle.vme_judge.specs.Forgetting.{without_slot}
use Rattle.vme_judge.proofs.local.forget_slot.Given as goal

-- what is known once the bytes of the boards that are left are forgotten too is what is known at the end
abbrev pub invariant-loop-index : goal.invariant-loop-index
invariant-loop-index l = without_slot l.slot 0 l.boards l.fn.answers ≡ without_slot l.slot l.index (drop l.index l.boards) l.answers
