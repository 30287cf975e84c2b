-- A transfer that has not ended stays that of its stage.
use Rattle.std.proofs.Common.{rules}
use Rattle.vme_shared.specs.Machine.{IsGoing}
use Rattle.vme_shared.proofs.task.SharedTask.advance.Goals as goal

pub invariant_of-self-in_default : goal.invariant_of-self-in_default
invariant_of-self-in_default c =
    let was = c.self.invariant.going in
    let going : IsGoing c.advance.new.self = search rules in
    record { going = going; of_stage = c.advance.ensures.of_stage c.self.inside.job c.self.invariant.of_stage }
