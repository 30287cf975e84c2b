-- The bus task of the transfer stays that of its stage.
use Rattle.std.proofs.Common.{subst, ◌∙◌}
use Rattle.vme_shared.specs.Machine.{IsOfStage}
use Rattle.vme_shared.proofs.Stages.{given_of_stage}
use Rattle.vme_shared.proofs.current.CurrentTransfer.advance.Goals as goal

pub returns-in_ok-outcome_step-in-Running-self-clause-of_stage : goal.returns-in_ok-outcome_step-in-Running-self-clause-of_stage
returns-in_ok-outcome_step-in-Running-self-clause-of_stage c = λ s of.
    given_of_stage s c.in-Running-self.stage c.in-Running-self.task c.advance.new.self _ c.advance.ensures.task
    (subst (IsOfStage s) (c.in-Running.is ∙ c.in-Running-self.is) of)

pub returns-then-not-is_finished-clause-of_stage : goal.returns-then-not-is_finished-clause-of_stage
returns-then-not-is_finished-clause-of_stage c = λ s of.
    given_of_stage s c.in-Running-self.stage c.in-Running-self.task c.advance.new.self _ c.advance.ensures.task
    (subst (IsOfStage s) (c.in-Running.is ∙ c.in-Running-self.is) of)
