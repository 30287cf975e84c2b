-- The transfer at work makes the call of its bus task, and what follows its outcome is returned.
use Rattle.std.proofs.Common.{◌≡◌, Some, sym, subst, ap, ◌∙◌}
use Rattle.std.specs.Option.{option_map}
use Rattle.vme_core.specs.Advances.{AdvancesOn}
use Rattle.vme_core.specs.NextSteps.{result_in}
use Rattle.vme_master.specs.Machine.{to_do}
use Rattle.vme_shared.specs.declared.stage.Stage.{Stage}
use Rattle.vme_shared.specs.declared.request.SharedRequest.{SharedRequest}
use Rattle.vme_shared.specs.declared.current.CurrentTransfer.{CurrentTransfer}
use Rattle.vme_shared.specs.declared.current.CurrentTransfer.TheVariants.{Running}
use Rattle.vme_shared.specs.Steps.{step_after}
use Rattle.vme_shared.specs.Machine.{current_stepped, current_after, current_to_do, IsGoing, IsOfStage}
use Rattle.vme_shared.proofs.Advances.{stage_advances}
use Rattle.vme_shared.proofs.Stages.{advances_of_stage}
use Rattle.vme_shared.proofs.current.CurrentTransfer.step_on.Goals as goal

pub returns-in_ok-outcome_step-in-Running-self-clause-step : goal.returns-in_ok-outcome_step-in-Running-self-clause-step
returns-in_ok-outcome_step-in-Running-self-clause-step c = λ s same.
    let stage = c.in-Running-self.stage in
    let old = c.in-Running-self.task in
    let new = c.step_on.new.self in
    let whole : c.args.self.now ≡ Running stage old = c.in-Running.is ∙ c.in-Running-self.is in
    let here : c.in-Running.stage ≡ stage = cc in
    let step = c.in_ok-outcome_step-in-Running-self.field-0 in
    let result : Some step ≡ option_map (step_after s.request stage) (result_in (to_do new)) =
    c.in_ok-outcome_step-in-Running-self.ensures
    ∙ ap (λ (r : SharedRequest). option_map (step_after r c.in-Running.stage) (result_in (to_do new))) (sym same)
    ∙ ap (λ (one : Stage). option_map (step_after s.request one) (result_in (to_do new))) here in
    subst
    (λ (one : CurrentTransfer). AdvancesOn current_to_do (current_after s) c.args.who c.args.core.now c.step_on.new.core one
    (current_stepped s step))
    (sym whole)
    (stage_advances s stage c.args.who c.args.core.now c.step_on.new.core old new (Some step)
    (subst IsGoing whole c.requires.going) c.step_on.ensures.step result)

pub returns-in_ok-outcome_step-in-Running-self-clause-of_stage : goal.returns-in_ok-outcome_step-in-Running-self-clause-of_stage
returns-in_ok-outcome_step-in-Running-self-clause-of_stage c = λ s of.
    advances_of_stage s c.in-Running-self.stage c.args.who c.args.core.now c.step_on.new.core c.in-Running-self.task c.step_on.new.self
    c.step_on.ensures.step (subst (IsOfStage s) (c.in-Running.is ∙ c.in-Running-self.is) of)

pub returns-then-not-step_on-clause-of_stage : goal.returns-then-not-step_on-clause-of_stage
returns-then-not-step_on-clause-of_stage c = λ s of.
    advances_of_stage s c.in-Running-self.stage c.args.who c.args.core.now c.step_on.new.core c.in-Running-self.task c.step_on.new.self
    c.step_on.ensures.step (subst (IsOfStage s) (c.in-Running.is ∙ c.in-Running-self.is) of)
