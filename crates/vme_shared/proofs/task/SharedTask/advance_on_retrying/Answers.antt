-- The task advances as its transfer at work does, or its first transfer begins again in its place.
use Rattle.std.proofs.Common.{◌≡◌, sym, subst, ap, ◌∙◌, IsTrue, rules}
use Rattle.vme_core.specs.Advances.{AdvancesOn}
use Rattle.vme_shared.specs.declared.outcome.SharedOutcome.TheVariants as shared
use Rattle.vme_shared.specs.declared.request.SharedRequest.{SharedRequest}
use Rattle.vme_shared.specs.declared.stage.StageResult.TheVariants.{Finish}
use Rattle.vme_shared.specs.Steps.{first_stage}
use Rattle.vme_shared.specs.declared.current.CurrentTransfer.{CurrentTransfer}
use Rattle.vme_shared.specs.Tables.{SharedJob, stage_job}
use Rattle.vme_shared.specs.Machine.{SharedView, stage_called, current_stepped, shared_to_do, shared_advance, IsGoing, IsKept}
use Rattle.vme_shared.specs.Retries.{RetriesOn}
use Rattle.vme_shared.proofs.Advances.{shared_advances}
use Rattle.vme_shared.proofs.Stages.{begun_kept, retries}
use Rattle.vme_shared.proofs.task.SharedTask.advance_on_retrying.Goals as goal

pub invariant_of-self : goal.invariant_of-self
invariant_of-self c =
    let was = c.self.invariant.going in
    let going : IsGoing c.step_on.new.self = search rules in
    record { going = going; of_stage = c.step_on.ensures.of_stage c.self.inside.job c.self.invariant.of_stage }

pub invariant_of-self-then-retry : goal.invariant_of-self-then-retry
invariant_of-self-then-retry c =
    let s = c.self.inside.job in
    let value = c.request-request.ensures.value in
    let taken : IsTrue c.retry.result = search rules in
    let again = c.retry.ensures.again s (sym value) (c.in-Some.ensures.of_stage s c.self.invariant.of_stage) taken in
    subst (IsKept s) (sym again)
    (subst (λ (r : SharedRequest). IsKept s (stage_called (first_stage r) (stage_job s (first_stage r)))) (sym value)
    (begun_kept s (first_stage s.request)))

pub returns-in_default-clause-advanced : goal.returns-in_default-clause-advanced
returns-in_default-clause-advanced c = λ same.
    let s = c.self.inside.job in
    subst
    (λ (old : SharedView). AdvancesOn shared_to_do shared_advance c.args.who c.args.core.now c.step_on.new.core old
    (record { job = s; current = c.step_on.new.self }))
    c.self.view_is
    (shared_advances s c.args.who c.args.core.now c.step_on.new.core c.self.inside.current c.step_on.new.self
    (c.in_default.ensures.step s (sym c.request-request.ensures.value)))

pub returns-then-retry-clause-retried : goal.returns-then-retry-clause-retried
returns-then-retry-clause-retried c = λ retried.
    let s = c.self.inside.job in
    let value = c.request-request.ensures.value in
    let taken : IsTrue c.retry.result = search rules in
    let busy : c.in-Some.step ≡ Finish shared.Busy = c.retry.ensures.busy taken in
    let again = c.retry.ensures.again s (sym value) (c.in-Some.ensures.of_stage s c.self.invariant.of_stage) taken in
    subst
    (λ (old : SharedView). RetriesOn c.args.who c.args.core.now c.step_on.new.core old (record { job = s; current = c.retry.new.self }))
    c.self.view_is
    (retries s c.args.who c.args.core.now c.step_on.new.core c.self.inside.current c.retry.new.self c.in-Some.step
    (λ end ends. let none = c.in-Some.ensures.ended end ends in absurd cc)
    (c.in-Some.ensures.step s (sym value)) busy
    (subst (λ (r : SharedRequest). c.retry.new.self ≡ stage_called (first_stage r) (stage_job s (first_stage r))) value again))

pub returns-clause-advanced : goal.returns-clause-advanced
returns-clause-advanced c = λ same.
    let s = c.self.inside.job in
    let made = shared_advances s c.args.who c.args.core.now c.step_on.new.core c.self.inside.current (current_stepped s c.in-Some.step)
    (c.in-Some.ensures.step s (sym c.request-request.ensures.value)) in
    let by : (job : SharedJob) → job ≡ s → (current : CurrentTransfer) → current ≡ current_stepped job c.in-Some.step
    → AdvancesOn shared_to_do shared_advance c.args.who c.args.core.now c.step_on.new.core c.args.self.now (record { job = job; current = current })
    = λ job is current stepped.
    subst (λ (old : SharedView). AdvancesOn shared_to_do shared_advance c.args.who c.args.core.now c.step_on.new.core old (record { job = job; current = current }))
    c.self.view_is
    (subst
    (λ (one : SharedJob). AdvancesOn shared_to_do shared_advance c.args.who c.args.core.now c.step_on.new.core
    (record { job = s; current = c.self.inside.current }) (record { job = one; current = current }))
    (sym is)
    (subst
    (λ (one : CurrentTransfer). AdvancesOn shared_to_do shared_advance c.args.who c.args.core.now c.step_on.new.core
    (record { job = s; current = c.self.inside.current }) (record { job = s; current = one }))
    (sym (stepped ∙ ap (λ (one : SharedJob). current_stepped one c.in-Some.step) is)) made)) in
    by _ (search rules) c.step.new.current c.step.ensures.current
