-- The first transfer, begun again in its place, is that of its stage after its first call.
use Rattle.std.proofs.Common.{subst, ap, ◌∙◌, rules, ◌≡◌, None}
use Rattle.vme_master.specs.Machine.{TaskView, advance}
use Rattle.vme_shared.specs.declared.stage.Stage.{Stage}
use Rattle.vme_shared.specs.declared.current.CurrentTransfer.TheVariants.{Running}
use Rattle.vme_shared.specs.Steps.{first_stage}
use Rattle.vme_shared.specs.Tables.{stage_job}
use Rattle.vme_shared.specs.Machine.{stage_called, IsOfStage}
use Rattle.vme_shared.proofs.Stages.{begun_again}
use Rattle.vme_shared.proofs.current.CurrentTransfer.retry.Goals as goal

pub returns-in-Running-Locks-default-clause-again : goal.returns-in-Running-Locks-default-clause-again
returns-in-Running-Locks-default-clause-again c = λ s same of taken.
    let p = c.in-Running-Locks-default in
    let first : p.stage ≡ first_stage c.args.request = search rules in
    let called = c.advance.ensures.task ∙ ap (λ (task : TaskView). advance task None) c.restart.ensures in
    ap (λ (task : TaskView). Running p.stage task) called ∙ begun_again s p.stage p.task.job (subst (IsOfStage s) p.is of)
    ∙ ap (λ (stage : Stage). stage_called stage (stage_job s stage)) first
