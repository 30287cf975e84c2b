use Rattle.std.proofs.Common.{◌≡◌, sym, subst}
use Rattle.vme_line_task.specs.declared.task.LineTask.{LineTask}
use Rattle.vme_line_task.specs.declared.task.LineTask.TheVariants.{Running}
use Rattle.vme_line_task.specs.Machine.{line_advance, line_to_do}
use Rattle.vme_core.specs.Advances.{AdvancesOn, ends_by_call}
use Rattle.vme_line_task.proofs.lemmas.Calls.{running_advances}
use Rattle.vme_line_task.proofs.lemmas.Below.{made_below}
use Rattle.vme_line_task.proofs.task.LineTask.step_on.Goals as goal

pub returns-in-Running : goal.returns-in-Running
returns-in-Running c =
    let new = Running c.step_on.new.self in
    let step =
    subst (λ (t : LineTask). AdvancesOn line_to_do line_advance c.args.who c.args.core.now c.step_on.new.core t new) (sym c.in-Running.is)
    (running_advances c.args.who c.args.core.now c.step_on.new.core c.in-Running.attempts c.step_on.new.self c.step_on.ensures.step) in
    record {
      step = step;
      below = λ n below. made_below n c.args.who c.args.core.now c.step_on.new.core c.args.self.now new step below;
      ended = subst (λ (t : LineTask). c.step_on.result ≡ ends_by_call line_to_do t new) (sym c.in-Running.is) c.step_on.ensures.ended;
    }
