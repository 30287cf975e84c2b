use Rattle.std.specs.Prelude.{option_copied}
use Rattle.std.proofs.Common.{ap, sym, subst, ◌∙◌}
use Rattle.vme_line_task.specs.declared.task.LineTask.{LineTask}
use Rattle.vme_line_task.specs.declared.task.LineTask.TheVariants.{Running}
use Rattle.vme_line_task.specs.Machine.{line_advance, IsLineBelow}
use Rattle.vme_line_task.proofs.lemmas.Below.{advance_below}
use Rattle.vme_line_task.proofs.task.LineTask.advance.Goals as goal

pub returns-in-Running-clause-below : goal.returns-in-Running-clause-below
returns-in-Running-clause-below c = λ n below.
    let given = option_copied c.args.given in
    subst (IsLineBelow n) (ap (λ (t : LineTask). line_advance t given) c.in-Running.is ∙ ap Running (sym c.advance.ensures.task))
    (advance_below n c.args.self.now given below)
