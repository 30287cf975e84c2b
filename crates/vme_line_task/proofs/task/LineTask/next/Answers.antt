use Rattle.std.proofs.Common.{ap, ◌∙◌}
use Rattle.vme_line_task.specs.Machine.{line_to_do, line_advance}
use Rattle.vme_line_task.proofs.lemmas.Lines.{next_by_the_given}
use Rattle.vme_line_task.proofs.lemmas.Below.{todo_below}
use Rattle.vme_line_task.proofs.task.LineTask.next.Goals as goal

pub returns-clause-table : goal.returns-clause-table
returns-clause-table c = λ config board line before same.
    ap line_to_do c.advance.ensures.task
    ∙ ap (λ given. line_to_do (line_advance c.args.self.now given)) c.as_ref.ensures.value
    ∙ next_by_the_given config board line before _ _ same

pub returns-clause-there : goal.returns-clause-there
returns-clause-there c = λ n below. todo_below n _ _ (c.advance.ensures.below n below) (c.of.ensures ∙ c.event_ref.ensures)
