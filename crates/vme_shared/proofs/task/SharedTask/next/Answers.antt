use Rattle.std.proofs.Common.{ap, ◌∙◌}
use Rattle.vme_shared.specs.Machine.{shared_to_do, shared_advance}
use Rattle.vme_shared.proofs.lemmas.Stands.{next_by_the_given}
use Rattle.vme_shared.proofs.task.SharedTask.next.Goals as goal

-- what the task does next is what the table says
pub returns : goal.returns
returns c =
    let task = c.advance.ensures.task ∙ ap (shared_advance c.args.self.now) c.as_ref.ensures.value in
    record {
      task = task;
      todo = c.todo.ensures;
      table = λ s before same. c.todo.ensures ∙ ap shared_to_do task ∙ next_by_the_given s before c.args.self.now c.args.reply same;
    }
