use Rattle.std.proofs.Common.{ap, ◌∙◌}
use Rattle.vme_master.specs.Machine.{to_do, advance}
use Rattle.vme_master.proofs.lemmas.Stands.{next_by_the_table}
use Rattle.vme_master.proofs.task.Task.next.Goals as goal

-- what the task does next is what the table states
pub returns-clause-table : goal.returns-clause-table
returns-clause-table c =
    λ job before same. ap to_do c.advance.ensures.task
    ∙ ap (λ reply. to_do (advance c.args.self.now reply)) c.as_ref.ensures.value
    ∙ next_by_the_table job before c.args.self.now c.args.reply same
