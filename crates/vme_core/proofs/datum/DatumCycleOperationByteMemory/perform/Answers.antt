use Rattle.std.proofs.Common.{ap, ◌∙◌, sym}
use Rattle.vme_memory.specs.Locals.{answer_given}
use Rattle.vme_memory.specs.Steps.{answer}
use Rattle.vme_core.proofs.datum.DatumCycleOperationByteMemory.perform.Goals as goal

-- the memory performs the command
pub returns-clause-state : goal.returns-clause-state
unfolding answer_given
returns-clause-state c = c.access-2.ensures.memory ∙ ap (λ command. (answer c.args.memory.now command).1) (sym c.access.ensures)

pub returns-clause-reply : goal.returns-clause-reply
unfolding answer_given
returns-clause-reply c = c.access-2.ensures.reply ∙ ap (λ command. (answer c.args.memory.now command).0) (sym c.access.ensures)
