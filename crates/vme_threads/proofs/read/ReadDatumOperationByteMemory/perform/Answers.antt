use Rattle.std.proofs.Common.{ap, ◌∙◌, sym}
use Rattle.vme_memory.specs.Locals.{answer_given}
use Rattle.vme_memory.specs.Steps.{answer}
use Rattle.vme_threads.proofs.read.ReadDatumOperationByteMemory.perform.Goals as goal

-- the memory performs the command of the datum's cycle
pub returns-clause-state : goal.returns-clause-state
unfolding answer_given
returns-clause-state c =
    c.access.ensures.memory ∙ ap (λ command. (answer c.args.memory.now command).1) (sym c.args.self.now.command)

pub returns-clause-reply : goal.returns-clause-reply
unfolding answer_given
returns-clause-reply c =
    c.access.ensures.reply ∙ ap (λ command. (answer c.args.memory.now command).0) (sym c.args.self.now.command)
