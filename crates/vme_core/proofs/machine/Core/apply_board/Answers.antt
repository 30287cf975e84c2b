use Rattle.vme_memory.specs.Locals.{command_given, answer_given}
use Rattle.vme_core.proofs.EventRefs.{board_made}
use Rattle.vme_core.proofs.machine.Core.apply_board.Goals as goal

-- the machine in which the board is replaced by its next state is the machine after the call
pub returns-clause-step : goal.returns-clause-step
unfolding answer_given
returns-clause-step c =
    board_made _ c.args.self.now c.args.who c.args.board (command_given c.args.cmd.now) c.index_mut.result.now c.reply.new.self c.reply.result
    c.self.view_is c.requires.can.there c.index_mut.ensures.value c.reply.ensures.step
