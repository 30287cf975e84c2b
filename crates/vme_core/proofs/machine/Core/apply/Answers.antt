use Rattle.vme_core.proofs.lemmas.Calls.{board_applied}
use Rattle.vme_core.proofs.machine.Core.apply.Goals as goal

-- the machine in which the board is replaced by its next state is the machine after the call
pub returns-in_ok-apply-in-Board-clause-step : goal.returns-in_ok-apply-in-Board-clause-step
returns-in_ok-apply-in-Board-clause-step c =
    board_applied _ c.args.self.now c.args.event.now c.args.who c.in-Board.board c.in-Board.cmd c.index_mut.result.now c.apply.new.self
    c.in_ok-apply-in-Board.field-0 c.self.view_is c.in-Board.is c.requires.there c.index_mut.ensures.value
    c.in_ok-apply-in-Board.ensures.step
