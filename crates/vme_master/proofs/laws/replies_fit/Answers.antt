use Rattle.vme_master.proofs.lemmas.Locals.{board_fits, arbiter_fits}
use Rattle.vme_master.proofs.laws.replies_fit.Goals as goal

pub returns-clause-board : goal.returns-clause-board
returns-clause-board c = board_fits

pub returns-clause-bus : goal.returns-clause-bus
returns-clause-bus c = arbiter_fits
