-- A configuration is that of a file, and therefore lawful.
use Rattle.vme_script.proofs.lemmas.Lawful.{configuration_known}
use Rattle.vme_script.proofs.config.Config.boards.Goals as goal

pub returns-clause-lawful : goal.returns-clause-lawful
returns-clause-lawful c = rw (← c.self.view_is) (configuration_known c.self.invariant.1.0 _ c.self.invariant.1.1)
