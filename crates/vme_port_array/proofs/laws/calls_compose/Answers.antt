use Rattle.vme_port.proofs.lemmas.OneHistory.{makes_none, makes_more}
use Rattle.vme_port_array.proofs.lemmas.OneHistory.{makes_one}
use Rattle.vme_port_array.proofs.laws.calls_compose.Goals as goal

pub returns-clause-one : goal.returns-clause-one
returns-clause-one g c = makes_one g.O.Object.step

pub returns-clause-none : goal.returns-clause-none
returns-clause-none g c = makes_none

pub returns-clause-more : goal.returns-clause-more
returns-clause-more g c = makes_more
