use Rattle.vme_arbiter.specs.Arbitration.{opening_bus}
use Rattle.vme_arbiter.proofs.lemmas.Orderly.{orderly-replay, orderly-step, orderly-opening, kind-stays}
use Rattle.vme_arbiter.proofs.laws.states_are_orderly.Goals as goal

pub returns-clause-all : goal.returns-clause-all
returns-clause-all c = λ kind h. orderly-replay (opening_bus kind) h (orderly-opening kind)

pub returns-clause-step : goal.returns-clause-step
returns-clause-step c = orderly-step

pub returns-clause-kind : goal.returns-clause-kind
returns-clause-kind c = kind-stays
