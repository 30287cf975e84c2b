use Rattle.vme_arbiter.specs.Arbitration.{opening_bus}
use Rattle.vme_arbiter.proofs.Holders.{has_bus-holder, has_bus-alone, has_bus-granted, has_bus-freed}
use Rattle.vme_arbiter.proofs.laws.one_slot_has_the_bus.Goals as goal

pub returns-clause-holder : goal.returns-clause-holder
returns-clause-holder c = λ kind. has_bus-holder (opening_bus kind)

pub returns-clause-alone : goal.returns-clause-alone
returns-clause-alone c = λ kind. has_bus-alone (opening_bus kind)

pub returns-clause-granted : goal.returns-clause-granted
returns-clause-granted c = λ kind. has_bus-granted (opening_bus kind)

pub returns-clause-freed : goal.returns-clause-freed
returns-clause-freed c = λ kind. has_bus-freed (opening_bus kind)
