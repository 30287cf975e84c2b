-- Equal strobes have equal locations.
use Rattle.std.proofs.Common.{arith}
use Rattle.vme_cycle.specs.Inverse.{location_of-strobes}
use Rattle.vme_cycle.proofs.Ands.{five_tests}
use Rattle.vme_cycle.proofs.signals.SignalsPartialEq.eq.Goals as goal

pub returns : goal.returns
returns c = grind (arith, location_of-strobes, five_tests)
