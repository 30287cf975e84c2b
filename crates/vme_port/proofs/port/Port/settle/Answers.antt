use Rattle.std.proofs.Common.{ap, subst}
use Rattle.vme_port.specs.Settlements.{Closes}
use Rattle.vme_port.specs.Ports.{opening, passes_of}
use Rattle.vme_port.proofs.Settles.{settled}
use Rattle.vme_port.proofs.port.Port.settle.Goals as goal

pub returns-clause-settled : goal.returns-clause-settled
returns-clause-settled g c =
    let outcome = subst (λ accounts. Closes g.O.Object.step (opening c.args.self) (passes_of c.args.self) accounts c.close.result.0 c.close.result.1)
    (ap (λ m. m.0.accounts) c.gather-seat.ensures.all) c.close.ensures in
    settled _ _ _ _ _ _ outcome c.gather-seat.ensures.counted
