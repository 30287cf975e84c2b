use Rattle.std.proofs.Common.{rules, ap}
use Rattle.vme_port.proofs.Keeps.{marks}
use Rattle.vme_port.proofs.port.Port.mark.Goals as goal

pub compare_exchange-requires : goal.compare_exchange-requires
compare_exchange-requires g c = (rw (ap (λ p. p.port) c.pass.view_is) c.requires, search rules, marks _ _ _ _ _ _)
