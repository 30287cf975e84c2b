use Rattle.vme_port.proofs.Opens.{opens}
use Rattle.vme_port.proofs.port.Port.open.Goals as goal

pub new-requires : goal.new-requires
new-requires g c = rw (c.push_reserved.ensures.items, c.in_ok-slots.ensures.items, c.of.ensures) (opens _ _ _ _ c.unused.ensures.object c.unused.ensures.count)
