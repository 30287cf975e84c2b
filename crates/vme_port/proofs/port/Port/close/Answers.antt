use Rattle.vme_port.proofs.Settles.{last}
use Rattle.vme_port.proofs.port.Port.close.Goals as goal

pub returns : goal.returns
returns g c = rw (c.into_parts.ensures, c.args.self.all) (last _ _ _ _ _ _ _ _ c.close_with-closed.ensures.values.2 c.take-home.ensures.value c.requires.idle (rw (← c.args.self.all) c.requires.all))
