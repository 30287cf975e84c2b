use Rattle.std.proofs.Common.{rules}
use Rattle.vme_port.proofs.Puts.{puts}
use Rattle.vme_port.proofs.port.Port.put_entries.Goals as goal

pub swap-requires : goal.swap-requires
swap-requires g c = (c.requires.port, search rules, puts _ _ _ _ _ _ _ c.requires.out)
