use Rattle.std.proofs.Common.{rules}
use Rattle.vme_port.proofs.Keeps.{tries}
use Rattle.vme_port.proofs.port.Port.take.Goals as goal

pub compare_exchange-requires : goal.compare_exchange-requires
compare_exchange-requires g c = (c.requires.port, search rules, rw (← c.args.self.now.all) (tries _ _ _ g.W.OpeningWitness.opened c.requires.opened _ _ _ _ c.word.ensures c.requires.idle))
