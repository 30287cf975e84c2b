use Rattle.vme_port_array.proofs.Keeps.{tries}
use Rattle.vme_port_array.proofs.Indexes.{within, has_word}
use Rattle.vme_port_array.proofs.port_array.PortArray.take.Goals as goal

pub compare_exchange-requires : goal.compare_exchange-requires
compare_exchange-requires g c =
    let array = c.args.self.now in
    let index = c.args.index in (
      c.requires.array,
      has_word array index c.requires.index,
      rw (← array.all) (tries _ _ _ g.W.OpeningWitness.opened c.requires.opened _ _ _ _ _ c.word.ensures (within array index c.requires.index) c.requires.idle),
    )
