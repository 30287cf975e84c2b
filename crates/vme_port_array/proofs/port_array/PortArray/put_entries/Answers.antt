use Rattle.vme_port_array.proofs.Puts.{puts}
use Rattle.vme_port_array.proofs.Indexes.{within, has_word}
use Rattle.vme_port_array.proofs.port_array.PortArray.put_entries.Goals as goal

pub swap-requires : goal.swap-requires
swap-requires g c =
    let array = c.args.self.now in
    let index = c.args.index in (
      c.requires.array,
      has_word array index c.requires.index,
      rw (← array.all) (puts _ _ _ g.W.OpeningWitness.opened c.requires.opened _ _ _ _ _ (within array index c.requires.index) c.requires.out),
    )
