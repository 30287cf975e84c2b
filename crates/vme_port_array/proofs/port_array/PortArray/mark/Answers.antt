use Rattle.std.proofs.Common.{ap}
use Rattle.vme_port_array.proofs.Keeps.{marks}
use Rattle.vme_port_array.proofs.Indexes.{within, has_word}
use Rattle.vme_port_array.proofs.port_array.PortArray.mark.Goals as goal

pub compare_exchange-requires : goal.compare_exchange-requires
compare_exchange-requires g c =
    let array = c.args.self.now in
    let index = c.args.index in (
      rw (ap (λ p. p.port) c.pass.view_is) c.requires.array,
      has_word array index c.requires.index,
      marks _ _ _ _ _ _ _ (within array index c.requires.index),
    )
