use Rattle.std.proofs.Common.{◌+◌, arith, sym, subst}
use Rattle.vme_port_array.specs.Views.{Represents}
use Rattle.vme_port_array.specs.Arrays.{passes_of}
use Rattle.vme_port_array.proofs.Opens.{deals, dealt}
use Rattle.vme_port_array.proofs.port_array.PortArray.split_pass.Goals as goal

pub split_seat-seat-requires : goal.split_seat-seat-requires
split_seat-seat-requires g c =
    let array = c.args.self.now in (c.requires.array, omega (arith, array.words, array.some_objects), deals _ _ _ _ _ (dealt _ _ _ c.requires.all c.requires.below).0)

pub returns-clause-all : goal.returns-clause-all
returns-clause-all g c =
    subst (λ m. Represents (passes_of c.args.self.now) (c.args.who + 1) m) (sym c.split_seat-seat.ensures.2) (dealt _ _ _ c.requires.all c.requires.below).1
