use Rattle.std.proofs.Common.{rules, ◌+◌, sym, subst}
use Rattle.vme_port.specs.Views.{Represents}
use Rattle.vme_port.specs.Ports.{passes_of}
use Rattle.vme_port.proofs.Opens.{deals, dealt}
use Rattle.vme_port.proofs.port.Port.split_pass.Goals as goal

pub split_seat-seat-requires : goal.split_seat-seat-requires
split_seat-seat-requires g c = (c.requires.port, search rules, deals _ _ _ _ _ (dealt _ _ _ c.requires.all c.requires.below).0)

pub returns-clause-all : goal.returns-clause-all
returns-clause-all g c =
    subst (λ m. Represents (passes_of c.args.self.now) (c.args.who + 1) m) (sym c.split_seat-seat.ensures.2) (dealt _ _ _ c.requires.all c.requires.below).1
