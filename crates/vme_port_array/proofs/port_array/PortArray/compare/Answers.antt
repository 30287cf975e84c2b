use Rattle.std.proofs.Common.{◌≡◌, ◌∙◌, ap, arith}
use Rattle.vme_port_array.specs.Arrays.{array_id}
use Rattle.vme_port_array.proofs.Opens.{deals, gathers}
use Rattle.vme_port_array.proofs.Comparisons.{looks}
use Rattle.vme_port_array.proofs.port_array.PortArray.compare.Goals as goal

pub split_seat-account-requires : goal.split_seat-account-requires
split_seat-account-requires g c =
    let array = c.args.self.now in
    (rw (ap (λ p. p.port) c.first.view_is) c.requires.first, omega (arith, array.words, array.some_objects), deals _ _ _ _ _ (ap (λ m. m.0.out) c.first.invariant.alone))

pub join_seat-requires : goal.join_seat-requires
join_seat-requires g c =
    let array = c.args.self.now in
    let first : c.first.inside.seat.table_id ≡ array_id array = rw (ap (λ p. p.port) c.first.view_is) c.requires.first in (
      rw (ap (λ p. p.port) c.second.view_is) c.requires.second,
      c.split_seat-account.ensures.3 ∙ first,
      ap (λ m. m.1) c.split_seat-account.ensures.4,
      omega (arith, array.words, array.some_objects),
      gathers g.O.Object.step _ _ _ _ _ _ (ap (λ m. m.0.out) c.second.invariant.alone) (ap (λ m. m.0.out) c.split_seat-account.ensures.4),
    )

pub load-requires : goal.load-requires
load-requires g c =
    let array = c.args.self.now in
    let second : c.second.inside.seat.table_id ≡ array_id array = rw (ap (λ p. p.port) c.second.view_is) c.requires.second in (
      c.join_seat.ensures.0 ∙ second,
      omega (arith, array.words, array.some_objects),
      looks _ _ _ _ _ _ (omega (arith, array.count, array.some_objects)),
    )

pub split_seat-account-requires-2 : goal.split_seat-account-requires-2
split_seat-account-requires-2 g c =
    let array = c.args.self.now in
    let second : c.second.inside.seat.table_id ≡ array_id array = rw (ap (λ p. p.port) c.second.view_is) c.requires.second in (
      c.load.ensures.0 ∙ c.join_seat.ensures.0 ∙ second,
      omega (arith, array.words, array.some_objects),
      deals _ _ _ _ _ (ap (λ m. m.0.out) (c.load.ensures.2.same ∙ c.join_seat.ensures.2)),
    )

pub join_seat-requires-2 : goal.join_seat-requires-2
join_seat-requires-2 g c =
    let array = c.args.self.now in
    let first : c.first.inside.seat.table_id ≡ array_id array = rw (ap (λ p. p.port) c.first.view_is) c.requires.first in
    let second : c.second.inside.seat.table_id ≡ array_id array = rw (ap (λ p. p.port) c.second.view_is) c.requires.second in (
      c.split_seat-account.ensures.0 ∙ first,
      c.split_seat-account-2.ensures.3 ∙ c.load.ensures.0 ∙ c.join_seat.ensures.0 ∙ second,
      ap (λ m. m.1) c.split_seat-account-2.ensures.4,
      omega (arith, array.words, array.some_objects),
      gathers g.O.Object.step _ _ _ _ _ _ (ap (λ m. m.0.out) c.split_seat-account.ensures.2) (ap (λ m. m.0.out) c.split_seat-account-2.ensures.4),
    )
