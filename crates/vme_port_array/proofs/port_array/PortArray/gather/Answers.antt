use Rattle.std.proofs.Common.{◌∙◌, ap, Some, arith}
use Rattle.std.proofs.lemmas.List.Elements.{All-pop}
use Rattle.vme_port_array.specs.Arrays.{IsPassOf}
use Rattle.vme_port_array.proofs.Opens.{gathers}
use Rattle.vme_port_array.proofs.Gathers.{next_joined}
use Rattle.vme_port_array.proofs.port_array.PortArray.gather.Goals as goal

pub join_seat-requires : goal.join_seat-requires
join_seat-requires g c =
    let array = c.args.self.now in
    let ours = All-pop (IsPassOf c.args.self.now) _ _ (Some c.in-Some-pop.pass) c.in-Some-pop.ensures.items c.loop-pass.invariant.1 in (
      c.loop-pass.invariant.0,
      c.into_seat-seat.ensures.array ∙ ours.1,
      ap (λ m. m.1) c.into_seat-seat.ensures.alone,
      omega (arith, array.words, array.some_objects),
      gathers g.O.Object.step _ _ _ _ _ _ (ap (λ m. m.0.out) c.loop-pass.invariant.2.joined) (ap (λ m. m.0.out) c.into_seat-seat.ensures.alone),
    )

pub loop-pass-preserved : goal.loop-pass-preserved
loop-pass-preserved g c =
    let ours = All-pop (IsPassOf c.args.self.now) _ _ (Some c.in-Some-pop.pass) c.in-Some-pop.ensures.items c.loop-pass.invariant.1 in (
      c.join_seat.ensures.0 ∙ c.loop-pass.invariant.0,
      ours.0,
      next_joined _ _ _ _ _ _ _ c.loop-pass.invariant.2 c.in-Some-pop.ensures.items c.into_seat-seat.ensures.alone c.join_seat.ensures.2,
    )
