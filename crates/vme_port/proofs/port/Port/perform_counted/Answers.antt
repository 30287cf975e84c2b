use Rattle.vme_port.proofs.lemmas.Performs.{lent, full, performed}
use Rattle.vme_port.proofs.port.Port.perform_counted.Goals as goal

pub slot_mut-home-requires : goal.slot_mut-home-requires
slot_mut-home-requires g c = (c.requires.port, lent _ c.args.seat.now.me c.requires.out)

pub returns-in_default-clause-done : goal.returns-in_default-clause-done
returns-in_default-clause-done g c = full _ c.args.seat.now.me c.slot_mut-home.result.now c.slot_mut-home.ensures.value c.requires.out c.in_default.ensures

pub returns-clause-done : goal.returns-clause-done
returns-clause-done g c =
    performed _ g.O.Object.step (g.A.Operation.command c.args.asked.now) c.perform.result c.args.seat.now.me c.slot_mut-home.result.now _ c.slot_mut-home.ensures.value c.requires.out
    c.in-Some.ensures.0 c.in-Some.ensures.1 c.perform.ensures.state c.perform.ensures.reply
