use Rattle.std.proofs.Common.{◌≡◌}
use Rattle.vme_port_array.proofs.port_array.PortArray.call_again.Given as goal

-- no try before parking has changed the pass yet
abbrev pub invariant-loop : goal.invariant-loop
invariant-loop g l = l.pass ≡ l.initial.pass

-- no try after parking has changed the pass yet
abbrev pub invariant-loop-2 : goal.invariant-loop-2
invariant-loop-2 g l = (l.pass ≡ l.initial.pass) × (goal.iterator-loop-2 g).can_next l.iterator' × (goal.iterator-loop-2 g).is_finite l.iterator'
