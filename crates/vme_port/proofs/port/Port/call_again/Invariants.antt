use Rattle.std.proofs.Common.{◌≡◌}
use Rattle.vme_port.proofs.port.Port.call_again.Given as goal

-- no try has changed the pass yet
abbrev pub invariant-loop : goal.invariant-loop
invariant-loop g l = l.pass ≡ l.initial.pass
