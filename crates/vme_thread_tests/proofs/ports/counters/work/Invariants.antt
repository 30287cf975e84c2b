use Rattle.vme_port.specs.Ports.{IsPassOf}
use Rattle.vme_thread_tests.proofs.ports.counters.work.Given as goal

-- the pass stays a pass of the port
abbrev pub invariant-loop : goal.invariant-loop
invariant-loop g l = IsPassOf l.port l.pass
