use Rattle.std.proofs.Common.{All}
use Rattle.vme_port.specs.Ports.{IsPassOf}
use Rattle.vme_thread_tests.proofs.ports.counters.a_sole_pass_is_never_busy.Given as goal

-- the passes stay passes of the port
abbrev pub invariant-loop-i : goal.invariant-loop-i
invariant-loop-i g l = All (IsPassOf l.port) l.passes.items
