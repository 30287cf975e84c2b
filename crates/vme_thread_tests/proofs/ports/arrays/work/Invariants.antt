use Rattle.vme_port_array.specs.Arrays.{IsPassOf}
use Rattle.vme_thread_tests.proofs.ports.arrays.work.Given as goal

-- the pass stays a pass of the array
abbrev pub invariant-loop : goal.invariant-loop
invariant-loop g l = IsPassOf l.array l.pass

-- the pass stays a pass of the array
abbrev pub invariant-loop-index : goal.invariant-loop-index
invariant-loop-index g l = IsPassOf l.array l.pass
