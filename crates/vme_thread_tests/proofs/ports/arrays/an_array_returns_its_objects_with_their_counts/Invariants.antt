use Rattle.std.proofs.Common.{All}
use Rattle.vme_port_array.specs.Arrays.{IsPassOf}
use Rattle.vme_thread_tests.proofs.ports.arrays.an_array_returns_its_objects_with_their_counts.Given as goal

-- the passes stay passes of the array
abbrev pub invariant-loop-who : goal.invariant-loop-who
invariant-loop-who g l = All (IsPassOf l.array) l.passes.items
