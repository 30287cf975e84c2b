use Rattle.std.proofs.Common.{◌≡◌}
use Rattle.vme_core.specs.Machines.{process_count}
use Rattle.vme_board_tests.proofs.cores.takes_a_rotating_arbiter.Given as goal

-- the core stays one of two processors
abbrev pub invariant-loop-cmd : goal.invariant-loop-cmd
invariant-loop-cmd g l = process_count l.core ≡ 2
