-- Each board has counts for as many processors as the arbiter.
use Rattle.vme_core.proofs.Openings.{fresh_made}
use Rattle.vme_core.proofs.machine.Core.with_arbiter.Goals as goal

-- the invariant of a core: boards and arbiter have counts for k processors
pub invariant_of-result : goal.invariant_of-result
invariant_of-result c =
    fresh_made c.args.k c.in_ok-boards.boards.items c.args.memories.items c.in_ok-bus.bus c.args.arbiter c.in_ok-boards.ensures c.in_ok-bus.ensures
