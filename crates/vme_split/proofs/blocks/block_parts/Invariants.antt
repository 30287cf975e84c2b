use Rattle.std.proofs.Common.{◌-◌, ◌≤◌}
use Rattle.vme_split.proofs.blocks.block_parts.Given as goal

abbrev pub invariant-pieces : goal.invariant-pieces
invariant-pieces l = l.from ≤ l.len

abbrev pub decreases-pieces : goal.decreases-pieces
decreases-pieces l = l.len - l.from
