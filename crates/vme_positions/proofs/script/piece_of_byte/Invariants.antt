use Rattle.std.proofs.Common.{◌-◌, ◌≤◌, length}
use Rattle.vme_positions.proofs.script.piece_of_byte.Given as goal

abbrev pub invariant-pieces : goal.invariant-pieces
invariant-pieces l = l.at ≤ length l.rest

abbrev pub decreases-pieces : goal.decreases-pieces
decreases-pieces l = length l.rest - l.at
