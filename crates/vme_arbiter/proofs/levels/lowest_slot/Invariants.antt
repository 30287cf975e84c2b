use Rattle.std.proofs.Common.{◌≢◌, ◌<◌, ℕ, Some, slice_get}
use Rattle.vme_arbiter.proofs.levels.lowest_slot.Given as goal

-- no lower slot has a request on the level
abbrev pub invariant-loop-slot : goal.invariant-loop-slot
invariant-loop-slot l = (k : ℕ) → k < l.slot → slice_get l.levels k ≢ Some (Some l.level)
