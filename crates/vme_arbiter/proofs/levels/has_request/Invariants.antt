use Rattle.std.proofs.Common.{◌≢◌, ◌<◌, ℕ, Some, slice_get, IsFalse}
use Rattle.vme_arbiter.proofs.levels.has_request.Given as goal

-- no lower slot has a request if none was found so far
abbrev pub invariant-loop-pending : goal.invariant-loop-pending
invariant-loop-pending l = IsFalse l.any → (k level : ℕ) → k < l.pending-index → slice_get l.levels k ≢ Some (Some level)
