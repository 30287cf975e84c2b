use Rattle.std.proofs.Common.{◌≡◌, ◌<◌, ℕ, Some, slice_get}
use Rattle.vme_arbiter.proofs.levels.greatest_request.Given as goal

-- no request below the end is on this level or a greater one
abbrev pub invariant-loop-level : goal.invariant-loop-level
invariant-loop-level l = (slot level : ℕ) → slice_get l.levels slot ≡ Some (Some level) → level < l.end → level < l.level
