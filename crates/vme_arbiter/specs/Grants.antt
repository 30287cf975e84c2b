-- The request that is granted next.
use Rattle.std.specs.Prelude.{◌≡◌, ◌≢◌, ◌<◌, ◌≤◌, ◌⊎◌, ℕ, IsTrue, Option, Some, List, Contains, All, slice_get}
use Rattle.vme_arbiter.specs.Levels.{level_precedes}
use Rattle.vme_arbiter.specs.Requests.{BusRequest}

-- a request is the next one, or on a later level, or on the same level with a greater slot;
-- IEEE 1014-1987, 3.3 (arbiter and requesters)
abbrev pub IsBehind : List ℕ → BusRequest → BusRequest → Type 0
IsBehind levels next other =
    (other ≡ next)
    ⊎ (IsTrue (level_precedes levels next.level other.level) ⊎ ((other.level ≡ next.level) × (next.slot < other.slot)))

-- a request is granted next: it is in the set, and each request of the set is itself or behind it;
-- IEEE 1014-1987, 3.3 (arbiter and requesters)
pub record IsNext (levels : List ℕ) (pending : List BusRequest) (next : BusRequest) : Type 0 where
  pub pends : Contains pending next
  pub first : All (IsBehind levels next) pending

-- in an array of the levels of the slots' requests, no request is on a level from one to below another
abbrev pub HasNone : List (Option ℕ) → ℕ → ℕ → Type 0
HasNone places from end = (slot level : ℕ) → slice_get places slot ≡ Some (Some level) → level < end → level < from

-- in an array of the levels of the slots' requests, a slot is the lowest on the greatest level with a request, from one
-- level to below another
pub record IsGreatest (places : List (Option ℕ)) (from end slot level : ℕ) : Type 0 where
  pub there : slice_get places slot ≡ Some (Some level)
  pub from_there : from ≤ level
  pub below : level < end
  pub lowest : (k : ℕ) → k < slot → slice_get places k ≢ Some (Some level)
  pub greatest : (k l : ℕ) → slice_get places k ≡ Some (Some l) → l < end → l ≤ level
