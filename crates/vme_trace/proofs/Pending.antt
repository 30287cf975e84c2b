-- The requests that are pending on a level.
use Rattle.std.proofs.Common.{◌≡◌, ℕ, ◌+◌, ◌||◌, ◌==◌, List, [], ◌∷◌, Option, Some, None, refl, ap}
use Rattle.std.specs.List.{list_any}
use Rattle.vme_arbiter.specs.Requests.{requests_from, requests_of}
use Rattle.vme_trace.specs.Grants.{is_on_level}

from_slot : (level n : ℕ) (levels : List (Option ℕ))
    → list_any (is_on_level level) levels ≡ list_any (λ r. r.level == level) (requests_from n levels)
from_slot level n [] = refl
from_slot level n (None ∷ levels) = from_slot level (n + 1) levels
from_slot level n (Some pending ∷ levels) = ap (λ rest. pending == level || rest) (from_slot level (n + 1) levels)

-- some slot's request is on a level if one of the pending requests is
pub on_level : (level : ℕ) (levels : List (Option ℕ))
    → list_any (is_on_level level) levels ≡ list_any (λ r. r.level == level) (requests_of levels)
on_level level levels = from_slot level 0 levels
