-- Requests for the bus, and the one that is granted next.
use Rattle.std.specs.Prelude.{ℕ, ◌+◌, nat_lt, nat_le, Bool, not, ◌==◌, ◌&&◌, ◌||◌, List, [], ◌∷◌, if◌then◌else◌, Option, Some, None, filter, find}
use Rattle.std.specs.List.{list_any}
use Rattle.vme_arbiter.specs.Levels.{level_precedes}

-- a request for the bus: a slot drives the bus request line of a level;
-- IEEE 1014-1987, 3.2 (arbitration bus lines)
pub record BusRequest : Type 0 where
  pub level : ℕ
  pub slot : ℕ

-- a request from its level and its slot
abbrev pub bus_request : ℕ → ℕ → BusRequest
bus_request level slot = record { level = level; slot = slot }

-- the slots of a backplane: 1 to 21
abbrev pub is_slot : ℕ → Bool
is_slot slot = nat_le 1 slot && nat_le slot 21

-- the levels of bus requests: BR0* to BR3*; IEEE 1014-1987, 3.2 (arbitration bus lines)
abbrev pub is_level : ℕ → Bool
is_level level = nat_lt level 4

-- whether a request precedes another: by level in an order of levels, and on one level by slot on the daisy chain;
-- IEEE 1014-1987, 3.3 (arbiter and requesters)
abbrev pub request_precedes : List ℕ → BusRequest → BusRequest → Bool
request_precedes levels a b = level_precedes levels a.level b.level || (a.level == b.level && nat_lt a.slot b.slot)

-- the request that is granted next, if any: no request of the set precedes it;
-- IEEE 1014-1987, 3.3 (arbiter and requesters)
abbrev pub next_request : List ℕ → List BusRequest → Option BusRequest
next_request levels pending = find (λ next. not (list_any (λ other. request_precedes levels other next) pending)) pending

-- the set with one more request; the list of a set is sorted by slot
abbrev pub with_request : BusRequest → List BusRequest → List BusRequest
with_request new [] = new ∷ []
with_request new (r ∷ pending) = if nat_lt new.slot r.slot then new ∷ r ∷ pending else r ∷ with_request new pending

-- the set without the requests of a slot
abbrev pub without_slot : ℕ → List BusRequest → List BusRequest
without_slot slot pending = filter (λ r. not (r.slot == slot)) pending

-- the requests of an array of levels, one place for each slot, with slots counted from n
abbrev pub requests_from : ℕ → List (Option ℕ) → List BusRequest
requests_from n [] = []
requests_from n (None ∷ levels) = requests_from (n + 1) levels
requests_from n (Some level ∷ levels) = bus_request level n ∷ requests_from (n + 1) levels

-- the requests of an array of levels, one place for each slot
abbrev pub requests_of : List (Option ℕ) → List BusRequest
requests_of levels = requests_from 0 levels
