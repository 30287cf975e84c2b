-- The state of an arbiter as plain data.
use Rattle.std.specs.Prelude.{ℕ, Bool, true, ◌&&◌, if◌then◌else◌, Option, Some, None}
use Rattle.std.specs.List.{list_all}
use Rattle.vme_arbiter.specs.declared.state.ArbiterState.{ArbiterState}
use Rattle.vme_arbiter.specs.Requests.{is_level, requests_of}
use Rattle.vme_arbiter.specs.Arbitration.{Arbitration, arbitration}

-- whether the level of a request, if there is one, is in range
abbrev pub is_level_or_none : Option ℕ → Bool
is_level_or_none None = true
is_level_or_none (Some level) = is_level level

-- whether the first level and the levels of all requests are in range
abbrev pub is_in_range : ArbiterState → Bool
is_in_range s = is_level s.first && list_all is_level_or_none s.levels

-- the state of the arbitration bus that plain data describes
abbrev pub bus_of_state : ArbiterState → Arbitration
bus_of_state s = arbitration s.kind s.first s.holder (requests_of s.levels)

-- the state of the arbitration bus that plain data describes, if its levels are in range
abbrev pub bus_from_state : ArbiterState → Option Arbitration
bus_from_state s = if is_in_range s then Some (bus_of_state s) else None
