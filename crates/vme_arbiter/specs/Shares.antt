-- The grants of a history, and a request that waits through it.
use Rattle.std.specs.Prelude.{◌≡◌, ◌≢◌, ◌≤◌, if◌then◌else◌, List, [], ◌∷◌, Option, Some, None, All, Contains}
use Rattle.std.specs.List.{cons_option}
use Rattle.std.specs.Option.{option_map_or}
use Rattle.vme_object.specs.declared.history.Entry.{Entry}
use Rattle.vme_arbiter.specs.declared.command.ArbCmd.{ArbCmd}
use Rattle.vme_arbiter.specs.declared.command.ArbCmd.TheVariants.{Ask, Look, Done}
use Rattle.vme_arbiter.specs.declared.command.ArbReply.{ArbReply}
use Rattle.vme_arbiter.specs.Requests.{BusRequest, bus_request}
use Rattle.vme_arbiter.specs.Arbitration.{Arbitration, holds, can_ask, next_granted, arbiter_step}

-- the request to which a command grants the bus, if any: a new request on a free bus, or the next one when the holder
-- releases the bus
abbrev pub grant_of : Arbitration → ArbCmd → Option BusRequest
grant_of bus (Ask slot level) =
    if can_ask bus slot level then option_map_or (λ holder. None) bus.holder (Some (bus_request level slot)) else None
grant_of bus (Look slot) = None
grant_of bus (Done slot) = if holds bus slot then next_granted bus else None

-- the requests to which a history grants the bus, in order
abbrev pub grants_in : Arbitration → List (Entry ArbCmd ArbReply) → List BusRequest
grants_in bus [] = []
grants_in bus (e ∷ h) = cons_option (grant_of bus e.cmd) (grants_in (arbiter_step bus e.cmd).0 h)

-- a request is pending, and is that of the lowest slot on its level
pub record IsLowest (bus : Arbitration) (r : BusRequest) : Type 0 where
  pub pends : Contains bus.pending r
  pub lowest : All (λ other. other.level ≡ r.level → r.slot ≤ other.slot) bus.pending

-- a command is not a request of a lower slot on the level of a request
abbrev pub LeavesLowest : BusRequest → ArbCmd → Type 0
LeavesLowest r (Ask slot level) = level ≡ r.level → r.slot ≤ slot
LeavesLowest r (Look slot) = Unit {0}
LeavesLowest r (Done slot) = Unit {0}

-- the lowest request on its level waits through a history: no lower slot requests the bus on that level, and the
-- request is not granted
pub record Waits (bus : Arbitration) (r : BusRequest) (h : List (Entry ArbCmd ArbReply)) : Type 0 where
  pub pends : IsLowest bus r
  pub leaves : All (λ e. LeavesLowest r e.cmd) h
  pub not_yet : All (λ grant. grant ≢ r) (grants_in bus h)
