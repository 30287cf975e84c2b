-- The state of the arbitration bus, and the step of the arbiter.
use Rattle.std.specs.Prelude.{ℕ, Bool, false, not, ◌==◌, ◌&&◌, List, [], if◌then◌else◌, Option, Some, None}
use Rattle.std.specs.List.{list_any}
use Rattle.std.specs.Option.{option_map_or}
use Rattle.vme_arbiter.specs.declared.command.ArbCmd.{ArbCmd}
use Rattle.vme_arbiter.specs.declared.command.ArbCmd.TheVariants.{Ask, Look, Done}
use Rattle.vme_arbiter.specs.declared.command.ArbReply.{ArbReply}
use Rattle.vme_arbiter.specs.declared.command.ArbReply.TheVariants.{Granted, Waiting, Freed, Denied}
use Rattle.vme_arbiter.specs.declared.kind.ArbiterKind.{ArbiterKind}
use Rattle.vme_arbiter.specs.Levels.{level_order, first_after}
use Rattle.vme_arbiter.specs.Requests.{BusRequest, bus_request, is_slot, next_request, with_request, without_slot, is_level}

-- the state: kind, level at which the next grant begins, holder, and set of pending requests;
-- IEEE 1014-1987, 3.3 (arbiter and requesters)
pub record Arbitration : Type 0 where
  pub kind : ArbiterKind
  pub first : ℕ
  pub holder : Option ℕ
  pub pending : List BusRequest

-- a state from its parts
abbrev pub arbitration : ArbiterKind → ℕ → Option ℕ → List BusRequest → Arbitration
arbitration kind first holder pending = record { kind = kind; first = first; holder = holder; pending = pending }

-- the state at the start: the bus is free, no request is pending, and a grant begins at level 3
abbrev pub opening_bus : ArbiterKind → Arbitration
opening_bus kind = arbitration kind 3 None []

-- whether a slot holds the bus
abbrev pub holds : Arbitration → ℕ → Bool
holds bus slot = option_map_or (λ holder. holder == slot) bus.holder false

-- whether a request of a slot is pending
abbrev pub pends : Arbitration → ℕ → Bool
pends bus slot = list_any (λ r. r.slot == slot) bus.pending

-- whether a slot can request the bus on a level: both are in range, and it neither holds the bus nor has a pending
-- request
abbrev pub can_ask : Arbitration → ℕ → ℕ → Bool
can_ask bus slot level = is_slot slot && is_level level && not (holds bus slot) && not (pends bus slot)

-- the state after a grant to a request, with the pending requests that remain
abbrev pub granted : BusRequest → List BusRequest → Arbitration → Arbitration
granted r pending bus = arbitration bus.kind (first_after bus.kind r.level) (Some r.slot) pending

-- the step of a valid request: a grant on a free bus, and otherwise a pending request
abbrev pub lawful_ask : Option ℕ → Arbitration → BusRequest → Arbitration × ArbReply
lawful_ask None bus new = (granted new bus.pending bus, Granted)
lawful_ask (Some holder) bus new = (record bus { pending = with_request new bus.pending }, Waiting)

-- the step of a request on a level
abbrev pub ask_step : Arbitration → ℕ → ℕ → Arbitration × ArbReply
ask_step bus slot level = if can_ask bus slot level then lawful_ask bus.holder bus (bus_request level slot) else (bus, Denied)

-- the step of a check: only the reply
abbrev pub look_step : Arbitration → ℕ → Arbitration × ArbReply
look_step bus slot = (bus, if holds bus slot then Granted else if pends bus slot then Waiting else Denied)

-- the state after a release of the bus: it is granted to the next request, if any;
-- IEEE 1014-1987, 3.3 (arbiter and requesters)
abbrev pub bus_after_release : Option BusRequest → Arbitration → Arbitration
bus_after_release None bus = record bus { holder = None }
bus_after_release (Some next) bus = granted next (without_slot next.slot bus.pending) bus

-- the request that is granted next, if any: by the order of levels from the first level
abbrev pub next_granted : Arbitration → Option BusRequest
next_granted bus = next_request (level_order bus.first) bus.pending

-- the step of a release
abbrev pub done_step : Arbitration → ℕ → Arbitration × ArbReply
done_step bus slot = if holds bus slot then (bus_after_release (next_granted bus) bus, Freed) else (bus, Denied)

-- the step of the arbiter: the new state and the reply for a command
abbrev pub arbiter_step : Arbitration → ArbCmd → Arbitration × ArbReply
arbiter_step bus (Ask slot level) = ask_step bus slot level
arbiter_step bus (Look slot) = look_step bus slot
arbiter_step bus (Done slot) = done_step bus slot
