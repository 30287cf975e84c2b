-- Every reachable state of the arbiter is orderly.
use Rattle.std.proofs.Common.{◌≡◌, ℕ, ◌-◌, true, false, List, [], ◌∷◌, Option, Some, None, ap, sym, ◌∙◌, refl, arith, eqb, inl, inr}
use Rattle.std.specs.Prelude.{All}
use Rattle.std.proofs.lemmas.Bool.{cases_Bool, and_parts, not-true, eqb-false, ne_eqb, or_from, lt-ltb, ltb-true}
use Rattle.std.proofs.lemmas.List.Elements.{All-nil, All-contains, All-filter, All-weaker}
use Rattle.vme_object.specs.declared.history.Entry.{Entry}
use Rattle.vme_object.specs.History.{replay}
use Rattle.vme_arbiter.specs.declared.command.ArbCmd.{ArbCmd}
use Rattle.vme_arbiter.specs.declared.command.ArbCmd.TheVariants.{Ask, Look, Done}
use Rattle.vme_arbiter.specs.declared.command.ArbReply.{ArbReply}
use Rattle.vme_arbiter.specs.declared.kind.ArbiterKind.{ArbiterKind}
use Rattle.vme_arbiter.specs.declared.kind.ArbiterKind.TheVariants.{Priority, Rotating}
use Rattle.vme_arbiter.specs.Levels.{level_order, first_after}
use Rattle.vme_arbiter.specs.Requests.{BusRequest, bus_request, is_slot, is_level}
use Rattle.vme_arbiter.specs.Arbitration.{Arbitration, opening_bus, holds, pends, can_ask, lawful_ask, bus_after_release, next_granted, arbiter_step}
use Rattle.vme_arbiter.specs.Orderly.{IsLawfulRequest, IsOrderly}
use Rattle.vme_arbiter.proofs.Grants.{granted-pends, none-granted}
use Rattle.vme_arbiter.proofs.Pending.{has_slot-with, has_slot-without_same, All-with, by_slot-with, by_slot-without}

-- the parts of whether a slot can request the bus on a level
pub record CanAsk (bus : Arbitration) (slot level : ℕ) : Type 0 where
  pub slot_ok : is_slot slot ≡ true
  pub level_ok : is_level level ≡ true
  pub not_holds : holds bus slot ≡ false
  pub not_pends : pends bus slot ≡ false

-- a slot that can request the bus has each part of it
pub can_ask-facts : (bus : Arbitration) (slot level : ℕ) → can_ask bus slot level ≡ true → CanAsk bus slot level
can_ask-facts bus slot level can =
    let last = and_parts _ _ can in
    let third = and_parts _ _ last.0 in
    let second = and_parts _ _ third.0 in
    record { slot_ok = second.0; level_ok = second.1; not_holds = not-true _ third.1; not_pends = not-true _ last.1 }

-- the levels of lawful requests are in range
pub levels_ok : (pending : List BusRequest) → All IsLawfulRequest pending → All (λ r. is_level r.level ≡ true) pending
levels_ok pending requests = All-weaker IsLawfulRequest (λ r. is_level r.level ≡ true) (λ r lawful. lawful.1) pending requests

-- the first level after a grant is in range
first-in_range : (kind : ArbiterKind) (level : ℕ) → is_level level ≡ true → is_level (first_after kind level) ≡ true
first-in_range Priority level level_ok = refl
first-in_range Rotating level level_ok =
    let below = ltb-true level 4 level_ok in
    elim (cases_Bool (eqb level 0)) [
      | inl zero ↦ rw zero refl
      | inr other ↦ rw other (lt-ltb (level - 1) 4 (omega arith))
    ]

-- the first level after a grant by priority is 3
first-priority : (kind : ArbiterKind) (level : ℕ) → kind ≡ Priority → first_after kind level ≡ 3
first-priority kind level is = ap (λ k. first_after k level) is

-- a new request leaves an orderly state
taken-orderly : (holder : Option ℕ) (bus : Arbitration) (slot level : ℕ) → bus.holder ≡ holder → IsOrderly bus → CanAsk bus slot level
    → IsOrderly (lawful_ask holder bus (bus_request level slot)).0
taken-orderly None bus slot level is orderly can =
    record {
      first = first-in_range bus.kind level can.level_ok;
      priority = first-priority bus.kind level;
      holder = (can.slot_ok, can.not_pends);
      requests = orderly.requests;
      by_slot = orderly.by_slot;
      free = λ idle. cc;
    }
taken-orderly (Some h) bus slot level is orderly can =
    let not_held = rw is at can.not_holds in
    let other : eqb slot h ≡ false = ne_eqb slot h (λ same. eqb-false h slot not_held (sym same)) in
    let lawful = rw is at orderly.holder in
    record {
      first = orderly.first;
      priority = orderly.priority;
      holder = rw is (lawful.0, has_slot-with h (bus_request level slot) bus.pending ∙ or_from _ _ other lawful.1);
      requests = All-with IsLawfulRequest (bus_request level slot) bus.pending (can.slot_ok, can.level_ok) orderly.requests;
      by_slot = by_slot-with (bus_request level slot) bus.pending can.not_pends orderly.by_slot;
      free = λ idle. cc;
    }

-- a release leaves an orderly state
handed-orderly : (bus : Arbitration) (next : Option BusRequest) → next_granted bus ≡ next → IsOrderly bus
    → IsOrderly (bus_after_release next bus)
handed-orderly bus None is_next orderly =
    record {
      first = orderly.first;
      priority = orderly.priority;
      holder = tt;
      requests = orderly.requests;
      by_slot = orderly.by_slot;
      free = λ idle. none-granted bus.first bus.pending orderly.first (levels_ok bus.pending orderly.requests) is_next;
    }
handed-orderly bus (Some next) is_next orderly =
    let at = granted-pends (level_order bus.first) bus.pending next is_next in
    let lawful = All-contains IsLawfulRequest bus.pending next orderly.requests at in
    record {
      first = first-in_range bus.kind next.level lawful.1;
      priority = first-priority bus.kind next.level;
      holder = (lawful.0, has_slot-without_same next.slot bus.pending);
      requests = All-filter _ IsLawfulRequest bus.pending orderly.requests;
      by_slot = by_slot-without next.slot bus.pending orderly.by_slot;
      free = λ idle. cc;
    }

-- a new request keeps the kind
taken-kind : (holder : Option ℕ) (bus : Arbitration) (new : BusRequest) → (lawful_ask holder bus new).0.kind ≡ bus.kind
taken-kind None bus new = refl
taken-kind (Some h) bus new = refl

-- a release keeps the kind
handed-kind : (next : Option BusRequest) (bus : Arbitration) → (bus_after_release next bus).kind ≡ bus.kind
handed-kind None bus = refl
handed-kind (Some next) bus = refl

-- each command leaves an orderly state
pub orderly-step : (bus : Arbitration) (cmd : ArbCmd) → IsOrderly bus → IsOrderly (arbiter_step bus cmd).0
orderly-step bus (Ask slot level) orderly =
    elim (cases_Bool (can_ask bus slot level)) [
      | inl can ↦ rw can (taken-orderly bus.holder bus slot level refl orderly (can_ask-facts bus slot level can))
      | inr cannot ↦ rw cannot orderly
    ]
orderly-step bus (Look slot) orderly = orderly
orderly-step bus (Done slot) orderly =
    elim (cases_Bool (holds bus slot)) [
      | inl held ↦ rw held (handed-orderly bus (next_granted bus) refl orderly)
      | inr not_held ↦ rw not_held orderly
    ]

-- each history leaves an orderly state
pub orderly-replay : (bus : Arbitration) (h : List (Entry ArbCmd ArbReply)) → IsOrderly bus → IsOrderly (replay arbiter_step bus h)
orderly-replay bus [] orderly = orderly
orderly-replay bus (e ∷ h) orderly = orderly-replay (arbiter_step bus e.cmd).0 h (orderly-step bus e.cmd orderly)

-- an arbiter begins in an orderly state
pub orderly-opening : (kind : ArbiterKind) → IsOrderly (opening_bus kind)
orderly-opening kind = record {
  first = refl;
  priority = λ is. refl;
  holder = tt;
  requests = All-nil IsLawfulRequest;
  by_slot = tt;
  free = λ idle. refl;
}

-- no command changes the kind
pub kind-stays : (bus : Arbitration) (cmd : ArbCmd) → (arbiter_step bus cmd).0.kind ≡ bus.kind
kind-stays bus (Ask slot level) =
    elim (cases_Bool (can_ask bus slot level)) [
      | inl can ↦ rw can (taken-kind bus.holder bus (bus_request level slot))
      | inr cannot ↦ rw cannot refl
    ]
kind-stays bus (Look slot) = refl
kind-stays bus (Done slot) =
    elim (cases_Bool (holds bus slot)) [ inl held ↦ rw held (handed-kind (next_granted bus) bus) | inr not_held ↦ rw not_held refl ]
