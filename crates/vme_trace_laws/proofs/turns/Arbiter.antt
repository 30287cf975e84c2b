-- The holder of the bus after a command to the arbiter.
use Rattle.std.proofs.Common.{◌≡◌, ℕ, ◌==◌, Bool, true, false, if◌then◌else◌, Option, Some, None, refl, ap, ◌∙◌, inl, inr}
use Rattle.std.specs.Option.{option_map_or}
use Rattle.std.proofs.lemmas.Bool.{cases_Bool, false≢true, eqb-true}
use Rattle.vme_arbiter.specs.declared.command.ArbReply.{ArbReply}
use Rattle.vme_arbiter.specs.declared.command.ArbReply.TheVariants.{Granted, Waiting, Freed, Denied}
use Rattle.vme_arbiter.specs.Requests.{BusRequest, bus_request}
use Rattle.vme_arbiter.specs.Arbitration.{Arbitration, holds, pends, can_ask, lawful_ask, ask_step, look_step}

-- whether a reply grants the bus
abbrev pub grants : ArbReply → Bool
grants Granted = true
grants Waiting = false
grants Freed = false
grants Denied = false

-- a slot or a board that is named is the one that is there
pub named_is : (found : Option ℕ) (one : ℕ) → option_map_or (λ h. h == one) found false ≡ true → found ≡ Some one
named_is None one is = absurd (false≢true is)
named_is (Some h) one is = ap Some (eqb-true h one is)

-- a lawful request leaves the bus to its holder
lawful_keeps : (bus : Arbitration) (new : BusRequest) (holder : Option ℕ) (other : ℕ) → holder ≡ Some other
    → bus.holder ≡ holder → (lawful_ask holder bus new).0.holder ≡ Some other
lawful_keeps bus new None other is at = absurd (cc is)
lawful_keeps bus new (Some h) other is at = at ∙ is

-- a request leaves the bus to its holder
pub ask_keeps : (bus : Arbitration) (slot level other : ℕ) → bus.holder ≡ Some other → (ask_step bus slot level).0.holder ≡ Some other
ask_keeps bus slot level other is =
    elim (cases_Bool (can_ask bus slot level)) [
      | inl can ↦ rw can (lawful_keeps bus (bus_request level slot) bus.holder other is refl)
      | inr cannot ↦ rw cannot is
    ]

-- a lawful request that is granted has the bus
lawful_grants : (bus : Arbitration) (slot level : ℕ) (holder : Option ℕ) → grants (lawful_ask holder bus (bus_request level slot)).1 ≡ true
    → (lawful_ask holder bus (bus_request level slot)).0.holder ≡ Some slot
lawful_grants bus slot level None is = refl
lawful_grants bus slot level (Some h) is = absurd (false≢true is)

-- the same, if the slot can request the bus
ask_grants_by : (bus : Arbitration) (slot level : ℕ) (can : Bool)
    → grants (if can then lawful_ask bus.holder bus (bus_request level slot) else (bus, Denied)).1 ≡ true
    → (if can then lawful_ask bus.holder bus (bus_request level slot) else (bus, Denied)).0.holder ≡ Some slot
ask_grants_by bus slot level true is = lawful_grants bus slot level bus.holder is
ask_grants_by bus slot level false is = absurd (false≢true is)

-- a request that is granted has the bus
pub ask_grants : (bus : Arbitration) (slot level : ℕ) → grants (ask_step bus slot level).1 ≡ true → (ask_step bus slot level).0.holder ≡ Some slot
ask_grants bus slot level is = ask_grants_by bus slot level (can_ask bus slot level) is

-- a poll that is granted is one by the holder, if the slot holds the bus or has a request pending
look_grants_by : (bus : Arbitration) (slot : ℕ) (held pending : Bool) → holds bus slot ≡ held
    → grants (if held then Granted else if pending then Waiting else Denied) ≡ true → bus.holder ≡ Some slot
look_grants_by bus slot true pending at is = named_is bus.holder slot at
look_grants_by bus slot false true at is = absurd (false≢true is)
look_grants_by bus slot false false at is = absurd (false≢true is)

-- a poll that is granted is one by the holder
pub look_grants : (bus : Arbitration) (slot : ℕ) → grants (look_step bus slot).1 ≡ true → bus.holder ≡ Some slot
look_grants bus slot is = look_grants_by bus slot (holds bus slot) (pends bus slot) refl is
