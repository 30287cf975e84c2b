-- The steps of the arbiter, over its array.
use Rattle.std.proofs.Common.{◌≡◌, ℕ, ◌<◌, zero, suc, true, false, List, [], ◌∷◌, length, set, Option, Some, None, ap, sym, refl, ◌∙◌, arith}
use Rattle.std.specs.Prelude.{slice_get, is_some, option_and_then}
use Rattle.std.proofs.lemmas.Bool.{and_parts, not-true}
use Rattle.std.proofs.lemmas.Option.{slice_get-get_or}
use Rattle.vme_arbiter.specs.declared.kind.ArbiterKind.{ArbiterKind}
use Rattle.vme_arbiter.specs.Levels.{level_order, first_after}
use Rattle.vme_arbiter.specs.Requests.{BusRequest, next_request, requests_of}
use Rattle.vme_arbiter.specs.Arbitration.{Arbitration, arbitration, granted, holds, pends, can_ask, ask_step, done_step}
use Rattle.vme_arbiter.proofs.Listed.{pends-listed, requests_from-set_some, requests_from-set_none}

-- the place of a slot without a pending request is empty
empty_place : (slot : ℕ) (levels : List (Option ℕ)) (place : Option ℕ) → slice_get levels slot ≡ Some place
    → is_some (option_and_then (λ level. level) (slice_get levels slot)) ≡ false → slice_get levels slot ≡ Some None
empty_place slot levels None at none = at
empty_place slot levels (Some level) at none = let one = rw at at none in cc

-- a slot that can request the bus has no pending request
can_ask-pends : (bus : Arbitration) (slot level : ℕ) → can_ask bus slot level ≡ true → pends bus slot ≡ false
can_ask-pends bus slot level can = not-true _ (and_parts _ _ can).1

-- on a held bus, a new request stores its level at the slot's place
pub asked-waits : (kind : ArbiterKind) (first : ℕ) (holder : Option ℕ) (slot level : ℕ) (places : List (Option ℕ)) → slot < length places
    → is_some holder ≡ true → can_ask (arbitration kind first holder (requests_of places)) slot level ≡ true
    → arbitration kind first holder (requests_of (set places slot (Some level)))
    ≡ (ask_step (arbitration kind first holder (requests_of places)) slot level).0
asked-waits kind first None slot level places within held can = cc
asked-waits kind first (Some h) slot level places within held can =
    let bus = arbitration kind first (Some h) (requests_of places) in
    let none = sym (pends-listed slot places) ∙ can_ask-pends bus slot level can in
    let empty = empty_place slot places _ (slice_get-get_or places slot None within) none in
    rw can (ap (arbitration kind first (Some h)) (requests_from-set_some 0 slot slot level places (omega arith) empty))

-- when the holder releases the bus, the place of the next request is emptied
pub done-hands : (kind : ArbiterKind) (first : ℕ) (holder : Option ℕ) (slot : ℕ) (next : BusRequest) (places : List (Option ℕ))
    → holds (arbitration kind first holder (requests_of places)) slot ≡ true
    → Some next ≡ next_request (level_order first) (requests_of places)
    → granted next (requests_of (set places next.slot None)) (arbitration kind first holder (requests_of (set places next.slot None)))
    ≡ (done_step (arbitration kind first holder (requests_of places)) slot).0
done-hands kind first holder slot next places held is_next =
    rw (held, ← is_next)
    (ap (arbitration kind (first_after kind next.level) (Some next.slot)) (requests_from-set_none 0 next.slot next.slot places (omega arith)))

-- when the holder releases the bus and no request is pending, the bus is free
pub done-rests : (kind : ArbiterKind) (first : ℕ) (holder : Option ℕ) (slot : ℕ) (places : List (Option ℕ))
    → holds (arbitration kind first holder (requests_of places)) slot ≡ true
    → next_request (level_order first) (requests_of places) ≡ None
    → arbitration kind first None (requests_of places) ≡ (done_step (arbitration kind first holder (requests_of places)) slot).0
done-rests kind first holder slot places held none = rw (held, none) refl

-- all levels are in range once a place is emptied, if they were before
pub emptied-in_range : (places : List (Option ℕ)) (at : ℕ)
    → ((slot level : ℕ) → slice_get places slot ≡ Some (Some level) → level < 4) → (slot level : ℕ)
    → slice_get (set places at None) slot ≡ Some (Some level) → level < 4
emptied-in_range [] at each slot level there = cc
emptied-in_range (place ∷ places) zero each zero level there = cc
emptied-in_range (place ∷ places) zero each (suc k) level there = each (suc k) level there
emptied-in_range (place ∷ places) (suc a) each zero level there = each zero level there
emptied-in_range (place ∷ places) (suc a) each (suc k) level there =
    emptied-in_range places a (λ slot level there. each (suc slot) level there) k level there
