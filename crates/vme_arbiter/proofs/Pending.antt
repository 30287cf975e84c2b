-- The pending requests after a request is added or removed.
use Rattle.std.proofs.Common.{◌≡◌, ℕ, ◌<◌, Bool, true, false, ◌||◌, List, [], ◌∷◌, Some, ap, sym, ◌∙◌, refl, arith, eqb, ltb, inl, inr}
use Rattle.std.specs.Prelude.{All}
use Rattle.std.specs.List.{list_any}
use Rattle.std.proofs.lemmas.Bool.{cases_Bool, eqb-true, eqb-false, eq-eqb, ne_eqb, ltb-true, ltb-false, or_parts, or_from}
use Rattle.std.proofs.lemmas.List.Elements.{All-nil, All-cons, All-head, All-tail, All-weaker, All-filter}
use Rattle.std.proofs.lemmas.List.Folds.{list_any_at}
use Rattle.vme_arbiter.specs.Requests.{BusRequest, next_request, with_request, without_slot}
use Rattle.vme_arbiter.specs.Orderly.{IsBySlot}
use Rattle.vme_arbiter.proofs.Grants.{granted-pends}

-- whether a slot has one of these requests
abbrev pub has_slot : ℕ → List BusRequest → Bool
has_slot slot pending = list_any (λ r. eqb r.slot slot) pending

-- the first two of three alternatives in the other order
or_swap : (a b c : Bool) → (a || (b || c)) ≡ (b || (a || c))
or_swap true true c = refl
or_swap true false c = refl
or_swap false b c = refl

-- a slot has a request in an extended set if it had one or the new one is its own
pub has_slot-with : (slot : ℕ) (new : BusRequest) (pending : List BusRequest)
    → has_slot slot (with_request new pending) ≡ (eqb new.slot slot || has_slot slot pending)
has_slot-with slot new [] = refl
has_slot-with slot new (r ∷ pending) =
    elim (cases_Bool (ltb new.slot r.slot)) [
      | inl first ↦ rw first
      | inr later ↦
          rw later (ap (λ rest. eqb r.slot slot || rest) (has_slot-with slot new pending)
          ∙ or_swap (eqb r.slot slot) (eqb new.slot slot) (has_slot slot pending))
    ]

-- a slot has no request in a set without its requests
pub has_slot-without_same : (slot : ℕ) (pending : List BusRequest) → has_slot slot (without_slot slot pending) ≡ false
has_slot-without_same slot [] = refl
has_slot-without_same slot (r ∷ pending) =
    elim (cases_Bool (eqb r.slot slot)) [
      | inl same ↦ rw same (has_slot-without_same slot pending)
      | inr other ↦ rw other (or_from _ _ other (has_slot-without_same slot pending))
    ]

-- every other slot has the requests that it had
pub has_slot-without_other : (slot gone : ℕ) (pending : List BusRequest) → (slot ≡ gone → ⊥)
    → has_slot slot (without_slot gone pending) ≡ has_slot slot pending
has_slot-without_other slot gone [] other = refl
has_slot-without_other slot gone (r ∷ pending) other =
    elim (cases_Bool (eqb r.slot gone)) [
      | inl same ↦
          let not_slot : eqb r.slot slot ≡ false =
          ne_eqb r.slot slot (λ at. other (sym at ∙ eqb-true r.slot gone same)) in
          rw (same, not_slot) (has_slot-without_other slot gone pending other)
      | inr not_gone ↦ rw not_gone (ap (λ rest. eqb r.slot slot || rest) (has_slot-without_other slot gone pending other))
    ]

-- the request that is granted next is in the set
pub granted-has_slot : (levels : List ℕ) (pending : List BusRequest) (next : BusRequest) → next_request levels pending ≡ Some next
    → has_slot next.slot pending ≡ true
granted-has_slot levels pending next is_granted =
    let at = granted-pends levels pending next is_granted in
    list_any_at (λ r. eqb r.slot next.slot) pending at.0 next at.1 (eq-eqb _ _ (ap (λ r. r.slot) at.2))

-- a property of a set and of a new request holds of the extended set
pub All-with : (P : BusRequest → Type 0) (new : BusRequest) (pending : List BusRequest) → P new → All P pending
    → All P (with_request new pending)
All-with P new [] holds all = All-cons P new [] holds all
All-with P new (r ∷ pending) holds all =
    elim (cases_Bool (ltb new.slot r.slot)) [
      | inl first ↦ rw first (All-cons P new (r ∷ pending) holds all)
      | inr later ↦
          rw later (All-cons P r (with_request new pending) (All-head P r pending all)
          (All-with P new pending holds (All-tail P r pending all)))
    ]

-- a request of a slot that has none keeps the list sorted by slot
pub by_slot-with : (new : BusRequest) (pending : List BusRequest) → has_slot new.slot pending ≡ false → IsBySlot pending
    → IsBySlot (with_request new pending)
by_slot-with new [] none by_slot = (All-nil (λ later. new.slot < later.slot), tt)
by_slot-with new (r ∷ pending) none by_slot =
    let apart = or_parts (eqb r.slot new.slot) (has_slot new.slot pending) none in
    elim (cases_Bool (ltb new.slot r.slot)) [
      | inl first ↦
          let lower = ltb-true new.slot r.slot first in
          let lower_than_rest =
          All-weaker (λ later. r.slot < later.slot) (λ later. new.slot < later.slot) (λ later below. omega arith) pending by_slot.0 in
          rw first (All-cons (λ later. new.slot < later.slot) r pending lower lower_than_rest, by_slot)
      | inr later ↦
          let not_lower = ltb-false new.slot r.slot later in
          let not_same = eqb-false r.slot new.slot apart.0 in
          let greater : r.slot < new.slot = omega arith in
          rw later (All-with (λ l. r.slot < l.slot) new pending greater by_slot.0, by_slot-with new pending apart.1 by_slot.1)
    ]

-- a list without a slot's requests stays sorted by slot
pub by_slot-without : (gone : ℕ) (pending : List BusRequest) → IsBySlot pending → IsBySlot (without_slot gone pending)
by_slot-without gone [] by_slot = tt
by_slot-without gone (r ∷ pending) by_slot =
    elim (cases_Bool (eqb r.slot gone)) [
      | inl same ↦ rw same (by_slot-without gone pending by_slot.1)
      | inr other ↦
          rw other (All-filter _ (λ later. r.slot < later.slot) pending by_slot.0, by_slot-without gone pending by_slot.1)
    ]
