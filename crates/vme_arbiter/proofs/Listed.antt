-- The requests of an array of levels.
use Rattle.std.proofs.Common.{◌≡◌, ◌≢◌, ℕ, ◌+◌, ◌<◌, zero, suc, Bool, true, false, List, [], ◌∷◌, set, Option, Some, None, ap, sym, ◌∙◌, refl, arith, eqb, ltb, subst, inl, inr, ◌⊎◌}
use Rattle.std.specs.Prelude.{slice_get, All, Contains, is_some, option_and_then}
use Rattle.std.specs.List.{list_any}
use Rattle.std.proofs.lemmas.Bool.{lt-ltb, le-ltb, ne_eqb, eq-eqb, or_left, or_right, cases_order}
use Rattle.std.proofs.lemmas.List.Elements.{All-nil, All-cons}
use Rattle.std.proofs.lemmas.List.Folds.{list_any_none}
use Rattle.vme_arbiter.specs.Levels.{level_precedes}
use Rattle.vme_arbiter.specs.Requests.{BusRequest, bus_request, next_request, with_request, without_slot, requests_from, requests_of}
use Rattle.vme_arbiter.specs.Grants.{IsBehind}
use Rattle.vme_arbiter.proofs.Grants.{next-granted}
use Rattle.vme_arbiter.proofs.Pending.{has_slot}

-- a test that passes on an entry of the array passes on some request
pub any_at : (test : BusRequest → Bool) (n k slot : ℕ) (levels : List (Option ℕ)) (level : ℕ) → slot ≡ n + k
    → slice_get levels k ≡ Some (Some level) → test (bus_request level slot) ≡ true → list_any test (requests_from n levels) ≡ true
any_at test n k slot [] level place there passes = cc
any_at test n zero slot (None ∷ levels) level place there passes = cc
any_at test n zero slot (Some l ∷ levels) level place there passes =
    let same : l ≡ level = cc in
    let at : slot ≡ n = omega arith in
    or_left _ _ (ap test (ap (λ x. bus_request x n) same ∙ ap (bus_request level) (sym at)) ∙ passes)
any_at test n (suc k) slot (None ∷ levels) level place there passes =
    any_at test (n + 1) k slot levels level (omega arith) there passes
any_at test n (suc k) slot (Some l ∷ levels) level place there passes =
    or_right _ _ (any_at test (n + 1) k slot levels level (omega arith) there passes)

-- a property of each entry of the array holds of each request
pub all_listed : (P : BusRequest → Type 0) (n : ℕ) (levels : List (Option ℕ))
    → ((k level : ℕ) → slice_get levels k ≡ Some (Some level) → P (bus_request level (n + k))) → All P (requests_from n levels)
all_listed P n [] each = All-nil P
all_listed P n (None ∷ levels) each =
    all_listed P (n + 1) levels (λ k level there. let at : n + suc k ≡ n + 1 + k = omega arith in
    subst (λ (slot : ℕ). P (bus_request level slot)) at (each (suc k) level there))
all_listed P n (Some l ∷ levels) each =
    let first : P (bus_request l n) = let at : n + 0 ≡ n = omega arith in subst (λ (slot : ℕ). P (bus_request l slot)) at (each 0 l refl) in
    All-cons P (bus_request l n) (requests_from (n + 1) levels) first
    (all_listed P (n + 1) levels (λ k level there. let at : n + suc k ≡ n + 1 + k = omega arith in
    subst (λ (slot : ℕ). P (bus_request level slot)) at (each (suc k) level there)))

-- a request of a lower slot than the rest is first in the list
with_request-first : (new : BusRequest) (n : ℕ) (levels : List (Option ℕ)) → new.slot < n
    → with_request new (requests_from n levels) ≡ new ∷ requests_from n levels
with_request-first new n [] low = refl
with_request-first new n (None ∷ levels) low = with_request-first new (n + 1) levels (omega arith)
with_request-first new n (Some l ∷ levels) low = rw (lt-ltb new.slot n low)

-- a level that is stored at an empty place adds a request
pub requests_from-set_some : (n k slot level : ℕ) (levels : List (Option ℕ)) → slot ≡ n + k
    → slice_get levels k ≡ Some None
    → requests_from n (set levels k (Some level)) ≡ with_request (bus_request level slot) (requests_from n levels)
requests_from-set_some n k slot level [] place empty = cc
requests_from-set_some n zero slot level (None ∷ levels) place empty =
    let at : slot ≡ n = omega arith in
    ap (λ x. bus_request level x ∷ requests_from (n + 1) levels) (sym at)
    ∙ sym (with_request-first (bus_request level slot) (n + 1) levels (omega arith))
requests_from-set_some n zero slot level (Some l ∷ levels) place empty = cc
requests_from-set_some n (suc k) slot level (None ∷ levels) place empty =
    requests_from-set_some (n + 1) k slot level levels (omega arith) empty
requests_from-set_some n (suc k) slot level (Some l ∷ levels) place empty =
    let later : ltb slot n ≡ false = le-ltb slot n (omega arith) in
    rw later (ap (λ rest. bus_request l n ∷ rest) (requests_from-set_some (n + 1) k slot level levels (omega arith) empty))

-- a list of greater slots is unchanged without a slot
without_slot-low : (slot n : ℕ) (levels : List (Option ℕ)) → slot < n
    → without_slot slot (requests_from n levels) ≡ requests_from n levels
without_slot-low slot n [] low = refl
without_slot-low slot n (None ∷ levels) low = without_slot-low slot (n + 1) levels (omega arith)
without_slot-low slot n (Some l ∷ levels) low =
    let other : eqb n slot ≡ false = ne_eqb n slot (λ same. absurd (omega arith)) in
    rw other (ap (λ rest. bus_request l n ∷ rest) (without_slot-low slot (n + 1) levels (omega arith)))

-- a place that is emptied removes only its slot's request
pub requests_from-set_none : (n k slot : ℕ) (levels : List (Option ℕ)) → slot ≡ n + k
    → requests_from n (set levels k None) ≡ without_slot slot (requests_from n levels)
requests_from-set_none n k slot [] place = refl
requests_from-set_none n zero slot (None ∷ levels) place = sym (without_slot-low slot (n + 1) levels (omega arith))
requests_from-set_none n zero slot (Some l ∷ levels) place =
    let same : eqb n slot ≡ true = eq-eqb n slot (omega arith) in
    rw same (sym (without_slot-low slot (n + 1) levels (omega arith)))
requests_from-set_none n (suc k) slot (None ∷ levels) place = requests_from-set_none (n + 1) k slot levels (omega arith)
requests_from-set_none n (suc k) slot (Some l ∷ levels) place =
    let other : eqb n slot ≡ false = ne_eqb n slot (λ same. absurd (omega arith)) in
    rw other (ap (λ rest. bus_request l n ∷ rest) (requests_from-set_none (n + 1) k slot levels (omega arith)))

-- a slot has a pending request if its place has a level
pending_at : (slot level : ℕ) (levels : List (Option ℕ)) → slice_get levels slot ≡ Some (Some level)
    → has_slot slot (requests_of levels) ≡ true
pending_at slot level levels there =
    any_at (λ r. eqb r.slot slot) 0 slot slot levels level (omega arith) there (eq-eqb slot slot refl)

-- a slot has no pending request if its place has no level
pending_not : (slot : ℕ) (levels : List (Option ℕ)) → ((level : ℕ) → slice_get levels slot ≢ Some (Some level))
    → has_slot slot (requests_of levels) ≡ false
pending_not slot levels none =
    list_any_none (λ r. eqb r.slot slot) (requests_of levels)
    (all_listed (λ r. eqb r.slot slot ≡ false) 0 levels (λ k level there. ne_eqb (0 + k) slot (λ at.
    let same : k ≡ slot = omega arith in none level (ap (slice_get levels) (sym same) ∙ there))))

-- whether a slot has a pending request, by what its place has
pending_by : (slot : ℕ) (levels : List (Option ℕ)) (place : Option (Option ℕ)) → slice_get levels slot ≡ place
    → has_slot slot (requests_of levels) ≡ is_some (option_and_then (λ level. level) place)
pending_by slot levels None at = pending_not slot levels (λ level there. let not_there = sym at ∙ there in cc)
pending_by slot levels (Some None) at = pending_not slot levels (λ level there. let not_there = sym at ∙ there in cc)
pending_by slot levels (Some (Some level)) at = pending_at slot level levels at

-- the place of a slot shows whether its request is pending
pub pends-listed : (slot : ℕ) (levels : List (Option ℕ))
    → has_slot slot (requests_of levels) ≡ is_some (option_and_then (λ level. level) (slice_get levels slot))
pends-listed slot levels = pending_by slot levels (slice_get levels slot) refl

-- a request of the array is in the list
pub contains_listed : (n k slot level : ℕ) (levels : List (Option ℕ)) → slot ≡ n + k → slice_get levels k ≡ Some (Some level)
    → Contains (requests_from n levels) (bus_request level slot)
contains_listed n k slot level [] place there = cc
contains_listed n zero slot level (None ∷ levels) place there = cc
contains_listed n zero slot level (Some l ∷ levels) place there =
    let same : l ≡ level = cc in
    let at : n ≡ slot = omega arith in
    (0, omega arith, ap (λ x. bus_request x n) same ∙ ap (bus_request level) at)
contains_listed n (suc k) slot level (None ∷ levels) place there = contains_listed (n + 1) k slot level levels (omega arith) there
contains_listed n (suc k) slot level (Some l ∷ levels) place there =
    let rest = contains_listed (n + 1) k slot level levels (omega arith) there in
    (suc rest.0, omega (arith, rest.1), rest.2)

-- the next request in the array: it exists, no lower slot is on its level, and every other level with a request follows
-- its own
pub record IsFirstListed (levels : List ℕ) (places : List (Option ℕ)) (slot level : ℕ) : Type 0 where
  pub there : slice_get places slot ≡ Some (Some level)
  pub lowest : (k : ℕ) → k < slot → slice_get places k ≢ Some (Some level)
  pub earliest : (k l : ℕ) → slice_get places k ≡ Some (Some l) → (l ≡ level) ⊎ (level_precedes levels level l ≡ true)

-- the lowest slot on the first level of the order is granted next
pub granted-listed : (levels : List ℕ) (slot level : ℕ) (places : List (Option ℕ)) → IsFirstListed levels places slot level
    → next_request levels (requests_of places) ≡ Some (bus_request level slot)
granted-listed levels slot level places is =
    let P : BusRequest → Type 0 = IsBehind levels (bus_request level slot) in
    next-granted levels (requests_of places) (bus_request level slot)
    (record {
      pends = contains_listed 0 slot slot level places (omega arith) is.there;
      first = all_listed P 0 places (λ k l at_k.
          let behind : P (bus_request l k) =
          elim (is.earliest k l at_k) [
            | inl same ↦
                elim (cases_order k slot) [
                  | inl at ↦ inl (ap (λ x. bus_request x k) same ∙ ap (bus_request level) at)
                  | inr (inl lower) ↦ absurd (is.lowest k lower (at_k ∙ ap (λ x. Some (Some x)) same))
                  | inr (inr greater) ↦ inr (inr (same, greater))
                ]
            | inr before ↦ inr (inl before)
          ] in
          let at : k ≡ 0 + k = omega arith in
          subst (λ (x : ℕ). P (bus_request l x)) at behind);
    })

-- if the array is empty, no request is pending
nothing_listed : (n : ℕ) (levels : List (Option ℕ)) → ((k l : ℕ) → slice_get levels k ≢ Some (Some l)) → requests_from n levels ≡ []
nothing_listed n [] none = refl
nothing_listed n (None ∷ levels) none = nothing_listed (n + 1) levels (λ k. none (suc k))
nothing_listed n (Some l ∷ levels) none = absurd (none 0 l refl)

-- if the array is empty, no request is granted next
pub none-listed : (levels : List ℕ) (places : List (Option ℕ)) → ((k l : ℕ) → slice_get places k ≢ Some (Some l))
    → next_request levels (requests_of places) ≡ None
none-listed levels places none = ap (next_request levels) (nothing_listed 0 places none)
