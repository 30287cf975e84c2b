-- The request that is granted next is the one that precedes all others.
use Rattle.std.proofs.Common.{◌≡◌, ℕ, ◌<◌, zero, suc, Bool, true, false, not, List, [], ◌∷◌, length, Some, None, ap, sym, ◌∙◌, refl, arith, inl, inr, get_or, find, subst}
use Rattle.std.specs.Prelude.{All, Contains, ◌⊎◌}
use Rattle.std.specs.List.{list_any}
use Rattle.std.proofs.lemmas.Bool.{lt-ltb, le-ltb, ltb-true, eqb-true, ne_eqb, eq-eqb, or_left, or_right, or_cases, or_parts, or_from, and_from, and_parts, and_left, and_right, not-true, cases_Bool, cases_order, not_from_true, not_from_false, false≢true}
use Rattle.std.proofs.lemmas.Option.{same_Some}
use Rattle.std.proofs.lemmas.List.Elements.{All-nil, All-cons, All-head, All-tail, All-weaker, All-contains}
use Rattle.std.proofs.lemmas.List.Folds.{list_any_at, list_any_none}
use Rattle.vme_arbiter.specs.Levels.{level_order, level_precedes}
use Rattle.vme_arbiter.specs.Requests.{BusRequest, request_precedes, next_request, is_level}
use Rattle.vme_arbiter.specs.Grants.{IsBehind, IsNext}
use Rattle.vme_arbiter.proofs.Orders.{before-irreflexive, before-transitive, before-asymmetric, before-apart, before-total}

-- requests with one level and one slot are equal
pub same_request : (a b : BusRequest) → a.level ≡ b.level → a.slot ≡ b.slot → a ≡ b
same_request a b level slot = λ i. record { level = level i; slot = slot i }

-- the two ways in which a request precedes another
before-cases : (levels : List ℕ) (a b : BusRequest) → request_precedes levels a b ≡ true
    → (level_precedes levels a.level b.level ≡ true) ⊎ ((a.level ≡ b.level) × (a.slot < b.slot))
before-cases levels a b before =
    elim (or_cases _ _ before) [
      | inl greater ↦ inl greater
      | inr both ↦ let parts = and_parts _ _ both in inr (eqb-true a.level b.level parts.0, ltb-true a.slot b.slot parts.1)
    ]

-- on one level, a request of a lower slot precedes one of a greater slot
lower-before : (levels : List ℕ) (a b : BusRequest) → a.level ≡ b.level → a.slot < b.slot → request_precedes levels a b ≡ true
lower-before levels a b level slot = or_right _ _ (and_from _ _ (eq-eqb a.level b.level level) (lt-ltb a.slot b.slot slot))

-- a level does not precede itself
not_before_same : (levels : List ℕ) (a b : ℕ) → a ≡ b → level_precedes levels a b ≡ false
not_before_same levels a b same = ap (λ l. level_precedes levels l b) same ∙ before-irreflexive levels b

-- a request behind another does not precede it
behind-not_before : (levels : List ℕ) (next other : BusRequest) → IsBehind levels next other → request_precedes levels other next ≡ false
behind-not_before levels next other (inl same) =
    or_from _ _ (not_before_same levels other.level next.level (ap (λ r. r.level) same))
    (and_right _ _ (let at = ap (λ (r : BusRequest). r.slot) same in le-ltb other.slot next.slot (omega arith)))
behind-not_before levels next other (inr (inl later)) =
    or_from _ _ (before-asymmetric levels next.level other.level later)
    (and_left _ _ (ne_eqb other.level next.level (λ same. before-apart levels next.level other.level later (sym same))))
behind-not_before levels next other (inr (inr greater)) =
    or_from _ _ (not_before_same levels other.level next.level greater.0)
    (and_right _ _ (le-ltb other.slot next.slot (omega (arith, greater.1))))

-- a request behind the next one is that one, or the next one precedes it
behind-before : (levels : List ℕ) (next other : BusRequest) → IsBehind levels next other
    → (other ≡ next) ⊎ (request_precedes levels next other ≡ true)
behind-before levels next other (inl same) = inl same
behind-before levels next other (inr (inl later)) = inr (or_left _ _ later)
behind-before levels next other (inr (inr greater)) = inr (lower-before levels next other (sym greater.0) greater.1)

-- a request that does not precede another is behind it
not_before-behind : (first : ℕ) (next other : BusRequest) → first < 4 → is_level next.level ≡ true → is_level other.level ≡ true
    → request_precedes (level_order first) other next ≡ false → IsBehind (level_order first) next other
not_before-behind first next other first< next_ok other_ok not_before =
    let apart = or_parts _ _ not_before in
    elim (before-total first other.level next.level first< (ltb-true other.level 4 other_ok) (ltb-true next.level 4 next_ok)) [
      | inr (inl before) ↦ absurd (false≢true (sym apart.0 ∙ before))
      | inr (inr later) ↦ inr (inl later)
      | inl level ↦
          elim (cases_order other.slot next.slot) [
            | inl slot ↦ inl (same_request other next level slot)
            | inr (inl lower) ↦ absurd (false≢true (sym not_before ∙ lower-before (level_order first) other next level lower))
            | inr (inr greater) ↦ inr (inr (level, greater))
          ]
    ]

-- a request behind another is behind each request that precedes it
behind-later : (levels : List ℕ) (next other first : BusRequest) → IsBehind levels next other → request_precedes levels first next ≡ true
    → IsBehind levels first other
behind-later levels next other first behind before =
    elim behind [
      | inl same ↦
          elim (before-cases levels first next before) [
            | inl earlier ↦
                inr (inl (subst (λ (r : BusRequest). level_precedes levels first.level r.level ≡ true) (sym same) earlier))
            | inr lower ↦
                inr (inr (ap (λ r. r.level) same ∙ sym lower.0, subst (λ (r : BusRequest). first.slot < r.slot) (sym same) lower.1))
          ]
      | inr (inl later) ↦
          elim (before-cases levels first next before) [
            | inl earlier ↦ inr (inl (before-transitive levels first.level next.level other.level earlier later))
            | inr same ↦ inr (inl (ap (λ l. level_precedes levels l other.level) same.0 ∙ later))
          ]
      | inr (inr later) ↦
          elim (before-cases levels first next before) [
            | inl earlier ↦ inr (inl (ap (level_precedes levels first.level) later.0 ∙ earlier))
            | inr lower ↦ inr (inr (later.0 ∙ sym lower.0, omega (arith, lower.1, later.1)))
          ]
    ]

-- if no element passes a test, each one fails it
each_fails : (test : BusRequest → Bool) (xs : List BusRequest) → list_any test xs ≡ false → All (λ x. test x ≡ false) xs
each_fails test [] none = All-nil (λ x. test x ≡ false)
each_fails test (x ∷ xs) none =
    let parts = or_parts (test x) (list_any test xs) none in
    All-cons (λ y. test y ≡ false) x xs parts.0 (each_fails test xs parts.1)

-- an element that passes is found if no other passes
find-sole : (test : BusRequest → Bool) (xs : List BusRequest) (next : BusRequest) (k : ℕ) → k < length xs → get_or xs k next ≡ next
    → test next ≡ true → All (λ x. test x ≡ true → x ≡ next) xs → find test xs ≡ Some next
find-sole test [] next k within at passes sole = absurd (omega arith)
find-sole test (x ∷ xs) next zero within at passes sole =
    let first : test x ≡ true = ap test at ∙ passes in
    rw first (ap (λ r. Some r) at)
find-sole test (x ∷ xs) next (suc k) within at passes sole =
    elim (cases_Bool (test x)) [
      | inl first ↦ rw first (ap (λ r. Some r) (All-head (λ y. test y ≡ true → y ≡ next) x xs sole first))
      | inr fails ↦
          rw fails (find-sole test xs next k (omega arith) at passes (All-tail (λ y. test y ≡ true → y ≡ next) x xs sole))
    ]

-- the element that is found is in the list and passes
find-found : (test : BusRequest → Bool) (xs : List BusRequest) (next : BusRequest) → find test xs ≡ Some next
    → Contains xs next × (test next ≡ true)
find-found test [] next found = cc
find-found test (x ∷ xs) next found =
    elim (cases_Bool (test x)) [
      | inl first ↦
          let same : x ≡ next = same_Some x next (rw first at found) in
          ((0, omega arith, same), ap test (sym same) ∙ first)
      | inr fails ↦
          let rest = find-found test xs next (rw fails at found) in
          ((suc rest.0.0, omega (arith, rest.0.1), rest.0.2), rest.1)
    ]

-- if no request of a list precedes a request, each is behind it
behind_all : (first : ℕ) (next : BusRequest) (xs : List BusRequest) → first < 4 → is_level next.level ≡ true
    → All (λ r. is_level r.level ≡ true) xs → All (λ x. request_precedes (level_order first) x next ≡ false) xs
    → All (IsBehind (level_order first) next) xs
behind_all first next [] first< next_ok levels_ok fails = All-nil (IsBehind (level_order first) next)
behind_all first next (x ∷ xs) first< next_ok levels_ok fails =
    let P : BusRequest → Type 0 = λ r. is_level r.level ≡ true in
    let F : BusRequest → Type 0 = λ r. request_precedes (level_order first) r next ≡ false in
    All-cons (IsBehind (level_order first) next) x xs
    (not_before-behind first next x first< next_ok (All-head P x xs levels_ok) (All-head F x xs fails))
    (behind_all first next xs first< next_ok (All-tail P x xs levels_ok) (All-tail F x xs fails))

-- the request that precedes all others is granted next
pub next-granted : (levels : List ℕ) (pending : List BusRequest) (next : BusRequest) → IsNext levels pending next
    → next_request levels pending ≡ Some next
next-granted levels pending next is_next =
    let test = λ (r : BusRequest). not (list_any (λ other. request_precedes levels other r) pending) in
    let none = list_any_none (λ other. request_precedes levels other next) pending
    (All-weaker (IsBehind levels next) (λ other. request_precedes levels other next ≡ false) (behind-not_before levels next) pending is_next.first) in
    find-sole test pending next is_next.pends.0 is_next.pends.1 is_next.pends.2 (not_from_false _ none)
    (All-weaker (IsBehind levels next) (λ x. test x ≡ true → x ≡ next)
    (λ x behind passes. elim (behind-before levels next x behind) [
      | inl same ↦ same
      | inr before ↦
          let one = list_any_at (λ other. request_precedes levels other x) pending is_next.pends.0 next is_next.pends.1
          (ap (λ r. request_precedes levels r x) is_next.pends.2 ∙ before) in
          absurd (false≢true (sym (not_from_true _ one) ∙ passes))
    ]) pending is_next.first)

-- the request that is granted next is in the set
pub granted-pends : (levels : List ℕ) (pending : List BusRequest) (next : BusRequest) → next_request levels pending ≡ Some next
    → Contains pending next
granted-pends levels pending next is_granted =
    (find-found (λ (r : BusRequest). not (list_any (λ other. request_precedes levels other r) pending)) pending next is_granted).0

-- the request that is granted next precedes all others
pub granted-next : (first : ℕ) (pending : List BusRequest) (next : BusRequest) → is_level first ≡ true
    → All (λ r. is_level r.level ≡ true) pending → next_request (level_order first) pending ≡ Some next
    → IsNext (level_order first) pending next
granted-next first pending next first_ok levels_ok is_granted =
    let levels = level_order first in
    let test = λ (r : BusRequest). not (list_any (λ other. request_precedes levels other r) pending) in
    let found = find-found test pending next is_granted in
    let next_ok = All-contains (λ r. is_level r.level ≡ true) pending next levels_ok found.0 in
    let fails = each_fails (λ other. request_precedes levels other next) pending (not-true _ found.1) in
    record { pends = found.0; first = behind_all first next pending (ltb-true first 4 first_ok) next_ok levels_ok fails }

-- a set that is not empty has a request that precedes all others
some_next : (first : ℕ) (r : BusRequest) (pending : List BusRequest) → is_level first ≡ true
    → All (λ r. is_level r.level ≡ true) (r ∷ pending) → (next : BusRequest) × IsNext (level_order first) (r ∷ pending) next
some_next first r [] first_ok levels_ok =
    let levels = level_order first in (
      r,
      record {
        pends = (0, omega arith, refl);
        first = All-cons (IsBehind levels r) r [] (inl refl) (All-nil (IsBehind levels r));
      },
    )
some_next first r (s ∷ pending) first_ok levels_ok =
    let levels = level_order first in
    let P : BusRequest → Type 0 = λ r. is_level r.level ≡ true in
    let rest = some_next first s pending first_ok (All-tail P r (s ∷ pending) levels_ok) in
    let rest_ok = All-contains P (s ∷ pending) rest.0 (All-tail P r (s ∷ pending) levels_ok) rest.1.pends in
    elim (cases_Bool (request_precedes levels r rest.0)) [
      | inl before ↦ (
        r,
        record {
          pends = (0, omega arith, refl);
          first =
              All-cons (IsBehind levels r) r (s ∷ pending) (inl refl)
              (All-weaker (IsBehind levels rest.0) (IsBehind levels r) (λ x behind. behind-later levels rest.0 x r behind before) (s ∷ pending)
              rest.1.first);
        },
      )
      | inr not_before ↦ (
        rest.0,
        record {
          pends = (suc rest.1.pends.0, omega (arith, rest.1.pends.1), rest.1.pends.2);
          first = All-cons (IsBehind levels rest.0) r (s ∷ pending)
              (not_before-behind first rest.0 r (ltb-true first 4 first_ok) rest_ok (All-head P r (s ∷ pending) levels_ok) not_before)
              rest.1.first;
        },
      )
    ]

-- if no request is granted next, none is pending
pub none-granted : (first : ℕ) (pending : List BusRequest) → is_level first ≡ true → All (λ r. is_level r.level ≡ true) pending
    → next_request (level_order first) pending ≡ None → pending ≡ []
none-granted first [] first_ok levels_ok none = refl
none-granted first (r ∷ pending) first_ok levels_ok none =
    let rest = some_next first r pending first_ok levels_ok in
    let one = next-granted (level_order first) (r ∷ pending) rest.0 rest.1 in
    cc

-- two requests that are granted next are equal
pub next-sole : (levels : List ℕ) (pending : List BusRequest) (a b : BusRequest) → IsNext levels pending a → IsNext levels pending b → a ≡ b
next-sole levels pending a b next_a next_b =
    same_Some a b (sym (next-granted levels pending a next_a) ∙ next-granted levels pending b next_b)
