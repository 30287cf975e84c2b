-- A list of requests that is sorted by slot is a set.
use Rattle.std.proofs.Common.{◌≡◌, ◌≢◌, ℕ, ◌<◌, zero, suc, List, [], ◌∷◌, ap, subst, sym, ◌∙◌, refl, arith, eqb, ltb, inl, inr, ◌⊎◌}
use Rattle.std.specs.Prelude.{Contains, ◌↔◌}
use Rattle.std.proofs.lemmas.Bool.{cases_Bool, eqb-true, eqb-false}
use Rattle.std.proofs.lemmas.List.Elements.{All-contains}
use Rattle.vme_arbiter.specs.Requests.{BusRequest, with_request, without_slot}
use Rattle.vme_arbiter.specs.Orderly.{IsBySlot}

-- the first element of a list is in the list
contains_first : (x r : BusRequest) (xs : List BusRequest) → x ≡ r → Contains (x ∷ xs) r
contains_first x r xs same = (0, omega arith, same)

-- an element of the rest of a list is in the list
contains_later : (x r : BusRequest) (xs : List BusRequest) → Contains xs r → Contains (x ∷ xs) r
contains_later x r xs later = (suc later.0, omega (arith, later.1), later.2)

-- an element of a list is the first one or one of the rest
pub contains_parts : (x r : BusRequest) (xs : List BusRequest) → Contains (x ∷ xs) r → (x ≡ r) ⊎ Contains xs r
contains_parts x r xs (zero, within, at) = inl at
contains_parts x r xs (suc k, within, at) = inr (k, omega (arith, within), at)

-- a set with one more request has that request and all others
pub with-contains : (new r : BusRequest) (pending : List BusRequest) → (r ≡ new) ⊎ Contains pending r → Contains (with_request new pending) r
with-contains new r [] (inl same) = contains_first new r [] (sym same)
with-contains new r [] (inr there) = contains_later new r [] there
with-contains new r (x ∷ pending) member =
    elim (cases_Bool (ltb new.slot x.slot)) [
      | inl first ↦
          rw first (elim member [
            | inl same ↦ contains_first new r (x ∷ pending) (sym same)
            | inr there ↦ contains_later new r (x ∷ pending) there
          ])
      | inr later ↦
          rw later (elim member [
            | inl same ↦ contains_later x r (with_request new pending) (with-contains new r pending (inl same))
            | inr there ↦
                elim (contains_parts x r pending there) [
                  | inl at ↦ contains_first x r (with_request new pending) at
                  | inr rest ↦ contains_later x r (with_request new pending) (with-contains new r pending (inr rest))
                ]
          ])
    ]

-- a request of a set with one more request is that request or one of the set
pub contains-with : (new r : BusRequest) (pending : List BusRequest) → Contains (with_request new pending) r → (r ≡ new) ⊎ Contains pending r
contains-with new r [] member =
    elim (contains_parts new r [] member) [ inl same ↦ inl (sym same) | inr there ↦ inr there ]
contains-with new r (x ∷ pending) member =
    elim (cases_Bool (ltb new.slot x.slot)) [
      | inl first ↦
          elim (contains_parts new r (x ∷ pending) (rw first at member)) [ inl same ↦ inl (sym same) | inr there ↦ inr there ]
      | inr later ↦
          elim (contains_parts x r (with_request new pending) (rw later at member)) [
            | inl at ↦ inr (contains_first x r pending at)
            | inr rest ↦
                elim (contains-with new r pending rest) [ inl same ↦ inl same | inr there ↦ inr (contains_later x r pending there) ]
          ]
    ]

-- a set without a slot's requests has all others
pub without-contains : (slot : ℕ) (r : BusRequest) (pending : List BusRequest) → Contains pending r → r.slot ≢ slot
    → Contains (without_slot slot pending) r
without-contains slot r [] there other = there
without-contains slot r (x ∷ pending) there other =
    elim (cases_Bool (eqb x.slot slot)) [
      | inl gone ↦
          rw gone (elim (contains_parts x r pending there) [
            | inl at ↦ absurd (other (ap (λ (q : BusRequest). q.slot) (sym at) ∙ eqb-true x.slot slot gone))
            | inr rest ↦ without-contains slot r pending rest other
          ])
      | inr kept ↦
          rw kept (elim (contains_parts x r pending there) [
            | inl at ↦ contains_first x r (without_slot slot pending) at
            | inr rest ↦ contains_later x r (without_slot slot pending) (without-contains slot r pending rest other)
          ])
    ]

-- a request of a set without a slot's requests is one of the set and of another slot
pub contains-without : (slot : ℕ) (r : BusRequest) (pending : List BusRequest) → Contains (without_slot slot pending) r
    → Contains pending r × (r.slot ≢ slot)
contains-without slot r [] member = absurd (omega (arith, member.1))
contains-without slot r (x ∷ pending) member =
    elim (cases_Bool (eqb x.slot slot)) [
      | inl gone ↦
          let rest = contains-without slot r pending (rw gone at member) in (contains_later x r pending rest.0, rest.1)
      | inr kept ↦
          elim (contains_parts x r (without_slot slot pending) (rw kept at member)) [
            | inl at ↦
                (contains_first x r pending at, λ same. eqb-false x.slot slot kept (ap (λ (q : BusRequest). q.slot) at ∙ same))
            | inr later ↦ let rest = contains-without slot r pending later in (contains_later x r pending rest.0, rest.1)
          ]
    ]

-- two lists sorted by slot with the same elements have the same first element
same_first : (x y : BusRequest) (xs ys : List BusRequest) → IsBySlot (x ∷ xs) → IsBySlot (y ∷ ys) → Contains (y ∷ ys) x
    → Contains (x ∷ xs) y → x ≡ y
same_first x y xs ys by_x by_y x_in y_in =
    elim (contains_parts y x ys x_in) [
      | inl same ↦ sym same
      | inr x_later ↦
          elim (contains_parts x y xs y_in) [
            | inl same ↦ same
            | inr y_later ↦
                let below = All-contains (λ later. x.slot < later.slot) xs y by_x.0 y_later in
                let above = All-contains (λ later. y.slot < later.slot) ys x by_y.0 x_later in
                absurd (omega (arith, below, above))
          ]
    ]

-- the elements in the rest of one list are those in the rest of the other
rest_in_rest : (x r : BusRequest) (xs ys : List BusRequest) → IsBySlot (x ∷ xs) → (Contains (x ∷ xs) r → Contains (x ∷ ys) r)
    → Contains xs r → Contains ys r
rest_in_rest x r xs ys by_x goes later =
    elim (contains_parts x r ys (goes (contains_later x r xs later))) [
      | inl same ↦
          let below = All-contains (λ later. x.slot < later.slot) xs r by_x.0 later in
          let at = ap (λ (q : BusRequest). q.slot) same in
          absurd (omega (arith, below, at))
      | inr rest ↦ rest
    ]

-- two lists sorted by slot with the same elements are equal
pub same_list : (a b : List BusRequest) → IsBySlot a → IsBySlot b → ((r : BusRequest) → Contains a r ↔ Contains b r) → a ≡ b
same_list [] [] by_a by_b same = refl
same_list [] (y ∷ ys) by_a by_b same = absurd (omega (arith, ((same y).1 (contains_first y y ys refl)).1))
same_list (x ∷ xs) [] by_a by_b same = absurd (omega (arith, ((same x).0 (contains_first x x xs refl)).1))
same_list (x ∷ xs) (y ∷ ys) by_a by_b same =
    let first : x ≡ y =
    same_first x y xs ys by_a by_b ((same x).0 (contains_first x x xs refl)) ((same y).1 (contains_first y y ys refl)) in
    let to : (r : BusRequest) → Contains (x ∷ xs) r → Contains (x ∷ ys) r =
    λ r there. subst (λ (q : BusRequest). Contains (q ∷ ys) r) (sym first) ((same r).0 there) in
    let fro : (r : BusRequest) → Contains (x ∷ ys) r → Contains (x ∷ xs) r =
    λ r there. (same r).1 (subst (λ (q : BusRequest). Contains (q ∷ ys) r) first there) in
    let by_y : IsBySlot (x ∷ ys) = subst (λ (q : BusRequest). IsBySlot (q ∷ ys)) (sym first) by_b in
    let rest = same_list xs ys by_a.1 by_b.1 (λ r.
    (rest_in_rest x r xs ys by_a (to r), rest_in_rest x r ys xs by_y (fro r))) in
    ap (λ q. q ∷ xs) first ∙ ap (λ l. y ∷ l) rest
