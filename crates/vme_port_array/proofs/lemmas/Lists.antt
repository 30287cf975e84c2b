-- Lists whose elements are looked up by index.
use Rattle.std.proofs.Common.{ℕ, zero, suc, ◌≡◌, ◌+◌, ◌<◌, ◌≤◌, inl, inr, Bool, true, false, List, [], ◌∷◌, ◌++◌, length, map, set, slice_index_or, refl, ap, sym, ◌∙◌, arith}
use Rattle.std.proofs.lemmas.Bool.{cases_eq}
use Rattle.std.proofs.lemmas.List.{get_or-set_same, get_or-set_other}
use Rattle.atomic_table.proofs.Lists.{at_last, at_longer}
use mathlib.Core.Option.{some, some-injective, some-ne-none}
use lib.ListN.{get_elem?}

-- an index at which there is an element is less than the length
pub found_within : {A : Type 0} (l : List A) (i : ℕ) (a : A) → get_elem? l i ≡ some a → i < length l
found_within [] i a at = absurd (some-ne-none a (sym at))
found_within (x ∷ xs) zero a at = omega arith
found_within (x ∷ xs) (suc i) a at = let less = found_within xs i a at in omega arith

-- there is an element at each index that is less than the length
pub there_is : {A : Type 0} (l : List A) (i : ℕ) → i < length l → (a : A) × (get_elem? l i ≡ some a)
there_is [] i less = absurd (omega arith)
there_is (x ∷ xs) zero less = (x, refl)
there_is (x ∷ xs) (suc i) less = there_is xs i (omega arith)

-- both ways to look an element up agree
pub get_at : {A : Type 0} (l : List A) (i : ℕ) (a d : A) → get_elem? l i ≡ some a → slice_index_or l i d ≡ a
get_at [] i a d there = absurd (some-ne-none a (sym there))
get_at (x ∷ xs) zero a d there = some-injective x a there
get_at (x ∷ xs) (suc i) a d there = get_at xs i a d there

-- in a list of full slots, each slot holds its element
pub at_home_first : {A : Type 0} (l : List A) (i : ℕ) (a : A) → get_elem? l i ≡ some a → get_elem? (map some l) i ≡ some (some a)
at_home_first [] i a there = absurd (some-ne-none a (sym there))
at_home_first (x ∷ xs) zero a there = ap (λ a. some a) there
at_home_first (x ∷ xs) (suc i) a there = at_home_first xs i a there

-- a list of length zero is empty
pub no_more : {A : Type 0} (l : List A) → length l ≡ 0 → l ≡ []
no_more [] none = refl
no_more (x ∷ l) none = absurd (omega arith)

module _ {A : Type 0} where
  -- the elements taken so far, followed by the next one, are those of the first slots
  pub taken_more : (homes slots : List A) (p : ℕ) (x : A) → length homes ≡ p → get_elem? slots p ≡ some x
      → ((k : ℕ) → k < p → get_elem? homes k ≡ get_elem? slots k) → (k : ℕ) → k < p + 1
      → get_elem? (homes ++ x ∷ []) k ≡ get_elem? slots k
  taken_more homes slots p x long there was k less = elim (cases_eq k p) [
    | inl same ↦ at_last homes x k (long ∙ sym same) ∙ sym there ∙ ap (get_elem? slots) (sym same)
    | inr other ↦
        let found = there_is homes k (omega arith) in
        at_longer homes (x ∷ []) k found.0 found.1 ∙ sym found.1 ∙ was k (omega arith)
  ]

-- when the next slot is emptied, all slots up to it are empty
pub emptied_more : (fs : List Bool) (p : ℕ) → p < length fs → ((k : ℕ) → k < p → slice_index_or fs k false ≡ false)
    → (k : ℕ) → k < p + 1 → slice_index_or (set fs p false) k false ≡ false
emptied_more fs p less was k below = elim (cases_eq k p) [
  | inl same ↦ ap (λ k. slice_index_or (set fs p false) k false) same ∙ get_or-set_same fs p false false less
  | inr other ↦ get_or-set_other fs p k false false other ∙ was k (omega arith)
]

-- when a slot is emptied, the later ones stay filled
pub filled_still : (fs : List Bool) (p n : ℕ) → ((k : ℕ) → p ≤ k → k < n → slice_index_or fs k false ≡ true)
    → (k : ℕ) → p + 1 ≤ k → k < n → slice_index_or (set fs p false) k false ≡ true
filled_still fs p n was k least below = get_or-set_other fs p k false false (λ same. omega arith) ∙ was k (omega arith) below
