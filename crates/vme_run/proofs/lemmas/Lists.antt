-- Lists by their elements: writes, images, lists with equal elements, and the values of a function.
use Rattle.std.proofs.Common.{◌≡◌, ◌≢◌, ℕ, zero, suc, ◌+◌, ◌<◌, List, [], ◌∷◌, length, map, slice_index_or, Some, All, refl, ap, sym, subst, ◌∙◌, arith, inl, inr}
use Rattle.std.specs.Prelude.{slice_get, slice_set, option_map}
use Rattle.std.proofs.lemmas.List.{length-set, get_or-set_same, get_or-set_other}
use Rattle.std.proofs.lemmas.List.Elements.{All-nil, All-cons}
use Rattle.std.proofs.lemmas.Option.{same_Some, slice_get-map, slice_get_within, slice_get-get_or, slice_get_past, slice_get_cases, get_or_from_slice_get}
use Rattle.vme_object.specs.Each.{Each, AllAt}

-- there is an element at an index within
pub element_at : {X : Type 0} (xs : List X) (i : ℕ) → i < length xs → (x : X) × (slice_get xs i ≡ Some x)
element_at xs i less = elim (slice_get_cases xs i).1 [
  | inl at ↦ (at.0, at.2)
  | inr past ↦ absurd (omega (arith, past.0))
]

-- an element that was written is read at its index
pub set_here : {X : Type 0} (xs : List X) (i : ℕ) (new : X) → i < length xs → slice_get (slice_set xs i new) i ≡ Some new
set_here xs i new less =
    slice_get-get_or (slice_set xs i new) i new (subst (λ n. i < n) (sym (length-set xs i new)) less)
    ∙ ap Some (get_or-set_same xs i new new less)

-- a write leaves the other elements unchanged
pub set_elsewhere : {X : Type 0} (xs : List X) (i j : ℕ) (new : X) → i ≢ j → slice_get (slice_set xs i new) j ≡ slice_get xs j
set_elsewhere xs i j new apart = elim (slice_get_cases xs j).1 [
  | inl at ↦
      slice_get-get_or (slice_set xs i new) j at.0 (subst (λ n. j < n) (sym (length-set xs i new)) at.1)
      ∙ ap Some (get_or-set_other xs i j new at.0 (λ same. apart (sym same)) ∙ at.3) ∙ sym at.2
  | inr past ↦ slice_get_past (slice_set xs i new) j (omega (arith, past.0, length-set xs i new)) ∙ sym past.1
]

-- an element of a list has its image at the same index
pub map_at : {X Y : Type 0} (f : X → Y) (xs : List X) (i : ℕ) (x : X) → slice_get xs i ≡ Some x
    → slice_get (map f xs) i ≡ Some (f x)
map_at f xs i x found = slice_get-map f xs i ∙ ap (option_map f) found

-- lists of one length with the same elements are equal
pub same_elements : {X : Type 0} (xs ys : List X) → length xs ≡ length ys
    → ((i : ℕ) → i < length ys → slice_get xs i ≡ slice_get ys i) → xs ≡ ys
same_elements [] [] count each = refl
same_elements [] (y ∷ ys) count each = absurd (omega arith)
same_elements (x ∷ xs) [] count each = absurd (omega arith)
same_elements (x ∷ xs) (y ∷ ys) count each =
    let first : x ≡ y = same_Some x y (each 0 (omega arith)) in
    let rest : xs ≡ ys = same_elements xs ys (omega arith) (λ i less. each (suc i) (omega arith)) in
    λ k. first k ∷ rest k

-- the elements of related lists at one index are related
pub related_at : {A B : Type 0} (P : ℕ → A → B → Type 0) (xs : List A) (ys : List B) (i : ℕ) (x : A) (y : B) → AllAt P xs ys
    → slice_get xs i ≡ Some x → slice_get ys i ≡ Some y → P i x y
related_at P xs ys i x y all found found' =
    subst (λ x. P i x y) (get_or_from_slice_get xs i x x found)
    (subst (λ y. P i (slice_index_or xs i x) y) (get_or_from_slice_get ys i y y found') (all.each i x y (slice_get_within xs i x found)))

-- the n values of a function from i on
abbrev pub values : {A : Type 0} → (ℕ → A) → ℕ → ℕ → List A
values f i zero = []
values f i (suc n) = f i ∷ values f (suc i) n

-- n values are n elements
pub values_count : {A : Type 0} (f : ℕ → A) (i n : ℕ) → length (values f i n) ≡ n
values_count f i zero = refl
values_count f i (suc n) = ap suc (values_count f (suc i) n)

-- the value at an index
values_at : {A : Type 0} (f : ℕ → A) (i n k : ℕ) (d : A) → k < n → slice_index_or (values f i n) k d ≡ f (i + k)
values_at f i zero k d less = absurd (omega arith)
values_at f i (suc n) zero d less = let same : i ≡ i + 0 = omega arith in ap f same
values_at f i (suc n) (suc k) d less =
    let same : suc i + k ≡ i + suc k = omega arith in
    values_at f (suc i) n k d (omega arith) ∙ ap f same

-- the value at an index of the values from 0 on
values_first : {A : Type 0} (f : ℕ → A) (n k : ℕ) (d : A) → k < n → slice_index_or (values f 0 n) k d ≡ f k
values_first f n k d less = let same : 0 + k ≡ k = omega arith in values_at f 0 n k d less ∙ ap f same

-- the images of values are the values of the composition
pub values_map : {A B : Type 0} (g : A → B) (f : ℕ → A) (i n : ℕ) → map g (values f i n) ≡ values (λ k. g (f k)) i n
values_map g f i zero = refl
values_map g f i (suc n) = ap (λ l. g (f i) ∷ l) (values_map g f (suc i) n)

-- a fact of each index and its value is one of each element and its index
pub each_value : {A : Type 0} (P : ℕ → A → Type 0) (f : ℕ → A) (n : ℕ) → ((k : ℕ) → k < n → P k (f k)) → Each P (values f 0 n)
each_value P f n each k d less =
    let below : k < n = subst (λ m. k < m) (values_count f 0 n) less in
    subst (P k) (sym (values_first f n k d below)) (each k below)

-- a fact of all values of a function is one of n of them
pub all_values : {A : Type 0} (P : A → Type 0) (f : ℕ → A) (i n : ℕ) → ((k : ℕ) → P (f k)) → All P (values f i n)
all_values P f i zero each = All-nil P
all_values P f i (suc n) each = All-cons P (f i) (values f (suc i) n) (each i) (all_values P f (suc i) n each)

-- values are related to the elements of another list
pub value_pairs : {A B : Type 0} (P : ℕ → A → B → Type 0) (f : ℕ → A) (ys : List B) (n : ℕ) → length ys ≡ n
    → ((k : ℕ) (d : B) → k < n → P k (f k) (slice_index_or ys k d)) → AllAt P (values f 0 n) ys
value_pairs P f ys n count each = record {
  count = count ∙ sym (values_count f 0 n);
  each = λ k a b less.
      let below : k < n = subst (λ m. k < m) (values_count f 0 n) less in
      subst (λ x. P k x (slice_index_or ys k b)) (sym (values_first f n k a below)) (each k b below);
}
