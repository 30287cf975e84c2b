-- Lists and their elements by index.
use Rattle.std.proofs.Common.{◌≡◌, ℕ, zero, suc, ◌+◌, ◌<◌, ◌≤◌, List, [], ◌∷◌, ◌++◌, length, slice_index_or, map, take, Some, refl, ap, sym, subst, ◌∙◌, arith}
use Rattle.std.specs.List.{slice_get}
use Rattle.std.proofs.lemmas.Option.{none-some, same_Some}
use mathlib.Core.Option.{some}
use lib.ListN.{get_elem?}
use Rattle.vme_object.specs.Each.{Each, AllAt}

-- there is an element at each index that is less than the length
pub element_at : {A : Type 0} (xs : List A) (k : ℕ) → k < length xs → (x : A) × (slice_get xs k ≡ Some x)
element_at [] k k< = absurd (omega arith)
element_at (x ∷ xs) zero k< = (x, refl)
element_at (x ∷ xs) (suc k) k< = element_at xs k (omega arith)

-- a list of length 0 is empty
pub nil_of : {A : Type 0} (xs : List A) → length xs ≡ 0 → xs ≡ []
nil_of [] none = refl
nil_of (x ∷ xs) none = absurd (omega arith)

-- a mapped list keeps its length
pub map_length : {A B : Type 0} (f : A → B) (xs : List A) → length (map f xs) ≡ length xs
map_length f [] = refl
map_length f (x ∷ xs) = ap suc (map_length f xs)

-- an element of a mapped list is the image of the element at the same index
pub map_at : {A B : Type 0} (f : A → B) (xs : List A) (k : ℕ) (b : B) (a : A) → k < length xs
    → slice_index_or (map f xs) k b ≡ f (slice_index_or xs k a)
map_at f [] k b a k< = absurd (omega arith)
map_at f (x ∷ xs) zero b a k< = refl
map_at f (x ∷ xs) (suc k) b a k< = map_at f xs k b a (omega arith)

-- mapping two functions one after the other maps their composition
pub map_twice : {A B C : Type 0} (g : B → C) (f : A → B) (xs : List A) → map g (map f xs) ≡ map (λ x. g (f x)) xs
map_twice g f [] = refl
map_twice g f (x ∷ xs) = ap (λ ys. g (f x) ∷ ys) (map_twice g f xs)

-- if the image of each element has a property, each element of the mapped list has it
pub each_mapped : {A B : Type 0} (P : ℕ → B → Type 0) (f : A → B) (xs : List A) → Each (λ k a. P k (f a)) xs → Each P (map f xs)
each_mapped P f xs each k d k< =
    let there : k < length xs = omega (arith, k<, map_length f xs) in
    let a = (element_at xs k there).0 in
    subst (P k) (sym (map_at f xs k d a there)) (each k a there)

-- if two images of each element are related, the elements of the two mapped lists are related
pub both_mapped : {A B C : Type 0} (P : ℕ → B → C → Type 0) (f : A → B) (g : A → C) (xs : List A)
    → Each (λ k a. P k (f a) (g a)) xs → AllAt P (map f xs) (map g xs)
both_mapped P f g xs each = record {
  count = map_length g xs ∙ sym (map_length f xs);
  each = λ k b c k<.
      let there : k < length xs = omega (arith, k<, map_length f xs) in
      let a = (element_at xs k there).0 in
      subst (λ y. P k y (slice_index_or (map g xs) k c)) (sym (map_at f xs k b a there))
      (subst (P k (f (slice_index_or xs k a))) (sym (map_at g xs k c a there)) (each k a there));
}

-- an element of the first of two appended lists
pub element_of_first : {A : Type 0} (xs ys : List A) (k : ℕ) (d : A) → k < length xs
    → get_elem? (xs ++ ys) k ≡ some (slice_index_or xs k d)
element_of_first [] ys k d k< = absurd (omega arith)
element_of_first (x ∷ xs) ys zero d k< = refl
element_of_first (x ∷ xs) ys (suc k) d k< = element_of_first xs ys k d (omega arith)

-- the element that is appended to a list
pub element_after : {A : Type 0} (xs : List A) (x : A) → get_elem? (xs ++ x ∷ []) (length xs) ≡ some x
element_after [] x = refl
element_after (y ∷ xs) x = element_after xs x

-- the prefix of length suc k is the prefix of length k with the element at index k
take_suc : {A : Type 0} (xs : List A) (k : ℕ) (x : A) → slice_get xs k ≡ Some x → take (suc k) xs ≡ take k xs ++ x ∷ []
take_suc [] k x at = absurd (none-some x at)
take_suc (y ∷ ys) zero x at = ap (λ z. z ∷ []) (same_Some y x at)
take_suc (y ∷ ys) (suc k) x at = ap (λ zs. y ∷ zs) (take_suc ys k x at)

-- the prefix of length k + 1 is the prefix of length k with the element at index k
pub take_one : {A : Type 0} (xs : List A) (k : ℕ) (x : A) → slice_get xs k ≡ Some x → take (k + 1) xs ≡ take k xs ++ x ∷ []
take_one xs k x at = let same : k + 1 ≡ suc k = omega arith in ap (λ n. take n xs) same ∙ take_suc xs k x at

-- a prefix that is at least as long as the list is the whole list
pub take_whole : {A : Type 0} (xs : List A) (k : ℕ) → length xs ≤ k → take k xs ≡ xs
take_whole [] zero all = refl
take_whole [] (suc k) all = refl
take_whole (x ∷ xs) zero all = absurd (omega arith)
take_whole (x ∷ xs) (suc k) all = ap (λ ys. x ∷ ys) (take_whole xs k (omega arith))

-- the first element of a list that is numbered from n has the property at n
pub first_of_each :
    {A : Type 0} (P : ℕ → A → Type 0) (n : ℕ) (xs : List A) (x : A) (rest : List A) → xs ≡ x ∷ rest → Each (λ i. P (n + i)) xs
    → P n x
first_of_each P n xs x rest is each =
    let same : n + 0 ≡ n = omega arith in
    let was = subst (Each (λ i. P (n + i))) is each in
    subst (λ i. P i x) same (was 0 x (omega arith))

-- the other elements of a list that is numbered from n have the property at their numbers
pub rest_of_each :
    {A : Type 0} (P : ℕ → A → Type 0) (n m : ℕ) (xs : List A) (x : A) (rest : List A) → xs ≡ x ∷ rest → m ≡ n + 1
    → Each (λ i. P (n + i)) xs → Each (λ i. P (m + i)) rest
rest_of_each P n m xs x rest is more each k d k< =
    let same : n + suc k ≡ m + k = omega arith in
    let was = subst (Each (λ i. P (n + i))) is each in
    subst (λ i. P i (slice_index_or rest k d)) same (was (suc k) d (omega arith))

-- elements that have a property at their positions have it in a list that is numbered from n, if n is 0
pub begin_each :
    {A : Type 0} (P : ℕ → A → Type 0) (n : ℕ) (xs ys : List A) → n ≡ 0 → ys ≡ xs → Each P xs → Each (λ i. P (n + i)) ys
begin_each P n xs ys none same each k d k< =
    let at : k ≡ n + k = omega arith in
    let there : k < length xs = subst (λ zs. k < length zs) same k< in
    subst (λ i. P i (slice_index_or ys k d)) at (subst (λ zs. P k (slice_index_or zs k d)) (sym same) (each k d there))
