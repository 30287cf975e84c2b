-- Facts of every element with its position, when lists grow or change.
use Rattle.std.proofs.Common.{◌≡◌, ◌≢◌, ℕ, ◌<◌, ◌⊎◌, List, [], ◌∷◌, ◌++◌, length, slice_index_or, set, refl, sym, subst, ◌∙◌, arith, inl, inr}
use Rattle.std.proofs.lemmas.List.{get_or_default, get_or_append_left, get_or-set_same, get_or-set_other, length-set, length-append}
use Rattle.std.proofs.lemmas.Bool.{cases_eq}
use Rattle.std.proofs.Math.Seq.{get_or-append_seam}
use Rattle.std.proofs.Math.Nat.{eq-or-lt_of_le}
use Rattle.vme_object.specs.Each.{Each, AllAt}

-- each element of the empty list has any property
pub Each-nil : {A : Type 0} (P : ℕ → A → Type 0) → Each P []
Each-nil P k d k< = absurd (omega arith)

-- a position of an extended list is the last one or one of the list
last_or : {A : Type 0} (xs : List A) (x : A) (k : ℕ) → k < length (xs ++ x ∷ []) → (k ≡ length xs) ⊎ (k < length xs)
last_or xs x k k< = eq-or-lt_of_le (omega (arith, length-append xs (x ∷ [])))

-- a property of each element holds of an extended list if it holds of the new element
pub Each-push : {A : Type 0} (P : ℕ → A → Type 0) (xs : List A) (x : A) → Each P xs → P (length xs) x → Each P (xs ++ x ∷ [])
Each-push P xs x each here k d k< =
    elim (last_or xs x k k<) [
      | inl same ↦ subst (λ n. P n (slice_index_or (xs ++ x ∷ []) n d)) (sym same) (subst (P (length xs)) (sym (get_or-append_seam xs x [] d)) here)
      | inr less ↦ subst (P k) (sym (get_or_append_left xs (x ∷ []) d k less)) (each k d less)
    ]

-- related lists stay related when each is extended by one of two related elements
pub AllAt-push :
    {A B : Type 0} (P : ℕ → A → B → Type 0) (xs : List A) (ys : List B) (x : A) (y : B) → AllAt P xs ys → P (length xs) x y
    → AllAt P (xs ++ x ∷ []) (ys ++ y ∷ [])
AllAt-push P xs ys x y all here = record {
  count = omega (arith, length-append xs (x ∷ []), length-append ys (y ∷ []), all.count);
  each = λ k a b k<.
      elim (last_or xs x k k<) [
        | inl same ↦ rw same (rw (get_or-append_seam xs x [] a) (rw (sym all.count) (rw (get_or-append_seam ys y [] b) (rw all.count here))))
        | inr less ↦
            rw (get_or_append_left xs (x ∷ []) a k less)
            (rw (get_or_append_left ys (y ∷ []) b k (rw all.count less)) (all.each k a b less))
      ];
}

-- a list is related to itself if each element is related to itself
pub AllAt-same : {A : Type 0} (P : ℕ → A → A → Type 0) (xs : List A) → ((k : ℕ) (x : A) → P k x x) → AllAt P xs xs
AllAt-same P xs same = record { count = refl; each = λ k a b k<. subst (P k (slice_index_or xs k a)) (get_or_default xs k a b k<) (same k (slice_index_or xs k a)) }

-- a list is related to itself with element i replaced, if the relation holds there and is reflexive elsewhere
pub AllAt-set :
    {A : Type 0} (P : ℕ → A → A → Type 0) (xs : List A) (i : ℕ) (d y : A) → i < length xs → P i (slice_index_or xs i d) y
    → ((k : ℕ) (x : A) → k ≢ i → P k x x) → AllAt P xs (set xs i y)
AllAt-set P xs i d y i< here same = record {
  count = length-set xs i y;
  each = λ k a b k<.
      elim (cases_eq k i) [
        | inl at ↦ rw at (rw (get_or-set_same xs i y b i<) (subst (λ x. P i x y) (get_or_default xs i d a i<) here))
        | inr off ↦ rw (get_or-set_other xs i k y b off) (subst (P k (slice_index_or xs k a)) (get_or_default xs k a b k<) (same k (slice_index_or xs k a) off))
      ];
}

-- two relations of lists compose if those of their elements compose
pub AllAt-trans :
    {A : Type 0} (P Q R : ℕ → A → A → Type 0) (xs ys zs : List A) → ((k : ℕ) (x y z : A) → P k x y → Q k y z → R k x z) → AllAt P xs ys
    → AllAt Q ys zs → AllAt R xs zs
AllAt-trans P Q R xs ys zs both first then = record {
  count = then.count ∙ first.count;
  each = λ k a b k<.
      both k (slice_index_or xs k a) (slice_index_or ys k a) (slice_index_or zs k b) (first.each k a a k<) (then.each k a b (rw first.count k<));
}
