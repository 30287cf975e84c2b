-- Elements of lists by their index.
use Rattle.std.proofs.Common.{◌≡◌, ℕ, zero, suc, List, [], ◌∷◌, map, Some, refl, ap}
use Rattle.std.specs.Prelude.{slice_get, slice_set, option_map}

-- an element of a list with a function applied to each
pub get_map : {A B : Type 0} (f : A → B) (xs : List A) (k : ℕ) → slice_get (map f xs) k ≡ option_map f (slice_get xs k)
get_map f [] k = refl
get_map f (x ∷ xs) zero = refl
get_map f (x ∷ xs) (suc k) = get_map f xs k

-- an element that was set is there
pub get_set : {A : Type 0} (xs : List A) (i : ℕ) (new old : A) → slice_get xs i ≡ Some old → slice_get (slice_set xs i new) i ≡ Some new
get_set [] i new old found = absurd (cc found)
get_set (x ∷ xs) zero new old found = refl
get_set (x ∷ xs) (suc i) new old found = get_set xs i new old found

-- the other elements are as they were
pub get_other : {A : Type 0} (xs : List A) (i k : ℕ) (new : A) → (i ≡ k → ⊥) → slice_get (slice_set xs i new) k ≡ slice_get xs k
get_other [] i k new apart = refl
get_other (x ∷ xs) zero zero new apart = absurd (apart refl)
get_other (x ∷ xs) zero (suc k) new apart = refl
get_other (x ∷ xs) (suc i) zero new apart = refl
get_other (x ∷ xs) (suc i) (suc k) new apart = get_other xs i k new (λ same. apart (ap suc same))
