-- The lines of a script, and bars, one after another.
use Rattle.std.proofs.Common.{◌≡◌, ℕ, zero, suc, ◌+◌, ◌<◌, List, [], ◌∷◌, ◌++◌, length, drop, get_or, map, set, take, Bool, ◌||◌, Some, refl, ap, ◌∙◌, arith}
use Rattle.std.specs.Prelude.{slice_get}
use Rattle.std.specs.List.{list_any}
use Rattle.std.proofs.lemmas.List.{drop_more}
use Rattle.std.proofs.lemmas.Option.{slice_get_within, get_or_from_slice_get}

-- whether one of the items from i on passes a test, by the item at i
pub any_next : {A : Type 0} (p : A → Bool) (xs : List A) (i : ℕ) (x : A) → slice_get xs i ≡ Some x
    → list_any p (drop i xs) ≡ (p x || list_any p (drop (i + 1) xs))
any_next p xs i x found =
    ap (list_any p)
    (drop_more xs i x (slice_get_within xs i x found) ∙ ap (λ first. first ∷ drop (i + 1) xs) (get_or_from_slice_get xs i x x found))

-- one more item is replaced by its value under a function
pub map_next : {A : Type 0} (f : A → A) (xs : List A) (i : ℕ) (d : A) → i < length xs
    → set (map f (take i xs) ++ drop i xs) i (f (get_or (map f (take i xs) ++ drop i xs) i d)) ≡ map f (take (i + 1) xs) ++ drop (i + 1) xs
map_next f [] i d within = absurd (omega (arith, within))
map_next f (x ∷ xs) zero d within = refl
map_next f (x ∷ xs) (suc i) d within = rw next (ap (λ rest. f x ∷ rest) (map_next f xs i d (omega (arith, within))))
  where
    next : suc i + 1 ≡ suc (i + 1)
    next = omega arith
