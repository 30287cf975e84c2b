-- A list whose items are replaced one after another.
use Rattle.std.proofs.Common.{◌≡◌, ℕ, zero, suc, ◌+◌, ◌<◌, List, [], ◌∷◌, ◌++◌, length, drop, get_or, map, set, take, refl, ap, arith}

-- one more item is replaced by its value under a function
pub map_next : {A : Type 0} (f : A → A) (xs : List A) (i : ℕ) (d : A) → i < length xs
    → set (map f (take i xs) ++ drop i xs) i (f (get_or (map f (take i xs) ++ drop i xs) i d)) ≡ map f (take (i + 1) xs) ++ drop (i + 1) xs
map_next f [] i d within = absurd (omega (arith, within))
map_next f (x ∷ xs) zero d within = refl
map_next f (x ∷ xs) (suc i) d within = rw next (ap (λ rest. f x ∷ rest) (map_next f xs i d (omega (arith, within))))
  where
    next : suc i + 1 ≡ suc (i + 1)
    next = omega arith
