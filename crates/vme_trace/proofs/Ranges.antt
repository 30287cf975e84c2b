-- The items of a range, one after another.
use Rattle.std.proofs.Common.{◌≡◌, ℕ, suc, ◌+◌, ◌-◌, ◌<◌, List, ◌++◌, ap, arith}
use Rattle.std.specs.List.{flat_map, range_with_len}

-- the texts of the numbers from i to below n begin with that of i
pub range_next : {A : Type 0} (f : ℕ → List A) (i n : ℕ) → i < n
    → flat_map f (range_with_len i (n - i)) ≡ f i ++ flat_map f (range_with_len (i + 1) (n - (i + 1)))
range_next f i n within = ap (λ k. flat_map f (range_with_len i k)) more
  where
    more : n - i ≡ suc (n - (i + 1))
    more = omega (arith, within)
