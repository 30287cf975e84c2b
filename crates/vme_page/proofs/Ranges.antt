-- The numbers of a range, one after another.
use Rattle.std.proofs.Common.{◌≡◌, ℕ, suc, ◌+◌, ◌-◌, ◌<◌, List, ◌++◌, ap, arith}
use Rattle.std.specs.List.{flat_map, range_with_len}

-- what is made of the numbers from the first to below the last begins with what is made of the first
pub range_next : {A : Type 0} (part : ℕ → List A) (first last : ℕ) → first < last
    → flat_map part (range_with_len first (last - first)) ≡ part first ++ flat_map part (range_with_len (first + 1) (last - (first + 1)))
range_next part first last within = ap (λ len. flat_map part (range_with_len first len)) one
  where
    one : last - first ≡ suc (last - (first + 1))
    one = omega (arith, within)
