-- Bytes of a list from an offset on.
use Rattle.std.proofs.Common.{◌≡◌, ℕ, ◌+◌, List, length, take, drop, arith, min}
use Rattle.std.specs.Prelude.{slice_range}
use Rattle.std.proofs.lemmas.Grind.{common_steps}

-- a range that is cut at the end of a list has those bytes that the list has
pub clamped : (xs : List ℕ) (from len : ℕ) →
    slice_range xs (min from (length xs)) (min (min from (length xs) + len) (length xs)) ≡ take len (drop from xs)
clamped xs from len = grind (arith, common_steps)
