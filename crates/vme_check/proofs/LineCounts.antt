-- Counts of what a list has, and the number of the lines of a text.
use Rattle.std.proofs.Common.{◌≡◌, ℕ, ◌+◌, ◌<◌, ◌≤◌, ◌^◌, Bool, true, false, List, [], ◌∷◌, length, inl, inr, refl, arith}
use Rattle.std.specs.Prelude.{◌==◌, if◌then◌else◌}
use Rattle.std.specs.List.{count_by, slice_split}
use Rattle.std.specs.Str.Lines.{lines, lines_of_parts}
use Rattle.std.proofs.lemmas.Bool.{cases_Bool}
use Rattle.std.proofs.lemmas.List.Sums.{count_by-le-length, sum_by-cons}
use Rattle.std.proofs.lemmas.List.Splits.{length-slice_split}

-- parts have no more lines than they are
lines_of_parts_le : (parts : List (List ℕ)) → length (lines_of_parts parts) ≤ length parts
lines_of_parts_le [] = omega arith
lines_of_parts_le (x ∷ []) =
    elim (cases_Bool (length x == 0)) [
      | inl none ↦ rw none (omega arith)
      | inr some ↦ rw some (omega arith)
    ]
lines_of_parts_le (x ∷ y ∷ more) = let rest = lines_of_parts_le (y ∷ more) in omega (arith, rest)

-- a text has no more lines than bytes, and one
pub lines_le : (text : List ℕ) → length (lines text) ≤ length text + 1
lines_le text =
    let few : length (lines text) ≤ length (slice_split (λ b. b == 10) text) = lines_of_parts_le (slice_split (λ b. b == 10) text) in
    omega (arith, few, length-slice_split (λ b. b == 10) text, count_by-le-length (λ b. b == 10) text)

-- of a text below 4 GiB fewer lines than 2^64 pass a test
pub few_lines : (p : List ℕ → Bool) (text : List ℕ) → length text < 2 ^ 32 → count_by p (lines text) < 2 ^ 64
few_lines p text short =
    let few = lines_le text in
    let passing = count_by-le-length p (lines text) in
    omega (arith, few, passing, short)

-- a sum with the count of a list is the same after its first element was counted
pub one_more : {X : Type 0} (p : X → Bool) (x : X) (more : List X) (so_far one next all : ℕ)
    → one ≡ (if p x then 1 else 0) → so_far + count_by p (x ∷ more) ≡ all → all < 2 ^ 64
    → (so_far + one < 2 ^ 64 → next ≡ so_far + one) → next + count_by p more ≡ all
one_more p x more so_far one next all is sum few added =
    let first : count_by p (x ∷ more) ≡ (if p x then 1 else 0) + count_by p more = sum_by-cons (λ y. if p y then 1 else 0) x more in
    let next_is = added (omega (arith, is, first, sum, few)) in
    omega (arith, is, first, sum, next_is)
