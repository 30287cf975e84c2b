-- Sums of equal terms.
use Rattle.std.proofs.Common.{ℕ, ◌≡◌, ◌*◌, List, [], ◌∷◌, length, All, arith}
use Rattle.std.specs.List.{sum_by}
use Rattle.std.proofs.lemmas.List.Sums.{sum_by-cons}
use Rattle.std.proofs.lemmas.List.Elements.{All-head, All-tail}
use Rattle.std.proofs.Math.Nat.{suc-mul}

-- if each term is n, the sum is n times the number of terms
pub sum_of_equal : {A : Type 0} (f : A → ℕ) (n : ℕ) (xs : List A) → All (λ x. f x ≡ n) xs → sum_by f xs ≡ length xs * n
sum_of_equal f n [] all = omega arith
sum_of_equal f n (x ∷ xs) all =
    let here : f x ≡ n = All-head (λ x. f x ≡ n) x xs all in let more = sum_of_equal f n xs (All-tail (λ x. f x ≡ n) x xs all) in
    omega (arith, sum_by-cons f x xs, here, more, suc-mul (length xs) n)
