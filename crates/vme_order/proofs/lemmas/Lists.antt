-- Lists by their elements.
use Rattle.std.proofs.Common.{◌≡◌, ℕ, zero, suc, ◌+◌, ◌<◌, List, [], ◌∷◌, length, map, slice_index_or, All, refl, arith}
use Rattle.std.proofs.lemmas.List.Elements.{All-nil, All-cons, All-head, All-tail}

-- lists of one length with the same elements are equal
pub same_lists : {X : Type 0} (xs ys : List X) → length xs ≡ length ys
    → ((k : ℕ) (a b : X) → k < length xs → slice_index_or xs k a ≡ slice_index_or ys k b) → xs ≡ ys
same_lists [] [] count each = refl
same_lists [] (y ∷ ys) count each = absurd (omega arith)
same_lists (x ∷ xs) [] count each = absurd (omega arith)
same_lists (x ∷ xs) (y ∷ ys) count each =
    let first = each 0 x y (omega arith) in
    let rest = same_lists xs ys (omega arith) (λ k a b less. each (suc k) a b (omega arith)) in
    λ i. first i ∷ rest i

-- a fact of each image is one of each element
pub All-map : {X Y : Type 0} (P : Y → Type 0) (f : X → Y) (xs : List X) → All (λ x. P (f x)) xs → All P (map f xs)
All-map P f [] all = All-nil P
All-map P f (x ∷ xs) all =
    All-cons P (f x) (map f xs) (All-head (λ x. P (f x)) x xs all) (All-map P f xs (All-tail (λ x. P (f x)) x xs all))

-- n numbers from i on
abbrev pub numbers_from : ℕ → ℕ → List ℕ
numbers_from i zero = []
numbers_from i (suc n) = i ∷ numbers_from (suc i) n

-- each of them is below i + n
pub numbers_below : (i n k : ℕ) → i + n ≡ k → All (λ m. m < k) (numbers_from i n)
numbers_below i zero k sum = All-nil (λ m. m < k)
numbers_below i (suc n) k sum =
    All-cons (λ m. m < k) i (numbers_from (suc i) n) (omega arith) (numbers_below (suc i) n k (omega arith))
