-- Texts that are joined.
use Rattle.std.proofs.Common.{◌≡◌, ℕ, ◌+◌, ◌-◌, ◌<◌, ◌≤◌, suc, List, [], ◌∷◌, ◌++◌, map, flat_map, length, refl, sym, ap, ◌∙◌, append_assoc, append-nil, arith}
use Rattle.std.proofs.lemmas.List.{length-map}
use Rattle.std.specs.Prelude.{◌==◌, codes, if◌then◌else◌}
use Rattle.std.specs.List.{join_by, range_with_len}
use Rattle.vme_judge.specs.AssumedTexts.{list_line}

-- what a function gives for the items of a mapped list
pub flat_map-map : {X Y A : Type 0} (f : X → Y) (g : Y → List A) (xs : List X) → flat_map g (map f xs) ≡ flat_map (λ x. g (f x)) xs
flat_map-map f g [] = refl
flat_map-map f g (x ∷ xs) = ap (λ l. g (f x) ++ l) (flat_map-map f g xs)

-- the items of a mapped list are joined as the items of the list
pub join_by-map :
    {X Y A : Type 0} (f : X → Y) (g : Y → List A) (between : List A) (xs : List X)
    → join_by g between (map f xs) ≡ join_by (λ x. g (f x)) between xs
join_by-map f g between [] = refl
join_by-map f g between (x ∷ xs) = ap (λ l. g (f x) ++ l) (flat_map-map f (λ y. between ++ g y) xs)

-- a line of the texts of items, if there are items
pub list_line-map :
    {X : Type 0} (f : X → List ℕ) (head between : List ℕ) (xs : List X)
    → list_line head between (map f xs) ≡ (if length xs == 0 then [] else head ++ join_by f between xs ++ codes "\n")
list_line-map f head between xs = rw (length-map xs f, join_by-map f (λ text. text) between xs) refl

-- what is listed with the numbers from one on, once that of the next one is listed
pub listed_next :
    (f : ℕ → List ℕ) (n end : ℕ) (out all : List ℕ) → n < end → out ++ flat_map f (range_with_len n (end - n)) ≡ all
    → (out ++ f n) ++ flat_map f (range_with_len (n + 1) (end - (n + 1))) ≡ all
listed_next f n end out all below is =
    let more : end - n ≡ suc (end - (n + 1)) = omega arith in
    let now : out ++ flat_map f (range_with_len n (suc (end - (n + 1)))) ≡ all = rw more at is in
    append_assoc out (f n) (flat_map f (range_with_len (n + 1) (end - (n + 1)))) ∙ now

-- what is listed once no numbers are left
pub listed_all :
    (f : ℕ → List ℕ) (n end : ℕ) (out all : List ℕ) → end ≤ n → out ++ flat_map f (range_with_len n (end - n)) ≡ all → out ≡ all
listed_all f n end out all past is =
    let none : end - n ≡ 0 = omega arith in
    let now : out ++ flat_map f (range_with_len n 0) ≡ all = rw none at is in
    sym (append-nil out) ∙ now
