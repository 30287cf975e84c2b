-- Lists of lines, and the counts of their elements.
use Rattle.std.proofs.Common.{◌≡◌, ℕ, ◌+◌, ◌<◌, List, [], ◌∷◌, ◌++◌, length, map, take, get_or, Some, sym, ap, ◌∙◌, arith}
use Rattle.std.specs.Prelude.{slice_get, slice_set, slice_index_or, option_map}
use Rattle.std.proofs.lemmas.List.{take-map}
use Rattle.std.proofs.lemmas.Option.{slice_get-map, slice_get-get_or, get_or_from_slice_get}
use Rattle.vme_history.proofs.Memories.{map_set, image_at, take_next}

-- the image of an element at an index is that at the index in the image
pub item_at : {A B : Type 0} (f : A → List B) (xs : List A) (i : ℕ) (x : A) → i < length xs → x ≡ get_or xs i x → f x ≡ slice_index_or (map f xs) i []
item_at f xs i x less is = sym (get_or_from_slice_get (map f xs) i (f x) [] (image_at f xs i x less is))

-- a list of lists of which one has an element more
pub line_pushed : {A B : Type 0} (f : A → List B) (xs : List A) (i : ℕ) (old new : A) (x : B) → i < length xs → old ≡ get_or xs i old
    → f new ≡ f old ++ x ∷ [] → map f (slice_set xs i new) ≡ slice_set (map f xs) i (slice_index_or (map f xs) i [] ++ x ∷ [])
line_pushed f xs i old new x less at is =
    map_set f xs i new ∙ ap (λ ys. slice_set (map f xs) i ys) (is ∙ ap (λ ys. ys ++ x ∷ []) (item_at f xs i old less at))

-- the lengths of the first lists, with that of the next one
pub counts_more : {A : Type 0} (xs : List (List A)) (old new : List ℕ) (i n : ℕ) → old ≡ map length (take i xs) → i < length xs
    → n ≡ length (slice_index_or xs i []) → new ≡ old ++ n ∷ [] → new ≡ map length (take (i + 1) xs)
counts_more xs old new i n are less is next =
    let found : slice_get (map length xs) i ≡ Some n
    = slice_get-map length xs i ∙ ap (option_map length) (slice_get-get_or xs i [] less) ∙ ap Some (sym is) in
    next ∙ ap (λ ys. ys ++ n ∷ []) (are ∙ sym (take-map length i xs))
    ∙ take_next (map length xs) i (i + 1) n (omega arith) found ∙ take-map length (i + 1) xs
