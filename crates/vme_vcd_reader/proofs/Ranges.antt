-- A name and the range behind it.
use Rattle.std.proofs.Common.{◌≡◌, ◌+◌, ◌<◌, ℕ, Bool, true, false, ◌==◌, List, [], ◌∷◌, ◌++◌, length, take, get_or, Some, None, refl, ap, ◌∙◌, length-take-le, arith}
use Rattle.std.proofs.lemmas.List.{take_more}
use Rattle.std.specs.Prelude.{if◌then◌else◌}
use Rattle.vme_vcd_reader.specs.Ranges.{last_place, or_here}

-- the last index with one more byte
pub last_more : (c : ℕ) (xs : List ℕ) (b : ℕ) → last_place c (xs ++ b ∷ []) ≡ (if b == c then Some (length xs) else last_place c xs)
last_more c [] b = elim (b == c) as (λ (same : Bool). or_here None same ≡ (if same then Some 0 else None)) [ true ↦ refl | false ↦ refl ]
last_more c (x ∷ xs) b =
    ap (λ last. or_here last (x == c)) (last_more c xs b)
    ∙ (elim (b == c) as (λ (same : Bool). or_here (if same then Some (length xs) else last_place c xs) (x == c)
    ≡ (if same then Some (length (x ∷ xs)) else or_here (last_place c xs) (x == c))) [
      | true ↦ ap Some (omega arith)
      | false ↦ refl
    ])

pub last_step : (c : ℕ) (xs : List ℕ) (k : ℕ) (same : Bool) → k < length xs → (get_or xs k 0 == c) ≡ same
    → last_place c (take (k + 1) xs) ≡ (if same then Some k else last_place c (take k xs))
last_step c xs k same within is =
    ap (last_place c) (take_more xs k 0 within) ∙ last_more c (take k xs) (get_or xs k 0)
    ∙ ap (λ n. if get_or xs k 0 == c then Some n else last_place c (take k xs)) (length-take-le k xs (omega arith))
    ∙ ap (λ (same : Bool). if same then Some k else last_place c (take k xs)) is
