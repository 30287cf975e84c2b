-- The text of data lanes, two digits a data lane.
use Rattle.std.proofs.Common.{◌≡◌, ℕ, List, [], ◌∷◌, ◌++◌, length, Option, None, Some, true, false, slice_index_or, refl, ap, ◌∙◌, arith}
use Rattle.vme_grammar.specs.Texts.{lane_text, lanes_text, printed_lanes}

-- the two digits of a data lane before a text are the data lane's text before it
two_digits :
    (lane : Option ℕ) (rest : List ℕ) → slice_index_or (lane_text lane) 0 0 ∷ (slice_index_or (lane_text lane) 1 0 ∷ rest) ≡ lane_text lane ++ rest
two_digits None rest = refl
two_digits (Some byte) rest = refl

-- the digits of data lanes, in order
abbrev digits : List (Option ℕ) → List ℕ
digits [] = []
digits (lane ∷ lanes) = slice_index_or (lane_text lane) 0 0 ∷ (slice_index_or (lane_text lane) 1 0 ∷ digits lanes)

-- the digits of data lanes are their text
digits_are : (lanes : List (Option ℕ)) → digits lanes ≡ lanes_text lanes
digits_are [] = refl
digits_are (lane ∷ lanes) =
    ap (λ rest. slice_index_or (lane_text lane) 0 0 ∷ (slice_index_or (lane_text lane) 1 0 ∷ rest)) (digits_are lanes)
    ∙ two_digits lane (lanes_text lanes)

-- the first two digits of a text, before a rest
abbrev taken : List ℕ → List ℕ → List ℕ
taken text rest = slice_index_or text 0 0 ∷ (slice_index_or text 1 0 ∷ rest)

-- the digits of the last four of eight data lanes are their text
pub last_four :
    (lanes : List (Option ℕ)) (first second third last : List ℕ) → length lanes ≡ 8
    → first ≡ lane_text (slice_index_or lanes 4 None) → second ≡ lane_text (slice_index_or lanes 5 None)
    → third ≡ lane_text (slice_index_or lanes 6 None) → last ≡ lane_text (slice_index_or lanes 7 None)
    → taken first (taken second (taken third (taken last []))) ≡ lanes_text (printed_lanes false lanes)
last_four (a ∷ b ∷ c ∷ d ∷ e ∷ f ∷ g ∷ h ∷ []) first second third last len e1 e2 e3 e4 =
    rw (e1, e2, e3, e4) (digits_are (e ∷ f ∷ g ∷ h ∷ []))
last_four lanes first second third last len e1 e2 e3 e4 = absurd (omega (arith, len))

-- the digits of eight data lanes are their text
pub all_eight :
    (lanes : List (Option ℕ)) (first second third fourth fifth sixth seventh last : List ℕ) → length lanes ≡ 8
    → first ≡ lane_text (slice_index_or lanes 0 None) → second ≡ lane_text (slice_index_or lanes 1 None)
    → third ≡ lane_text (slice_index_or lanes 2 None) → fourth ≡ lane_text (slice_index_or lanes 3 None)
    → fifth ≡ lane_text (slice_index_or lanes 4 None) → sixth ≡ lane_text (slice_index_or lanes 5 None)
    → seventh ≡ lane_text (slice_index_or lanes 6 None) → last ≡ lane_text (slice_index_or lanes 7 None)
    → taken first (taken second (taken third (taken fourth (taken fifth (taken sixth (taken seventh (taken last [])))))))
    ≡ lanes_text (printed_lanes true lanes)
all_eight (a ∷ b ∷ c ∷ d ∷ e ∷ f ∷ g ∷ h ∷ []) first second third fourth fifth sixth seventh last len e1 e2 e3 e4 e5 e6 e7 e8 =
    rw (e1, e2, e3, e4, e5, e6, e7, e8) (digits_are (a ∷ b ∷ c ∷ d ∷ e ∷ f ∷ g ∷ h ∷ []))
all_eight lanes first second third fourth fifth sixth seventh last len e1 e2 e3 e4 e5 e6 e7 e8 = absurd (omega (arith, len))
