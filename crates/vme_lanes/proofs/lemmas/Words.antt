-- Lanes from their flags and bytes, and flags and bytes of the lanes of a location.
use Rattle.std.proofs.Common.{◌≡◌, ◌-◌, ℕ, List, [], ◌∷◌, map, take, drop, Option, None, Some, true, is_some, refl, ap, ◌∙◌, length, get_or, arith}
use Rattle.std.specs.Prelude.{slice_range}
use Rattle.std.specs.List.{list_all}
use Rattle.std.proofs.lemmas.List.{take-map, drop-map}
use Rattle.vme_lanes.specs.Lanes.{bytes_of}
use Rattle.vme_lanes.specs.Words.{word_bytes, word_of, flag_of, byte_of, are_set, flagged, flagged_lanes, lanes_in, IsOfLanes}
use Rattle.vme_lanes.specs.declared.lines.DataLines.TheInside.{Inside}

-- lanes are those of their flags and bytes
pub flagged_again : (lanes : List (Option ℕ)) → flagged_lanes (map flag_of lanes) (map byte_of lanes) ≡ lanes
flagged_again [] = refl
flagged_again (None ∷ lanes) = ap (λ rest. None ∷ rest) (flagged_again lanes)
flagged_again (Some byte ∷ lanes) = ap (λ rest. Some byte ∷ rest) (flagged_again lanes)

-- each flag is 1 exactly if each lane carries a byte
pub flags_all : (lanes : List (Option ℕ)) → are_set (map flag_of lanes) ≡ list_all is_some lanes
flags_all [] = refl
flags_all (None ∷ lanes) = refl
flags_all (Some byte ∷ lanes) = flags_all lanes

-- the bytes of lanes that each carry one
pub bytes_all : (lanes : List (Option ℕ)) → list_all is_some lanes ≡ true → map byte_of lanes ≡ bytes_of lanes
bytes_all [] full = refl
bytes_all (None ∷ lanes) full = cc
bytes_all (Some byte ∷ lanes) full = ap (λ rest. byte ∷ rest) (bytes_all lanes full)

-- a range of the values of a function
range-map : (f : Option ℕ → ℕ) (lanes : List (Option ℕ)) (a b : ℕ) → slice_range (map f lanes) a b ≡ map f (slice_range lanes a b)
range-map f lanes a b = ap (take (b - a)) (drop-map f a lanes) ∙ take-map f (b - a) (drop a lanes)

-- each flag of a range is 1 exactly if each lane of the range carries a byte
pub flags_between :
    (lanes : List (Option ℕ)) (a b : ℕ)
    → are_set (slice_range (map flag_of lanes) a b) ≡ list_all is_some (slice_range lanes a b)
flags_between lanes a b = ap are_set (range-map flag_of lanes a b) ∙ flags_all (slice_range lanes a b)

-- the bytes of a range whose lanes each carry one
pub bytes_between :
    (lanes : List (Option ℕ)) (a b : ℕ) → list_all is_some (slice_range lanes a b) ≡ true
    → slice_range (map byte_of lanes) a b ≡ bytes_of (slice_range lanes a b)
bytes_between lanes a b full = range-map byte_of lanes a b ∙ bytes_all (slice_range lanes a b) full

-- the words of the flags and the bytes of some lanes have these lanes
pub words_lanes :
    (s : Inside) (lanes : List (Option ℕ)) → word_bytes s.driven ≡ map flag_of lanes → word_bytes s.bytes ≡ map byte_of lanes
    → lanes_in s ≡ lanes
words_lanes s lanes flags bytes = cc (flagged_again lanes)

-- the words of the flags and the bytes of some lanes are words of lanes
pub words_of_lanes :
    (s : Inside) (lanes : List (Option ℕ)) → s.driven ≡ word_of (map flag_of lanes) → s.bytes ≡ word_of (map byte_of lanes)
    → word_bytes s.driven ≡ map flag_of lanes → word_bytes s.bytes ≡ map byte_of lanes → IsOfLanes s
words_of_lanes s lanes driven_word bytes_word flags bytes =
    let same = words_lanes s lanes flags bytes in
    record { flags = cc; bytes = cc; driven_word = cc; bytes_word = cc }

-- a function's values at the eight places of a list
pub mapped_8 : {X Y : Type 0} (f : X → Y) (d : X) (xs : List X) → length xs ≡ 8
    → f (get_or xs 0 d) ∷ f (get_or xs 1 d) ∷ f (get_or xs 2 d) ∷ f (get_or xs 3 d)
    ∷ f (get_or xs 4 d) ∷ f (get_or xs 5 d) ∷ f (get_or xs 6 d) ∷ f (get_or xs 7 d) ∷ []
    ≡ map f xs
mapped_8 f d (x₀ ∷ x₁ ∷ x₂ ∷ x₃ ∷ x₄ ∷ x₅ ∷ x₆ ∷ x₇ ∷ []) len = refl
mapped_8 f d xs len = absurd (omega (arith, len))

-- the lanes of eight flags and a list of eight bytes
flagged_last : (f₀ f₁ f₂ f₃ f₄ f₅ f₆ f₇ : ℕ) (bytes : List ℕ) → length bytes ≡ 8
    → flagged f₀ (get_or bytes 0 0) ∷ flagged f₁ (get_or bytes 1 0) ∷ flagged f₂ (get_or bytes 2 0) ∷ flagged f₃ (get_or bytes 3 0)
    ∷ flagged f₄ (get_or bytes 4 0) ∷ flagged f₅ (get_or bytes 5 0) ∷ flagged f₆ (get_or bytes 6 0) ∷ flagged f₇ (get_or bytes 7 0) ∷ []
    ≡ flagged_lanes (f₀ ∷ f₁ ∷ f₂ ∷ f₃ ∷ f₄ ∷ f₅ ∷ f₆ ∷ f₇ ∷ []) bytes
flagged_last f₀ f₁ f₂ f₃ f₄ f₅ f₆ f₇ (b₀ ∷ b₁ ∷ b₂ ∷ b₃ ∷ b₄ ∷ b₅ ∷ b₆ ∷ b₇ ∷ []) len = refl
flagged_last f₀ f₁ f₂ f₃ f₄ f₅ f₆ f₇ bytes len = absurd (omega (arith, len))

-- the lanes of eight flags and eight bytes
pub flagged_8 : (flags bytes : List ℕ) → length flags ≡ 8 → length bytes ≡ 8
    → flagged (get_or flags 0 0) (get_or bytes 0 0) ∷ flagged (get_or flags 1 0) (get_or bytes 1 0)
    ∷ flagged (get_or flags 2 0) (get_or bytes 2 0) ∷ flagged (get_or flags 3 0) (get_or bytes 3 0)
    ∷ flagged (get_or flags 4 0) (get_or bytes 4 0) ∷ flagged (get_or flags 5 0) (get_or bytes 5 0)
    ∷ flagged (get_or flags 6 0) (get_or bytes 6 0) ∷ flagged (get_or flags 7 0) (get_or bytes 7 0) ∷ []
    ≡ flagged_lanes flags bytes
flagged_8 (f₀ ∷ f₁ ∷ f₂ ∷ f₃ ∷ f₄ ∷ f₅ ∷ f₆ ∷ f₇ ∷ []) bytes flag_len byte_len = flagged_last f₀ f₁ f₂ f₃ f₄ f₅ f₆ f₇ bytes byte_len
flagged_8 flags bytes flag_len byte_len = absurd (omega (arith, flag_len))
