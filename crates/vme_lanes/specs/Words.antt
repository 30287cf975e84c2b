-- The lanes as two words of eight bytes: a flag and a byte for each lane.
use Rattle.std.specs.Prelude.{◌≡◌, ℕ, List, [], ◌∷◌, map, Option, None, Some, unwrap_or, Bool, if◌then◌else◌, ◌==◌}
use Rattle.std.specs.List.{list_all}
use Rattle.std.proofs.Common.{ap, sym, ◌∙◌}
use Rattle.std.specs.Int.{w64, to_be_bytes, from_be_bytes}
use Rattle.vme_lanes.specs.declared.lines.DataLines.TheInside.{Inside}
use Rattle.vme_lanes.specs.Lanes.{CarriedLanes}

-- the bytes of a word, the most significant first
unfoldable pub word_bytes : ℕ → List ℕ
word_bytes word = to_be_bytes w64 word

-- the word of eight bytes, the most significant first
unfoldable pub word_of : List ℕ → ℕ
word_of bytes = from_be_bytes w64 bytes

-- the flag of a lane: 1 if it carries a byte, else 0
abbrev pub flag_of : Option ℕ → ℕ
flag_of None = 0
flag_of (Some byte) = 1

-- the byte of a lane, zero if it carries none
abbrev pub byte_of : Option ℕ → ℕ
byte_of lane = unwrap_or lane 0

-- whether each of the flags is 1
abbrev pub are_set : List ℕ → Bool
are_set flags = list_all (λ flag. flag == 1) flags

-- the lane of a flag and a byte
abbrev pub flagged : ℕ → ℕ → Option ℕ
flagged flag byte = if flag == 1 then Some byte else None

-- the lanes of some flags and bytes
abbrev pub flagged_lanes : List ℕ → List ℕ → List (Option ℕ)
flagged_lanes [] bytes = []
flagged_lanes (flag ∷ flags) [] = []
flagged_lanes (flag ∷ flags) (byte ∷ bytes) = flagged flag byte ∷ flagged_lanes flags bytes

-- the lanes of the two words
abbrev pub lanes_in : Inside → List (Option ℕ)
lanes_in s = flagged_lanes (word_bytes s.driven) (word_bytes s.bytes)

-- whether the words are those of their lanes: each flag is 0 or 1, and a byte without its flag is zero
pub record IsOfLanes (s : Inside) : Type 0 where
  pub flags : word_bytes s.driven ≡ map flag_of (lanes_in s)
  pub bytes : word_bytes s.bytes ≡ map byte_of (lanes_in s)
  pub driven_word : s.driven ≡ word_of (map flag_of (lanes_in s))
  pub bytes_word : s.bytes ≡ word_of (map byte_of (lanes_in s))

-- the words of some lanes
abbrev pub words_of : CarriedLanes → Inside
words_of v = record { bytes = word_of (map byte_of v.lanes); driven = word_of (map flag_of v.lanes) }

-- the words of their own lanes are the same words
pub words_again : (s : Inside) → IsOfLanes s → words_of (record { lanes = lanes_in s }) ≡ s
words_again s h =
    ap (λ (b : ℕ). record { bytes = b; driven = word_of (map flag_of (lanes_in s)) }) (sym h.bytes_word)
    ∙ ap (λ (d : ℕ). record { bytes = s.bytes; driven = d }) (sym h.driven_word)
