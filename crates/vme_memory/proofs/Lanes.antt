-- The lanes of a location are its part of a word, which has D15-D00 in both halves or each lane at its own place.
use Rattle.std.proofs.Common.{◌≡◌, ℕ, true, false, List, [], ◌∷◌, length, slice_index_or, Option, None, Some, refl, ap, sym, ◌∙◌, arith}
use Rattle.std.specs.Prelude.{unwrap_or}
use Rattle.vme_lanes.specs.declared.location.Location.{Location}
use Rattle.vme_lanes.specs.declared.location.Location.TheVariants.{Byte0, Byte1, Byte2, Byte3, Bytes01, Bytes23, Bytes03, Bytes02, Bytes13, Bytes12}
use Rattle.vme_lanes.specs.Rows.{row_of}
use Rattle.vme_lanes.specs.Lanes.{carries, bytes_on}
use Rattle.vme_memory.specs.Words.{word_bytes, part_of}
use Rattle.vme_memory.proofs.Enables.{part_len}

-- an even byte is on D15-D08, an odd one on D07-D00
in_half :
    (l : Location) (a b c d x y z w : Option ℕ) (word : ℕ) → (row_of l).strobes.lword ≡ true
    → carries l (a ∷ b ∷ c ∷ d ∷ x ∷ y ∷ z ∷ w ∷ []) ≡ true
    → word_bytes word ≡ unwrap_or z 0 ∷ unwrap_or w 0 ∷ unwrap_or z 0 ∷ unwrap_or w 0 ∷ []
    → part_of l word ≡ bytes_on l (a ∷ b ∷ c ∷ d ∷ x ∷ y ∷ z ∷ w ∷ [])
in_half Byte0 a b c d x y None w word high full made = absurd cc
in_half Byte0 a b c d x y (Some z) w word high full made = rw made refl
in_half Byte1 a b c d x y z None word high full made = absurd cc
in_half Byte1 a b c d x y z (Some w) word high full made = rw made refl
in_half Byte2 a b c d x y None w word high full made = absurd cc
in_half Byte2 a b c d x y (Some z) w word high full made = rw made refl
in_half Byte3 a b c d x y z None word high full made = absurd cc
in_half Byte3 a b c d x y z (Some w) word high full made = rw made refl
in_half Bytes01 a b c d x y None w word high full made = absurd cc
in_half Bytes01 a b c d x y (Some z) None word high full made = absurd cc
in_half Bytes01 a b c d x y (Some z) (Some w) word high full made = rw made refl
in_half Bytes23 a b c d x y None w word high full made = absurd cc
in_half Bytes23 a b c d x y (Some z) None word high full made = absurd cc
in_half Bytes23 a b c d x y (Some z) (Some w) word high full made = rw made refl
in_half l a b c d x y z w word high full made = absurd cc

-- with LWORD* high, the part of a word with D15-D00 in both halves has the bytes on the lanes of the location
pub by_halves :
    (l : Location) (lanes : List (Option ℕ)) (word : ℕ) → length lanes ≡ 8 → (row_of l).strobes.lword ≡ true → carries l lanes ≡ true
    → word_bytes word
    ≡ unwrap_or (slice_index_or lanes 6 None) 0 ∷ unwrap_or (slice_index_or lanes 7 None) 0 ∷ unwrap_or (slice_index_or lanes 6 None) 0 ∷ unwrap_or (slice_index_or lanes 7 None) 0 ∷ []
    → part_of l word ≡ bytes_on l lanes
by_halves l (a ∷ b ∷ c ∷ d ∷ x ∷ y ∷ z ∷ w ∷ []) word eight high full made = in_half l a b c d x y z w word high full made
by_halves l lanes word eight high full made = absurd (omega (arith, eight))

-- each byte is on the lane of its own place
at_places :
    (l : Location) (a b c d x y z w : Option ℕ) (word : ℕ) → (row_of l).strobes.lword ≡ false
    → carries l (a ∷ b ∷ c ∷ d ∷ x ∷ y ∷ z ∷ w ∷ []) ≡ true
    → word_bytes word ≡ unwrap_or x 0 ∷ unwrap_or y 0 ∷ unwrap_or z 0 ∷ unwrap_or w 0 ∷ []
    → part_of l word ≡ bytes_on l (a ∷ b ∷ c ∷ d ∷ x ∷ y ∷ z ∷ w ∷ [])
at_places Bytes03 a b c d None y z w word low full made = absurd cc
at_places Bytes03 a b c d (Some x) None z w word low full made = absurd cc
at_places Bytes03 a b c d (Some x) (Some y) None w word low full made = absurd cc
at_places Bytes03 a b c d (Some x) (Some y) (Some z) None word low full made = absurd cc
at_places Bytes03 a b c d (Some x) (Some y) (Some z) (Some w) word low full made = rw made refl
at_places Bytes02 a b c d None y z w word low full made = absurd cc
at_places Bytes02 a b c d (Some x) None z w word low full made = absurd cc
at_places Bytes02 a b c d (Some x) (Some y) None w word low full made = absurd cc
at_places Bytes02 a b c d (Some x) (Some y) (Some z) w word low full made = rw made refl
at_places Bytes13 a b c d x None z w word low full made = absurd cc
at_places Bytes13 a b c d x (Some y) None w word low full made = absurd cc
at_places Bytes13 a b c d x (Some y) (Some z) None word low full made = absurd cc
at_places Bytes13 a b c d x (Some y) (Some z) (Some w) word low full made = rw made refl
at_places Bytes12 a b c d x None z w word low full made = absurd cc
at_places Bytes12 a b c d x (Some y) None w word low full made = absurd cc
at_places Bytes12 a b c d x (Some y) (Some z) w word low full made = rw made refl
at_places l a b c d x y z w word low full made = absurd cc

-- with LWORD* low, the part of a word with each lane at its own place has the bytes on the lanes of the location
pub by_places :
    (l : Location) (lanes : List (Option ℕ)) (word : ℕ) → length lanes ≡ 8 → (row_of l).strobes.lword ≡ false → carries l lanes ≡ true
    → word_bytes word
    ≡ unwrap_or (slice_index_or lanes 4 None) 0 ∷ unwrap_or (slice_index_or lanes 5 None) 0 ∷ unwrap_or (slice_index_or lanes 6 None) 0 ∷ unwrap_or (slice_index_or lanes 7 None) 0 ∷ []
    → part_of l word ≡ bytes_on l lanes
by_places l (a ∷ b ∷ c ∷ d ∷ x ∷ y ∷ z ∷ w ∷ []) word eight low full made = at_places l a b c d x y z w word low full made
by_places l lanes word eight low full made = absurd (omega (arith, eight))

-- the lanes of a location carry as many bytes as the location has
pub lanes_len : (l : Location) (lanes : List (Option ℕ)) (word : ℕ) → part_of l word ≡ bytes_on l lanes → length (bytes_on l lanes) ≡ (row_of l).len
lanes_len l lanes word bytes = ap length (sym bytes) ∙ part_len l word
