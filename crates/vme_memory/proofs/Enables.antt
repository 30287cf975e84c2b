-- A word that takes the bytes of a location from another word under its byte enables, and the word that data lines
-- carry.
use Rattle.std.proofs.Common.{◌≡◌, ℕ, ◌+◌, ◌/◌, ◌%◌, ◌^◌, ◌<◌, ◌≤◌, [], ◌∷◌, length, refl, ap, sym, ◌∙◌, arith}
use Rattle.std.specs.Prelude.{bit_or, bit_and}
use Rattle.std.specs.Int.{w32, bit_not}
use Rattle.std.specs.Int.Bits.{and_zero_r, or_zero_r, or_zero_l}
use Rattle.std.proofs.lemmas.Nat.{or_shr, and_shr, or_mod, and_mod, and_mask}
use Rattle.vme_lanes.specs.declared.location.Location.{Location}
use Rattle.vme_lanes.specs.declared.location.Location.TheVariants.{Byte0, Byte1, Byte2, Byte3, Bytes01, Bytes23, Bytes03, Bytes02, Bytes13, Bytes12}
use Rattle.vme_lanes.specs.Rows.{row_of}
use Rattle.vme_memory.specs.Words.{bytes_after_write, word_bytes, part_of, enables_of}

-- a byte of the bitwise or of two numbers is the or of their bytes
byte_or : (a b k : ℕ) → bit_or a b / 2 ^ k % 2 ^ 8 ≡ bit_or (a / 2 ^ k % 2 ^ 8) (b / 2 ^ k % 2 ^ 8)
byte_or a b k = ap (λ n. n % 2 ^ 8) (or_shr a b k) ∙ or_mod (a / 2 ^ k) (b / 2 ^ k) 8

-- a byte of the bitwise and of two numbers is the and of their bytes
byte_and : (a b k : ℕ) → bit_and a b / 2 ^ k % 2 ^ 8 ≡ bit_and (a / 2 ^ k % 2 ^ 8) (b / 2 ^ k % 2 ^ 8)
byte_and a b k = ap (λ n. n % 2 ^ 8) (and_shr a b k) ∙ and_mod (a / 2 ^ k) (b / 2 ^ k) 8

-- under the mask of eight ones, a byte is unchanged
whole_byte : (n : ℕ) → bit_and (n % 2 ^ 8) 255 ≡ n % 2 ^ 8
whole_byte n = and_mask (n % 2 ^ 8) 8 ∙ omega arith

-- the word with the bits of a mask taken from another word
abbrev pub merged : ℕ → ℕ → ℕ → ℕ
merged word new mask = bit_or (bit_and word (bit_not w32 mask)) (bit_and new mask)

-- where the mask is zero, the byte of the word stays
kept_byte :
    (word new mask k : ℕ) → bit_not w32 mask / 2 ^ k % 2 ^ 8 ≡ 255 → mask / 2 ^ k % 2 ^ 8 ≡ 0
    → merged word new mask / 2 ^ k % 2 ^ 8 ≡ word / 2 ^ k % 2 ^ 8
kept_byte word new mask k ones zeros =
    byte_or (bit_and word (bit_not w32 mask)) (bit_and new mask) k
    ∙ ap (λ x. bit_or x (bit_and new mask / 2 ^ k % 2 ^ 8)) (byte_and word (bit_not w32 mask) k ∙ ap (bit_and (word / 2 ^ k % 2 ^ 8)) ones ∙ whole_byte (word / 2 ^ k))
    ∙ ap (bit_or (word / 2 ^ k % 2 ^ 8)) (byte_and new mask k ∙ ap (bit_and (new / 2 ^ k % 2 ^ 8)) zeros ∙ and_zero_r (new / 2 ^ k % 2 ^ 8))
    ∙ or_zero_r (word / 2 ^ k % 2 ^ 8)

-- where the mask is all ones, the byte is that of the other word
put_byte :
    (word new mask k : ℕ) → bit_not w32 mask / 2 ^ k % 2 ^ 8 ≡ 0 → mask / 2 ^ k % 2 ^ 8 ≡ 255
    → merged word new mask / 2 ^ k % 2 ^ 8 ≡ new / 2 ^ k % 2 ^ 8
put_byte word new mask k zeros ones =
    byte_or (bit_and word (bit_not w32 mask)) (bit_and new mask) k
    ∙ ap (λ x. bit_or x (bit_and new mask / 2 ^ k % 2 ^ 8)) (byte_and word (bit_not w32 mask) k ∙ ap (bit_and (word / 2 ^ k % 2 ^ 8)) zeros ∙ and_zero_r (word / 2 ^ k % 2 ^ 8))
    ∙ ap (bit_or 0) (byte_and new mask k ∙ ap (bit_and (new / 2 ^ k % 2 ^ 8)) ones ∙ whole_byte (new / 2 ^ k))
    ∙ or_zero_l (new / 2 ^ k % 2 ^ 8)

-- the lowest byte of a number is the number modulo 256
low_byte : (n : ℕ) → n / 2 ^ 0 % 2 ^ 8 ≡ n % 256
low_byte n = omega arith

-- where the mask is zero, the lowest byte of the word stays
kept_low :
    (word new mask : ℕ) → bit_not w32 mask / 2 ^ 0 % 2 ^ 8 ≡ 255 → mask / 2 ^ 0 % 2 ^ 8 ≡ 0 → merged word new mask % 256 ≡ word % 256
kept_low word new mask ones zeros = sym (low_byte (merged word new mask)) ∙ kept_byte word new mask 0 ones zeros ∙ low_byte word

-- where the mask is all ones, the lowest byte is that of the other word
put_low :
    (word new mask : ℕ) → bit_not w32 mask / 2 ^ 0 % 2 ^ 8 ≡ 0 → mask / 2 ^ 0 % 2 ^ 8 ≡ 255 → merged word new mask % 256 ≡ new % 256
put_low word new mask zeros ones = sym (low_byte (merged word new mask)) ∙ put_byte word new mask 0 zeros ones ∙ low_byte new

-- two lists of four elements that agree at each place are equal
pub four :
    (a b c d e f g h : ℕ) → a ≡ e → b ≡ f → c ≡ g → d ≡ h → (a ∷ b ∷ c ∷ d ∷ []) ≡ (e ∷ f ∷ g ∷ h ∷ [])
four a b c d e f g h p q r s = cc

-- a word merged under the byte enables of a location takes the location's bytes and keeps all others
pub merged_bytes :
    (l : Location) (word new : ℕ)
    → word_bytes (merged word new (enables_of l))
    ≡ bytes_after_write (word_bytes word) (row_of l).first (part_of l new)
unfolding word_bytes
merged_bytes Byte0 word new =
    four _ _ _ _ _ _ _ _ (put_byte word new (enables_of Byte0) 24 refl refl) (kept_byte word new (enables_of Byte0) 16 refl refl)
    (kept_byte word new (enables_of Byte0) 8 refl refl) (kept_low word new (enables_of Byte0) refl refl)
merged_bytes Byte1 word new =
    four _ _ _ _ _ _ _ _ (kept_byte word new (enables_of Byte1) 24 refl refl) (put_byte word new (enables_of Byte1) 16 refl refl)
    (kept_byte word new (enables_of Byte1) 8 refl refl) (kept_low word new (enables_of Byte1) refl refl)
merged_bytes Byte2 word new =
    four _ _ _ _ _ _ _ _ (kept_byte word new (enables_of Byte2) 24 refl refl) (kept_byte word new (enables_of Byte2) 16 refl refl)
    (put_byte word new (enables_of Byte2) 8 refl refl) (kept_low word new (enables_of Byte2) refl refl)
merged_bytes Byte3 word new =
    four _ _ _ _ _ _ _ _ (kept_byte word new (enables_of Byte3) 24 refl refl) (kept_byte word new (enables_of Byte3) 16 refl refl)
    (kept_byte word new (enables_of Byte3) 8 refl refl) (put_low word new (enables_of Byte3) refl refl)
merged_bytes Bytes01 word new =
    four _ _ _ _ _ _ _ _ (put_byte word new (enables_of Bytes01) 24 refl refl) (put_byte word new (enables_of Bytes01) 16 refl refl)
    (kept_byte word new (enables_of Bytes01) 8 refl refl) (kept_low word new (enables_of Bytes01) refl refl)
merged_bytes Bytes23 word new =
    four _ _ _ _ _ _ _ _ (kept_byte word new (enables_of Bytes23) 24 refl refl) (kept_byte word new (enables_of Bytes23) 16 refl refl)
    (put_byte word new (enables_of Bytes23) 8 refl refl) (put_low word new (enables_of Bytes23) refl refl)
merged_bytes Bytes03 word new =
    four _ _ _ _ _ _ _ _ (put_byte word new (enables_of Bytes03) 24 refl refl) (put_byte word new (enables_of Bytes03) 16 refl refl)
    (put_byte word new (enables_of Bytes03) 8 refl refl) (put_low word new (enables_of Bytes03) refl refl)
merged_bytes Bytes02 word new =
    four _ _ _ _ _ _ _ _ (put_byte word new (enables_of Bytes02) 24 refl refl) (put_byte word new (enables_of Bytes02) 16 refl refl)
    (put_byte word new (enables_of Bytes02) 8 refl refl) (kept_low word new (enables_of Bytes02) refl refl)
merged_bytes Bytes13 word new =
    four _ _ _ _ _ _ _ _ (kept_byte word new (enables_of Bytes13) 24 refl refl) (put_byte word new (enables_of Bytes13) 16 refl refl)
    (put_byte word new (enables_of Bytes13) 8 refl refl) (put_low word new (enables_of Bytes13) refl refl)
merged_bytes Bytes12 word new =
    four _ _ _ _ _ _ _ _ (kept_byte word new (enables_of Bytes12) 24 refl refl) (put_byte word new (enables_of Bytes12) 16 refl refl)
    (put_byte word new (enables_of Bytes12) 8 refl refl) (kept_low word new (enables_of Bytes12) refl refl)

-- a location has at least one byte of a word, and its bytes lie within the word
pub row_within : (l : Location) → (0 < (row_of l).len) × ((row_of l).first + (row_of l).len ≤ 4)
row_within Byte0 = (omega arith, omega arith)
row_within Byte1 = (omega arith, omega arith)
row_within Byte2 = (omega arith, omega arith)
row_within Byte3 = (omega arith, omega arith)
row_within Bytes01 = (omega arith, omega arith)
row_within Bytes23 = (omega arith, omega arith)
row_within Bytes03 = (omega arith, omega arith)
row_within Bytes02 = (omega arith, omega arith)
row_within Bytes13 = (omega arith, omega arith)
row_within Bytes12 = (omega arith, omega arith)

-- the part of a location in a word has the length of the location
pub part_len : (l : Location) (word : ℕ) → length (part_of l word) ≡ (row_of l).len
unfolding word_bytes
part_len Byte0 word = refl
part_len Byte1 word = refl
part_len Byte2 word = refl
part_len Byte3 word = refl
part_len Bytes01 word = refl
part_len Bytes23 word = refl
part_len Bytes03 word = refl
part_len Bytes02 word = refl
part_len Bytes13 word = refl
part_len Bytes12 word = refl
