-- Texts by their first bytes.
use Rattle.std.proofs.Common.{◌≡◌, ℕ, ◌≤◌, ◌-◌, List, [], ◌∷◌, length, take, drop, slice_index_or, refl, arith}
use Rattle.std.proofs.lemmas.List.{take_rest}

-- a text of at least one byte is its first byte and the rest
pub one_byte :
    (text : List ℕ) (a : ℕ) → 1 ≤ length text → slice_index_or text 0 0 ≡ a → text ≡ a ∷ take (length text - 1) (drop 1 text)
one_byte [] a long first = absurd (omega arith)
one_byte (x ∷ rest) a long first = rw (first, take_rest (x ∷ rest) 1) refl

-- a text of at least two bytes is its first two bytes and the rest
pub two_bytes :
    (text : List ℕ) → 2 ≤ length text
    → text ≡ slice_index_or text 0 0 ∷ slice_index_or text 1 0 ∷ take (length text - 2) (drop 2 text)
two_bytes [] long = absurd (omega arith)
two_bytes (x ∷ []) long = absurd (omega arith)
two_bytes (x ∷ y ∷ rest) long = rw (take_rest (x ∷ y ∷ rest) 2) refl

-- a text of at least four bytes, whose values are known, is these four bytes and the rest
pub four_bytes :
    (text : List ℕ) (a b c d : ℕ) → 4 ≤ length text → slice_index_or text 0 0 ≡ a → slice_index_or text 1 0 ≡ b → slice_index_or text 2 0 ≡ c
    → slice_index_or text 3 0 ≡ d → text ≡ a ∷ b ∷ c ∷ d ∷ take (length text - 4) (drop 4 text)
four_bytes [] a b c d long first second third fourth = absurd (omega arith)
four_bytes (x ∷ []) a b c d long first second third fourth = absurd (omega arith)
four_bytes (x ∷ y ∷ []) a b c d long first second third fourth = absurd (omega arith)
four_bytes (x ∷ y ∷ z ∷ []) a b c d long first second third fourth = absurd (omega arith)
four_bytes (x ∷ y ∷ z ∷ u ∷ rest) a b c d long first second third fourth =
    rw (first, second, third, fourth, take_rest (x ∷ y ∷ z ∷ u ∷ rest) 4) refl

-- a text of at least four bytes is its first four bytes and the rest
pub four :
    (text : List ℕ) → 4 ≤ length text
    → text ≡ slice_index_or text 0 0 ∷ slice_index_or text 1 0 ∷ slice_index_or text 2 0 ∷ slice_index_or text 3 0
    ∷ take (length text - 4) (drop 4 text)
four text long = four_bytes text _ _ _ _ long refl refl refl refl
