-- The words of a line, and texts cut at a byte. (Std's `lines` defines how a text is cut into lines.)
use Rattle.std.specs.Prelude.{◌≡◌, ℕ, ◌<◌, nat_lt, Bool, ◌==◌, if◌then◌else◌, List, [], ◌∷◌, length, filter, slice_index}
use Rattle.std.specs.List.{slice_split}

-- whether a part has at least one byte
abbrev pub is_nonempty : List ℕ → Bool
is_nonempty part = nat_lt 0 (length part)

-- the words of a line: the longest runs of bytes other than space
abbrev pub words : List ℕ → List (List ℕ)
words line = filter is_nonempty (slice_split (λ b. b == 32) line)

-- the words of a line; a comment (a line that begins with #) has none
abbrev pub words_of : List ℕ → List (List ℕ)
words_of line = if slice_index line 0 == 35 then [] else words line

-- a text is cut at the first `byte`, into the text before it and the text after it
pub record IsCut (byte : ℕ) (text before after : List ℕ) : Type 0 where
  pub parts : slice_split (λ b. b == byte) text ≡ before ∷ slice_split (λ b. b == byte) after
  pub shorter : length after < length text

-- a text does not contain `byte`
abbrev pub IsUncut : ℕ → List ℕ → Type 0
IsUncut byte text = slice_split (λ b. b == byte) text ≡ text ∷ []
