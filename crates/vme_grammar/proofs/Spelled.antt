-- Fields before one space are the first words of their texts.
use Rattle.std.proofs.Common.{◌≡◌, ℕ, ◌<◌, List, ◌∷◌, ◌++◌, take, drop, Option, Some, refl, sym, ap, ◌∙◌, take-append-drop}
use Rattle.vme_lexer.specs.Numbers.{hex_number, small_number, local_number}
use Rattle.vme_grammar.specs.Canonical.{Spelled}
use Rattle.vme_grammar.proofs.Words.{IsWord, first_word, hex_is_word, small_is_word, local_is_word}
use Rattle.vme_lexer.specs.Words.{words}

-- a text is a word, a space and a rest
pub apart : (len : ℕ) (text word tail rest : List ℕ) → word ≡ take len text → tail ≡ drop len text → tail ≡ 32 ∷ rest → text ≡ word ++ 32 ∷ rest
apart len text word tail rest prefix back space = sym (take-append-drop len text) ∙ rw (← prefix, ← back, space) refl

-- the first word of a text spells a value
spelled_by :
    (reads : List ℕ → Option ℕ) (len n : ℕ) (text word tail rest : List ℕ) → word ≡ take len text → tail ≡ drop len text → tail ≡ 32 ∷ rest
    → IsWord word → reads word ≡ Some n → Spelled reads text n rest
spelled_by reads len n text word tail rest prefix back space is read = record {
  word = word;
  first = ap words (apart len text word tail rest prefix back space) ∙ first_word word rest is;
  spells = read;
}

-- a number of hexadecimal digits is spelled
pub hex_spelled :
    (len n : ℕ) (text word tail rest : List ℕ) → 0 < len → word ≡ take len text → tail ≡ drop len text → tail ≡ 32 ∷ rest
    → hex_number len word ≡ Some n → Spelled (hex_number len) text n rest
hex_spelled len n text word tail rest some prefix back space read =
    spelled_by (hex_number len) len n text word tail rest prefix back space (hex_is_word len n word some read) read

-- a digit from 1 to 8 is spelled
pub small_spelled :
    (n : ℕ) (text word tail rest : List ℕ) → word ≡ take 1 text → tail ≡ drop 1 text → tail ≡ 32 ∷ rest
    → small_number word ≡ Some n → Spelled small_number text n rest
small_spelled n text word tail rest prefix back space read =
    spelled_by small_number 1 n text word tail rest prefix back space (small_is_word n word read) read

-- a digit 1, 2 or 4 is spelled
pub local_spelled :
    (n : ℕ) (text word tail rest : List ℕ) → word ≡ take 1 text → tail ≡ drop 1 text → tail ≡ 32 ∷ rest
    → local_number word ≡ Some n → Spelled local_number text n rest
local_spelled n text word tail rest prefix back space read =
    spelled_by local_number 1 n text word tail rest prefix back space (local_is_word n word read) read
