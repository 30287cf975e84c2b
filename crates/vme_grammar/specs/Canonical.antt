-- What the parser of lines in canonical form finds at the start of a text.
use Rattle.std.specs.Prelude.{◌≡◌, ℕ, List, [], ◌∷◌, Option, Some, None, Ok, codes}
use Rattle.arrayvec.specs.ArrayVec.{ArrayVec}
use Rattle.vme_cycle.specs.declared.modify.Modify.{Modify}
use Rattle.vme_cycle.specs.declared.modify.Modify.TheVariants as modifies
use Rattle.vme_grammar.specs.declared.line.Line.{Line}
use Rattle.vme_grammar.specs.Grammar.{line_of_words}
use Rattle.vme_lexer.specs.Numbers.{hex_number, exact_bytes, decimal_number}
use Rattle.vme_lexer.specs.Words.{words}

-- the first word of a text spells a value, and its other words are the words of the rest
pub record Spelled (reads : List ℕ → Option ℕ) (text : List ℕ) (value : ℕ) (rest : List ℕ) : Type 0 where
  pub word : List ℕ
  pub first : words text ≡ word ∷ words rest
  pub spells : reads word ≡ Some value

-- the first two words of a text spell a code and an address, and its other words are the words of the rest
pub record IsPlace (text : List ℕ) (am addr : ℕ) (rest : List ℕ) : Type 0 where
  pub between : List ℕ
  pub code : Spelled (hex_number 2) text am between
  pub address : Spelled (hex_number 8) between addr rest

-- a word spells a datum of n bytes
abbrev pub IsDatum : ℕ → List ℕ → ArrayVec ℕ → Type 0
IsDatum n word datum = exact_bytes n word ≡ Some datum.items

-- two words spell a number of data and a datum of n bytes
pub record IsFill (n : ℕ) (words : List (List ℕ)) (count : ℕ) (bytes : ArrayVec ℕ) : Type 0 where
  pub first : List ℕ
  pub second : List ℕ
  pub both : words ≡ first ∷ second ∷ []
  pub number : decimal_number 4 first ≡ Some count
  pub datum : IsDatum n second bytes

-- two words spell two data of n bytes
pub record AreData (n : ℕ) (words : List (List ℕ)) (expect put : ArrayVec ℕ) : Type 0 where
  pub first : List ℕ
  pub second : List ℕ
  pub both : words ≡ first ∷ second ∷ []
  pub expected : IsDatum n first expect
  pub datum : IsDatum n second put

-- words are the name of a function and its data, of n bytes each
pub data IsFunction (n : ℕ) : List (List ℕ) → Modify → Type 0 where
  set : IsFunction n (codes "set" ∷ []) modifies.Set
  exchange : {hex : List ℕ} {by : ArrayVec ℕ} → IsDatum n hex by → IsFunction n (codes "xchg" ∷ hex ∷ []) (modifies.Exchange by)
  add : {hex : List ℕ} {by : ArrayVec ℕ} → IsDatum n hex by → IsFunction n (codes "add" ∷ hex ∷ []) (modifies.Add by)
  compare : {hex more : List ℕ} {expect put : ArrayVec ℕ} → IsDatum n hex expect → IsDatum n more put
      → IsFunction n (codes "cas" ∷ hex ∷ more ∷ []) (modifies.Compare expect put)

-- a line with this first word and this text after it is read as the given line, if one is given
abbrev pub Asks : List ℕ → List ℕ → Option Line → Type 0
Asks word text None = Unit {0}
Asks word text (Some line) = line_of_words (word ∷ words text) ≡ Ok line
