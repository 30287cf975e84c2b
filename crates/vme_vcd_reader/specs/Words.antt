-- The words of a dump's body, and what each of them says after those before it: IEEE 1364-2005, clause 18.2.
use Rattle.std.specs.Prelude.{◌≡◌, ℕ, ◌+◌, ◌-◌, ◌*◌, ◌^◌, nat_le, nat_lt, Bool, true, false, ◌==◌, ◌&&◌, ◌||◌, if◌then◌else◌, List, [], ◌∷◌, ◌++◌, codes, Option, Some, None}
use Rattle.std.specs.Option.{option_map, option_and_then}
use Rattle.vme_vcd_reader.specs.declared.bits.Level.{Level}
use Rattle.vme_vcd_reader.specs.Levels.{level_of, levels_of}
use Rattle.vme_vcd_reader.specs.Names.{identifier_of}

-- whether a byte is a blank: a space, a tab, a line feed, a vertical tab, a form feed or a carriage return
abbrev pub is_blank : ℕ → Bool
is_blank b = b == 32 || nat_le 9 b && nat_le b 13

-- a number with one more decimal digit, if it is below 2^64
abbrev pub with_digit : ℕ → ℕ → Option ℕ
with_digit n c = if nat_le 48 c && nat_le c 57 && nat_lt (10 * n + (c - 48)) (2 ^ 64) then Some (10 * n + (c - 48)) else None

-- the number below 2^64 that decimal digits spell after digits that spell n
abbrev pub number_from : ℕ → List ℕ → Option ℕ
number_from n [] = Some n
number_from n (c ∷ cs) = option_and_then (λ m. number_from m cs) (with_digit n c)

-- what a word begins by its first byte: a time, a vector, a value that is not read, a keyword, or a change of one bit
pub data Opening : Type 0 where
  Number : Opening
  Vector : Opening
  Skipped : Opening
  Keyword : Opening
  Scalar : Level → Opening

-- a time after #, a vector after b, a real number after r, a text after s, a keyword from $ on, a change from its level on
abbrev pub opening : ℕ → Option Opening
opening c =
    if c == 35 then Some Number else
    (if c == 98 || c == 66 then Some Vector else
    (if c == 114 || c == 82 || c == 115 || c == 83 then Some Skipped else
    (if c == 36 then Some Keyword else option_map Scalar (level_of c))))

-- what the next word is: one of those above; the identifier of a vector that has these levels; that of a value that is
-- not read; or a word of a comment
pub data Awaited : Type 0 where
  Statement : Awaited
  Variable : List Level → Awaited
  Unread : Awaited
  Remark : Awaited

-- what a word says: nothing, that a time has come, or that the variable with an identifier has changed to these levels
pub data Fact : Type 0 where
  Silence : Fact
  At : ℕ → Fact
  Change : ℕ → List Level → Fact

-- a time, of one digit at least
abbrev pub time_says : List ℕ → Option (Awaited × Fact)
time_says [] = None
time_says (c ∷ cs) = option_map (λ time. (Statement, At time)) (number_from 0 (c ∷ cs))

-- the levels of a vector, of one digit at least: its identifier is the next word
abbrev pub vector_says : List ℕ → Option (Awaited × Fact)
vector_says [] = None
vector_says (c ∷ cs) = option_map (λ levels. (Variable levels, Silence)) (levels_of (c ∷ cs))

-- a change of a variable, if there is an identifier
abbrev pub change_says : List Level → List ℕ → Option (Awaited × Fact)
change_says levels [] = None
change_says levels (c ∷ cs) = Some (Statement, Change (identifier_of (c ∷ cs)) levels)

-- a keyword: $comment begins a comment, and all others say nothing
abbrev pub keyword_says : List ℕ → Awaited × Fact
keyword_says word = (if identifier_of word == identifier_of (codes "$comment") then Remark else Statement, Silence)

-- a word of a comment, which $end ends
abbrev pub remark_says : List ℕ → Awaited × Fact
remark_says word = (if identifier_of word == identifier_of (codes "$end") then Statement else Remark, Silence)

-- a word by what it begins
abbrev pub opened_says : ℕ → List ℕ → Opening → Option (Awaited × Fact)
opened_says c cs Number = time_says cs
opened_says c cs Vector = vector_says cs
opened_says c cs Skipped = Some (Unread, Silence)
opened_says c cs Keyword = Some (keyword_says (c ∷ cs))
opened_says c cs (Scalar level) = change_says (level ∷ []) cs

-- what a word says, and what the next one is then; `None` if no dump has the word there
abbrev pub word_says : Awaited → List ℕ → Option (Awaited × Fact)
word_says Statement [] = None
word_says Statement (c ∷ cs) = option_and_then (opened_says c cs) (opening c)
word_says (Variable levels) word = change_says levels word
word_says Unread word = Some (Statement, Silence)
word_says Remark word = Some (remark_says word)

-- what a blank says after the begin of a word: it ends the word, if there is one
abbrev pub blank_says : Awaited → List ℕ → Option ((Awaited × List ℕ) × Fact)
blank_says awaited [] = Some ((awaited, []), Silence)
blank_says awaited (c ∷ cs) = option_map (λ says. ((says.0, []), says.1)) (word_says awaited (c ∷ cs))

-- what a byte says after the begin of a word, and the begin that it leaves
abbrev pub byte_says : Awaited → List ℕ → ℕ → Option ((Awaited × List ℕ) × Fact)
byte_says awaited word b = if is_blank b then blank_says awaited word else Some ((awaited, word ++ b ∷ []), Silence)

-- no dump has a word that is these bytes, or, if the next byte is no blank, begins with them and it
abbrev pub NoWord : Awaited → List ℕ → ℕ → Type 0
NoWord awaited word b =
    (is_blank b ≡ true → blank_says awaited word ≡ None)
    × (is_blank b ≡ false → (more : List ℕ) → word_says awaited (word ++ b ∷ more) ≡ None)
