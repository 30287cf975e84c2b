-- The words of a dump's body, byte by byte.
use Rattle.std.proofs.Common.{◌≡◌, ◌≢◌, ◌⊎◌, inl, inr, ℕ, false, List, [], ◌∷◌, ◌++◌, length, Option, Some, None, Result, Ok, Err, OnErr, refl, ap, sym, subst, ◌∙◌, arith}
use Rattle.std.specs.Prelude.{if◌then◌else◌}
use Rattle.std.specs.Option.{option_map, option_and_then}
use Rattle.vme_vcd_reader.specs.declared.bits.Bits.{Bits}
use Rattle.vme_vcd_reader.specs.declared.bits.Level.{Level}
use Rattle.vme_vcd_reader.specs.declared.body.Body.{Body}
use Rattle.vme_vcd_reader.specs.declared.body.Place.TheVariants as places
use Rattle.vme_vcd_reader.specs.declared.body.Said.TheVariants as said
use Rattle.vme_vcd_reader.specs.Levels.{level_of, levels_of, IsValue}
use Rattle.vme_vcd_reader.specs.Names.{with_character, identifier_of}
use Rattle.vme_vcd_reader.specs.Places.{HasDigits, HasOpened, IsAt, Takes}
use Rattle.vme_vcd_reader.specs.Words.{is_blank, with_digit, number_from, Opening, Number, Vector, Skipped, Keyword, Scalar, opening, Awaited, Statement, Variable, Unread, Remark, Fact, Silence, At, time_says, vector_says, opened_says, word_says, blank_says, byte_says, NoWord}
use Rattle.vme_vcd_reader.proofs.Digits.{characters_more, character_some, characters_some, numbers_more, levels_stop, levels_length}

-- a change without an identifier
opened_no_name : (o : Option Opening) (c : ℕ) (cs : List ℕ) (s : Body) → HasOpened c cs s o → s.place ≡ places.Identifier → s.number ≡ 0
    → option_and_then (opened_says c cs) o ≡ None
opened_no_name None c cs s has place none = absurd has
opened_no_name (Some Number) c cs s has place none = absurd (cc (has.place))
opened_no_name (Some Vector) c cs s has place none = absurd (cc (has.place))
opened_no_name (Some Skipped) c cs s has place none = absurd (cc)
opened_no_name (Some Keyword) c cs s has place none = absurd (cc (has.0))
opened_no_name (Some (Scalar level)) c [] s has place none = refl
opened_no_name (Some (Scalar level)) c (d ∷ ds) s has place none =
    absurd (omega (arith, has.number, characters_some ds (with_character 0 d) (character_some 0 d)))

pub no_name : (awaited : Awaited) (word : List ℕ) (s : Body) → IsAt awaited word s → s.place ≡ places.Identifier → s.number ≡ 0
    → blank_says awaited word ≡ None
no_name Statement [] s at place none = absurd (cc)
no_name Statement (c ∷ cs) s at place none =
    ap (option_map (λ (says : Awaited × Fact). ((says.0, []), says.1))) (opened_no_name (opening c) c cs s at place none)
no_name (Variable levels) [] s at place none = absurd (cc (at.0))
no_name (Variable levels) (c ∷ cs) s at place none =
    absurd (omega (arith, at.number, characters_some cs (with_character 0 c) (character_some 0 c)))
no_name Unread [] s at place none = absurd (cc)
no_name Unread (c ∷ cs) s at place none = absurd (cc)
no_name Remark word s at place none = absurd (cc (at.0))

-- the state after a word, at another place
abbrev pub moved : Body → places.the_data → Body
moved s place = record { place = place; number = s.number; bits = s.bits; first = s.first; digits = s.digits }

-- a change of a variable
opened_name : (o : Option Opening) (c : ℕ) (cs : List ℕ) (s : Body) → HasOpened c cs s o → s.place ≡ places.Identifier → s.number ≢ 0
    → Takes (option_map (λ says. ((says.0, []), says.1)) (option_and_then (opened_says c cs) o)) (said.Change s.number) (moved s places.Gap)
opened_name None c cs s has place some = absurd has
opened_name (Some Number) c cs s has place some = absurd (cc (has.place))
opened_name (Some Vector) c cs s has place some = absurd (cc (has.place))
opened_name (Some Skipped) c cs s has place some = absurd (cc)
opened_name (Some Keyword) c cs s has place some = absurd (cc (has.0))
opened_name (Some (Scalar level)) c [] s has place some = absurd (some has.number)
opened_name (Some (Scalar level)) c (d ∷ ds) s has place some = (refl, (ap said.Change has.number, has.value))

pub name_ends : (awaited : Awaited) (word : List ℕ) (s : Body) → IsAt awaited word s → s.place ≡ places.Identifier → s.number ≢ 0
    → Takes (blank_says awaited word) (said.Change s.number) (moved s places.Gap)
name_ends Statement [] s at place some = absurd (cc)
name_ends Statement (c ∷ cs) s at place some = opened_name (opening c) c cs s at place some
name_ends (Variable levels) [] s at place some = absurd (cc (at.0))
name_ends (Variable levels) (c ∷ cs) s at place some = (refl, (ap said.Change at.number, at.value))
name_ends Unread [] s at place some = absurd (cc)
name_ends Unread (c ∷ cs) s at place some = absurd (cc)
name_ends Remark word s at place some = absurd (cc (at.0))

-- a value of no levels has no digits, and one of some has some
no_levels : (ls : List Level) (b : Bits) (first : Level) (digits : ℕ) → IsValue ls b first digits → digits ≡ 0 → length ls ≡ 0
no_levels [] b first digits is none = refl
no_levels (l ∷ ls) b first digits is none = absurd (omega (arith, is.2))

some_levels : (ls : List Level) (b : Bits) (first : Level) (digits : ℕ) → IsValue ls b first digits → digits ≢ 0 → length ls ≢ 0
some_levels [] b first digits is some = absurd (some is.2)
some_levels (l ∷ ls) b first digits is some = omega arith

-- a vector without digits
opened_no_digits : (o : Option Opening) (c : ℕ) (cs : List ℕ) (s : Body) → HasOpened c cs s o → s.place ≡ places.Digits → s.digits ≡ 0
    → option_and_then (opened_says c cs) o ≡ None
opened_no_digits None c cs s has place none = absurd has
opened_no_digits (Some Number) c cs s has place none = absurd (cc (has.place))
opened_no_digits (Some Vector) c [] s has place none = refl
opened_no_digits (Some Vector) c (d ∷ ds) s has place none =
    absurd (omega (arith, levels_length (d ∷ ds) has.levels has.are, no_levels has.levels s.bits s.first s.digits has.value none))
opened_no_digits (Some Skipped) c cs s has place none = absurd (cc)
opened_no_digits (Some Keyword) c cs s has place none = absurd (cc (has.0))
opened_no_digits (Some (Scalar level)) c cs s has place none = absurd (cc (has.place))

pub no_digits : (awaited : Awaited) (word : List ℕ) (s : Body) → IsAt awaited word s → s.place ≡ places.Digits → s.digits ≡ 0
    → blank_says awaited word ≡ None
no_digits Statement [] s at place none = absurd (cc)
no_digits Statement (c ∷ cs) s at place none =
    ap (option_map (λ (says : Awaited × Fact). ((says.0, []), says.1))) (opened_no_digits (opening c) c cs s at place none)
no_digits (Variable levels) [] s at place none = absurd (cc (at.0))
no_digits (Variable levels) (c ∷ cs) s at place none = absurd (cc (at.place))
no_digits Unread [] s at place none = absurd (cc)
no_digits Unread (c ∷ cs) s at place none = absurd (cc)
no_digits Remark word s at place none = absurd (cc (at.0))

-- the end of a vector's digits
opened_digits : (o : Option Opening) (c : ℕ) (cs : List ℕ) (s : Body) → HasOpened c cs s o → s.place ≡ places.Digits → s.digits ≢ 0
    → Takes (option_map (λ says. ((says.0, []), says.1)) (option_and_then (opened_says c cs) o)) said.Nothing (moved s places.DigitsEnd)
opened_digits None c cs s has place some = absurd has
opened_digits (Some Number) c cs s has place some = absurd (cc (has.place))
opened_digits (Some Vector) c [] s has place some =
    absurd (some_levels has.levels s.bits s.first s.digits has.value some (levels_length [] has.levels has.are))
opened_digits (Some Vector) c (d ∷ ds) s has place some =
    subst (λ (o : Option (List Level)). Takes (option_map (λ (says : Awaited × Fact). ((says.0, []), says.1)) (option_map (λ levels. (Variable levels, Silence)) o)) said.Nothing (moved s places.DigitsEnd))
    (sym has.are) ((refl, has.value), refl)
opened_digits (Some Skipped) c cs s has place some = absurd (cc)
opened_digits (Some Keyword) c cs s has place some = absurd (cc (has.0))
opened_digits (Some (Scalar level)) c cs s has place some = absurd (cc (has.place))

pub digits_end : (awaited : Awaited) (word : List ℕ) (s : Body) → IsAt awaited word s → s.place ≡ places.Digits → s.digits ≢ 0
    → Takes (blank_says awaited word) said.Nothing (moved s places.DigitsEnd)
digits_end Statement [] s at place some = absurd (cc)
digits_end Statement (c ∷ cs) s at place some = opened_digits (opening c) c cs s at place some
digits_end (Variable levels) [] s at place some = absurd (cc (at.0))
digits_end (Variable levels) (c ∷ cs) s at place some = absurd (cc (at.place))
digits_end Unread [] s at place some = absurd (cc)
digits_end Unread (c ∷ cs) s at place some = absurd (cc)
digits_end Remark word s at place some = absurd (cc (at.0))

-- a byte within a word
pub takes_within : (awaited : Awaited) (word : List ℕ) (b : ℕ) (t : Body) → is_blank b ≡ false → IsAt awaited (word ++ b ∷ []) t
    → Takes (byte_says awaited word b) said.Nothing t
takes_within awaited word b t within at =
    subst (λ test. Takes (if test then blank_says awaited word else Some ((awaited, word ++ b ∷ []), Silence)) said.Nothing t) (sym within) (at, refl)

-- the state with another number
abbrev pub numbered : Body → ℕ → Body
numbered s number = record { place = s.place; number = number; bits = s.bits; first = s.first; digits = s.digits }

-- one more character of an identifier, a keyword or a word of a comment
name_more : (c : ℕ) (cs : List ℕ) (b number : ℕ) → number ≡ identifier_of (c ∷ cs) → with_character number b ≡ identifier_of (c ∷ (cs ++ b ∷ []))
name_more c cs b number is = ap (λ n. with_character n b) is ∙ sym (characters_more cs (with_character 0 c) b)

opened_name_more : (o : Option Opening) (c : ℕ) (cs : List ℕ) (b : ℕ) (s : Body) → HasOpened c cs s o → s.place ≡ places.Identifier
    → HasOpened c (cs ++ b ∷ []) (numbered s (with_character s.number b)) o
opened_name_more None c cs b s has place = absurd has
opened_name_more (Some Number) c cs b s has place = absurd (cc (has.place))
opened_name_more (Some Vector) c cs b s has place = absurd (cc (has.place))
opened_name_more (Some Skipped) c cs b s has place = absurd (cc)
opened_name_more (Some Keyword) c cs b s has place = absurd (cc (has.0))
opened_name_more (Some (Scalar level)) c cs b s has place = record {
  place = has.place;
  value = has.value;
  number = ap (λ n. with_character n b) has.number ∙ sym (characters_more cs 0 b);
}

opened_keyword_more : (o : Option Opening) (c : ℕ) (cs : List ℕ) (b : ℕ) (s : Body) → HasOpened c cs s o → s.place ≡ places.Keyword
    → HasOpened c (cs ++ b ∷ []) (numbered s (with_character s.number b)) o
opened_keyword_more None c cs b s has place = absurd has
opened_keyword_more (Some Number) c cs b s has place = absurd (cc (has.place))
opened_keyword_more (Some Vector) c cs b s has place = absurd (cc (has.place))
opened_keyword_more (Some Skipped) c cs b s has place = absurd (cc)
opened_keyword_more (Some Keyword) c cs b s has place = (has.0, name_more c cs b s.number has.1)
opened_keyword_more (Some (Scalar level)) c cs b s has place = absurd (cc (has.place))

identifier_more : (awaited : Awaited) (word : List ℕ) (b : ℕ) (s : Body) → IsAt awaited word s → s.place ≡ places.Identifier
    → IsAt awaited (word ++ b ∷ []) (numbered s (with_character s.number b))
identifier_more Statement [] b s at place = absurd (cc)
identifier_more Statement (c ∷ cs) b s at place = opened_name_more (opening c) c cs b s at place
identifier_more (Variable levels) [] b s at place = absurd (cc (at.0))
identifier_more (Variable levels) (c ∷ cs) b s at place =
    record { place = at.place; value = at.value; number = name_more c cs b s.number at.number }
identifier_more Unread [] b s at place = absurd (cc)
identifier_more Unread (c ∷ cs) b s at place = absurd (cc)
identifier_more Remark word b s at place = absurd (cc (at.0))

keyword_more : (awaited : Awaited) (word : List ℕ) (b : ℕ) (s : Body) → IsAt awaited word s → s.place ≡ places.Keyword
    → IsAt awaited (word ++ b ∷ []) (numbered s (with_character s.number b))
keyword_more Statement [] b s at place = absurd (cc)
keyword_more Statement (c ∷ cs) b s at place = opened_keyword_more (opening c) c cs b s at place
keyword_more (Variable levels) [] b s at place = absurd (cc (at.0))
keyword_more (Variable levels) (c ∷ cs) b s at place = absurd (cc (at.place))
keyword_more Unread [] b s at place = absurd (cc)
keyword_more Unread (c ∷ cs) b s at place = absurd (cc)
keyword_more Remark word b s at place = absurd (cc (at.0))

opened_no_remark : (o : Option Opening) (c : ℕ) (cs : List ℕ) (s : Body) → HasOpened c cs s o → s.place ≡ places.Comment → ⊥
opened_no_remark None c cs s has place = has
opened_no_remark (Some Number) c cs s has place = cc (has.place)
opened_no_remark (Some Vector) c cs s has place = cc (has.place)
opened_no_remark (Some Skipped) c cs s has place = cc
opened_no_remark (Some Keyword) c cs s has place = cc (has.0)
opened_no_remark (Some (Scalar level)) c cs s has place = cc (has.place)

remark_more : (awaited : Awaited) (word : List ℕ) (b : ℕ) (s : Body) → IsAt awaited word s → s.place ≡ places.Comment
    → IsAt awaited (word ++ b ∷ []) (numbered s (with_character s.number b))
remark_more Statement [] b s at place = absurd (cc)
remark_more Statement (c ∷ cs) b s at place = absurd (opened_no_remark (opening c) c cs s at place)
remark_more (Variable levels) [] b s at place = absurd (cc (at.0))
remark_more (Variable levels) (c ∷ cs) b s at place = absurd (cc (at.place))
remark_more Unread [] b s at place = absurd (cc)
remark_more Unread (c ∷ cs) b s at place = absurd (cc)
remark_more Remark word b s at place = (at.0, ap (λ n. with_character n b) at.1 ∙ sym (characters_more word 0 b))

-- one more digit of a vector
opened_digits_more : (o : Option Opening) (c : ℕ) (cs : List ℕ) (b : ℕ) (s t : Body) → HasOpened c cs s o → s.place ≡ places.Digits
    → ((digits : List ℕ) → HasDigits digits s → HasDigits (digits ++ b ∷ []) t) → HasOpened c (cs ++ b ∷ []) t o
opened_digits_more None c cs b s t has place more = absurd has
opened_digits_more (Some Number) c cs b s t has place more = absurd (cc (has.place))
opened_digits_more (Some Vector) c cs b s t has place more = more cs has
opened_digits_more (Some Skipped) c cs b s t has place more = absurd (cc)
opened_digits_more (Some Keyword) c cs b s t has place more = absurd (cc (has.0))
opened_digits_more (Some (Scalar level)) c cs b s t has place more = absurd (cc (has.place))

pub digits_more : (awaited : Awaited) (word : List ℕ) (b : ℕ) (s t : Body) → IsAt awaited word s → s.place ≡ places.Digits
    → ((digits : List ℕ) → HasDigits digits s → HasDigits (digits ++ b ∷ []) t) → IsAt awaited (word ++ b ∷ []) t
digits_more Statement [] b s t at place more = absurd (cc)
digits_more Statement (c ∷ cs) b s t at place more = opened_digits_more (opening c) c cs b s t at place more
digits_more (Variable levels) [] b s t at place more = absurd (cc (at.0))
digits_more (Variable levels) (c ∷ cs) b s t at place more = absurd (cc (at.place))
digits_more Unread [] b s t at place more = absurd (cc)
digits_more Unread (c ∷ cs) b s t at place more = absurd (cc)
digits_more Remark word b s t at place more = absurd (cc (at.0))

-- digits of which one is none say nothing
vector_none : (cs : List ℕ) → levels_of cs ≡ None → vector_says cs ≡ None
vector_none [] none = refl
vector_none (c ∷ cs) none = ap (option_map (λ levels. (Variable levels, Silence))) none

time_none : (cs : List ℕ) → number_from 0 cs ≡ None → time_says cs ≡ None
time_none [] none = refl
time_none (c ∷ cs) none = ap (option_map (λ time. (Statement, At time))) none

opened_no_level : (o : Option Opening) (c : ℕ) (cs : List ℕ) (b : ℕ) (more : List ℕ) (s : Body) → HasOpened c cs s o → s.place ≡ places.Digits
    → level_of b ≡ None → option_and_then (opened_says c (cs ++ b ∷ more)) o ≡ None
opened_no_level None c cs b more s has place none = absurd has
opened_no_level (Some Number) c cs b more s has place none = absurd (cc (has.place))
opened_no_level (Some Vector) c cs b more s has place none = vector_none (cs ++ b ∷ more) (levels_stop cs b more none)
opened_no_level (Some Skipped) c cs b more s has place none = absurd (cc)
opened_no_level (Some Keyword) c cs b more s has place none = absurd (cc (has.0))
opened_no_level (Some (Scalar level)) c cs b more s has place none = absurd (cc (has.place))

no_level_word : (awaited : Awaited) (word : List ℕ) (b : ℕ) (more : List ℕ) (s : Body) → IsAt awaited word s → s.place ≡ places.Digits
    → level_of b ≡ None → word_says awaited (word ++ b ∷ more) ≡ None
no_level_word Statement [] b more s at place none = absurd (cc)
no_level_word Statement (c ∷ cs) b more s at place none = opened_no_level (opening c) c cs b more s at place none
no_level_word (Variable levels) [] b more s at place none = absurd (cc (at.0))
no_level_word (Variable levels) (c ∷ cs) b more s at place none = absurd (cc (at.place))
no_level_word Unread [] b more s at place none = absurd (cc)
no_level_word Unread (c ∷ cs) b more s at place none = absurd (cc)
no_level_word Remark word b more s at place none = absurd (cc (at.0))

opened_no_digit : (o : Option Opening) (c : ℕ) (cs : List ℕ) (b : ℕ) (more : List ℕ) (s : Body) → HasOpened c cs s o → s.place ≡ places.Time
    → with_digit s.number b ≡ None → option_and_then (opened_says c (cs ++ b ∷ more)) o ≡ None
opened_no_digit None c cs b more s has place none = absurd has
opened_no_digit (Some Number) c cs b more s has place none =
    time_none (cs ++ b ∷ more)
    (numbers_more cs 0 s.number b more has.number ∙ ap (option_and_then (λ k. number_from k more)) none)
opened_no_digit (Some Vector) c cs b more s has place none = absurd (cc (has.place))
opened_no_digit (Some Skipped) c cs b more s has place none = absurd (cc)
opened_no_digit (Some Keyword) c cs b more s has place none = absurd (cc (has.0))
opened_no_digit (Some (Scalar level)) c cs b more s has place none = absurd (cc (has.place))

no_digit_word : (awaited : Awaited) (word : List ℕ) (b : ℕ) (more : List ℕ) (s : Body) → IsAt awaited word s → s.place ≡ places.Time
    → with_digit s.number b ≡ None → word_says awaited (word ++ b ∷ more) ≡ None
no_digit_word Statement [] b more s at place none = absurd (cc)
no_digit_word Statement (c ∷ cs) b more s at place none = opened_no_digit (opening c) c cs b more s at place none
no_digit_word (Variable levels) [] b more s at place none = absurd (cc (at.0))
no_digit_word (Variable levels) (c ∷ cs) b more s at place none = absurd (cc (at.place))
no_digit_word Unread [] b more s at place none = absurd (cc)
no_digit_word Unread (c ∷ cs) b more s at place none = absurd (cc)
no_digit_word Remark word b more s at place none = absurd (cc (at.0))

-- what is so of an error
pub on_err : {T E : Type 0} (result : Result T E) {P : Type 0} → P → OnErr result P
on_err (Ok value) it = tt
on_err (Err fault) it = it

pub no_level : (awaited : Awaited) (word : List ℕ) (b : ℕ) (s : Body) → is_blank b ≡ false → IsAt awaited word s → s.place ≡ places.Digits
    → level_of b ≡ None → NoWord awaited word b
no_level awaited word b s within at place none =
    (λ blank. absurd (cc), λ _ more. no_level_word awaited word b more s at place none)

pub no_digit : (awaited : Awaited) (word : List ℕ) (b : ℕ) (s : Body) → is_blank b ≡ false → IsAt awaited word s → s.place ≡ places.Time
    → with_digit s.number b ≡ None → NoWord awaited word b
no_digit awaited word b s within at place none =
    (λ blank. absurd (cc), λ _ more. no_digit_word awaited word b more s at place none)

-- one more character of an identifier or a keyword
name_or_keyword : (awaited : Awaited) (word : List ℕ) (b : ℕ) (s : Body) → IsAt awaited word s
    → (s.place ≡ places.Identifier) ⊎ (s.place ≡ places.Keyword) → IsAt awaited (word ++ b ∷ []) (numbered s (with_character s.number b))
name_or_keyword awaited word b s at (inl place) = identifier_more awaited word b s at place
name_or_keyword awaited word b s at (inr place) = keyword_more awaited word b s at place

pub takes_character : (awaited : Awaited) (word : List ℕ) (b number : ℕ) (s : Body) → is_blank b ≡ false → IsAt awaited word s
    → (s.place ≡ places.Identifier) ⊎ (s.place ≡ places.Keyword) → number ≡ with_character s.number b
    → Takes (byte_says awaited word b) said.Nothing (numbered s number)
takes_character awaited word b number s within at place is =
    takes_within awaited word b (numbered s number) within
    (subst (λ n. IsAt awaited (word ++ b ∷ []) (numbered s n)) (sym is) (name_or_keyword awaited word b s at place))

-- one more character of a word of a comment
pub takes_remark : (awaited : Awaited) (word : List ℕ) (b number : ℕ) (s : Body) → is_blank b ≡ false → IsAt awaited word s
    → s.place ≡ places.Comment → number ≡ with_character s.number b → Takes (byte_says awaited word b) said.Nothing (numbered s number)
takes_remark awaited word b number s within at place is =
    takes_within awaited word b (numbered s number) within
    (subst (λ n. IsAt awaited (word ++ b ∷ []) (numbered s n)) (sym is) (remark_more awaited word b s at place))
