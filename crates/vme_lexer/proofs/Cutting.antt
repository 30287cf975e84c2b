-- Texts cut at a byte: the lines and the words that this gives.
use Rattle.std.proofs.Common.{◌≡◌, ℕ, ◌+◌, ◌<◌, ◌≤◌, Bool, false, List, [], get_or, Option, ◌∷◌, length, take, drop, filter, None, Some, refl, ap, ◌∙◌, arith, inl, inr, length-drop}
use Rattle.std.specs.Prelude.{◌==◌, nat_lt}
use Rattle.std.specs.List.{slice_split, position, position_or_len, onto_first}
use Rattle.std.specs.Str.Lines.{lines, lines_of_parts, strip_carriage_return}
use Rattle.std.proofs.lemmas.Bool.{cases_Bool, cases_lt, ltb-true, lt-ltb, le-ltb, ne_eqb}
use Rattle.std.proofs.lemmas.Option.{cond_some}
use Rattle.std.proofs.lemmas.List.Splits.{slice_split_first, slice_split-cons_no, length-slice_split}
use Rattle.std.proofs.lemmas.List.Sums.{position_or_len_is, passes_at_first}
use Rattle.memchr.specs.Find.{IsFirstByte}
use Rattle.vme_lexer.specs.Words.{words, is_nonempty, IsCut, IsUncut}

-- whether a byte is `byte`
abbrev is_byte : ℕ → ℕ → Bool
is_byte byte = λ b. b == byte

-- an index that std's `position` finds is below the length, and is the one that `position_or_len` finds
position_is : (p : ℕ → Bool) (xs : List ℕ) (i : ℕ) → position p xs ≡ Some i → (i < length xs) × (position_or_len p xs ≡ i)
position_is p xs i place =
    let found = cond_some (nat_lt (position_or_len p xs) (length xs)) (position_or_len p xs) i place in
    let lt = ltb-true (position_or_len p xs) (length xs) found.0 in
    (omega (arith, lt, found.1), found.1)

-- the index of the first occurrence of the byte is std's `position`
pub place_found : (byte : ℕ) (text : List ℕ) (found : Option ℕ) → IsFirstByte (λ b. b == byte) text found → found ≡ position (λ b. b == byte) text
place_found byte text None none =
    elim (cases_lt (position_or_len (is_byte byte) text) (length text)) [
      | inl lt ↦ absurd (none _ (omega arith) lt (passes_at_first (is_byte byte) text 0 lt))
      | inr le ↦ rw (le-ltb _ _ le) refl
    ]
place_found byte text (Some k) found =
    let before : (j : ℕ) → j < k → is_byte byte (get_or text j 0) ≡ false =
    λ j lt. elim (cases_Bool (is_byte byte (get_or text j 0))) [ inl hit ↦ absurd (found.0.before j (omega arith) lt hit) | inr miss ↦ miss ] in
    let at : position_or_len (is_byte byte) text ≡ k = position_or_len_is (is_byte byte) text k 0 (omega (arith, found.0.high)) before (λ _. found.1) in
    rw (at, lt-ltb k (length text) found.0.high) refl

-- the parts around the first occurrence of the byte
pub cut_at :
    (byte end : ℕ) (text before after : List ℕ) → position (λ b. b == byte) text ≡ Some end → before ≡ take end text → after ≡ drop (end + 1) text
    → IsCut byte text before after
cut_at byte end text before after place prefix back =
    let at = position_is (is_byte byte) text end place in
    record {
      parts = slice_split_first (is_byte byte) text 0 (rw at.1 at.0) ∙ rw (at.1, prefix, back) refl;
      shorter = omega (arith, ap length back, length-drop (end + 1) text, at.0);
    }

-- a list in which no element passes the test is one part
one_part : (p : ℕ → Bool) (xs : List ℕ) → length xs ≤ position_or_len p xs → slice_split p xs ≡ xs ∷ []
one_part p [] none = refl
one_part p (x ∷ xs) none =
    elim (cases_Bool (p x)) [
      | inl hit ↦ absurd (let bad = simp hit at none in omega arith)
      | inr miss ↦ slice_split-cons_no p x xs miss ∙ ap (onto_first x) (one_part p xs (let rest = simp miss at none in omega arith))
    ]

-- a text without the byte is one part
pub uncut : (byte : ℕ) (text : List ℕ) → position (λ b. b == byte) text ≡ None → IsUncut byte text
uncut byte text place =
    elim (cases_lt (position_or_len (is_byte byte) text) (length text)) [
      | inl lt ↦ absurd (let found = simp (lt-ltb _ _ lt) at place in cc)
      | inr le ↦ one_part (is_byte byte) text le
    ]

-- the first of two or more parts, without the CR at its end, is a line
lines_of_more : (x : List ℕ) (parts : List (List ℕ)) → 0 < length parts → lines_of_parts (x ∷ parts) ≡ strip_carriage_return x ∷ lines_of_parts parts
lines_of_more x [] some = absurd (omega arith)
lines_of_more x (y ∷ more) some = refl

-- the first line ends at the first LF
pub lines_cut : (text before after : List ℕ) → IsCut 10 text before after → lines text ≡ strip_carriage_return before ∷ lines after
lines_cut text before after cut =
    ap lines_of_parts cut.parts
    ∙ lines_of_more before (slice_split (is_byte 10) after) (omega (arith, length-slice_split (is_byte 10) after))

-- a text with no LF is one line
pub lines_uncut : (text : List ℕ) → IsUncut 10 text → 0 < length text → lines text ≡ text ∷ []
lines_uncut text whole some = ap lines_of_parts whole ∙ rw (ne_eqb (length text) 0 (λ e. omega arith)) refl

-- a nonempty part is a word
pub words_cut : (text before after : List ℕ) → IsCut 32 text before after → 0 < length before → words text ≡ before ∷ words after
words_cut text before after cut some = ap (filter is_nonempty) cut.parts ∙ rw (lt-ltb 0 (length before) some) refl

-- an empty part is not a word
pub words_cut_empty : (text before after : List ℕ) → IsCut 32 text before after → length before ≡ 0 → words text ≡ words after
words_cut_empty text before after cut none = ap (filter is_nonempty) cut.parts ∙ rw none refl

-- a line with no space is one word
pub words_uncut : (text : List ℕ) → IsUncut 32 text → 0 < length text → words text ≡ text ∷ []
words_uncut text whole some = ap (filter is_nonempty) whole ∙ rw (lt-ltb 0 (length text) some) refl
