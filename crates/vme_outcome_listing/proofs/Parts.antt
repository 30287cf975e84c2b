-- The first part of a text.
use Rattle.std.proofs.Common.{◌≡◌, ℕ, ◌+◌, ◌<◌, suc, Bool, true, false, List, [], ◌∷◌, ◌++◌, map, length, Bor, ap, append_assoc, refl, arith}
use Rattle.std.specs.Prelude.{◌==◌}
use Rattle.std.specs.List.{position_or_len, before_first, after_first}
use Rattle.std.specs.Str.{trim}
use Rattle.std.proofs.lemmas.List.{map-append}
use native.Mathlib.Numerals.{unary_clauses}
use Rattle.vme_outcome_listing.specs.Conditions.{before_parts, parts_of, trimmed_parts}

-- whether a byte ends a part
abbrev is_end : ℕ → ℕ → Bool
is_end end b = b == end

-- the first part is what stands before the first byte that ends a part
abbrev HasFirst : ℕ → List ℕ → Type 0
HasFirst end text =
    position_or_len (is_end end) text < length text
    → parts_of end text ≡ before_first (is_end end) text ∷ parts_of end (after_first (is_end end) text)

first_by : (end b : ℕ) (text : List ℕ) (is : Bool) → (b == end) ≡ is → HasFirst end text → HasFirst end (b ∷ text)
unfolding parts_of
first_by end b text true is others less = rw is refl
first_by end b text false is others less =
    let shorter : position_or_len (is_end end) text < length text = omega (arith, rw is at less) in
    let next : 1 + position_or_len (is_end end) text ≡ suc (position_or_len (is_end end) text) = omega arith in
    let first = ap (before_parts b) (others shorter) in
    rw (is, next) (simp unary_clauses (simp unary_clauses at first))

-- the first part of a text that has such a byte, and the parts behind it
pub part_taken : (end : ℕ) (text : List ℕ) → HasFirst end text
unfolding parts_of
part_taken end [] = λ less. absurd (omega (arith, less))
part_taken end (b ∷ text) = first_by end b text (b == end) refl (part_taken end text)

-- a text without such a byte is one part
abbrev IsOne : ℕ → List ℕ → Type 0
IsOne end text = position_or_len (is_end end) text ≡ length text → parts_of end text ≡ text ∷ []

one_by : (end b : ℕ) (text : List ℕ) (is : Bool) → (b == end) ≡ is → IsOne end text → IsOne end (b ∷ text)
unfolding parts_of
one_by end b text true is others same = absurd (omega (arith, rw is at same))
one_by end b text false is others same =
    let shorter : position_or_len (is_end end) text ≡ length text = omega (arith, rw is at same) in
    rw is (ap (before_parts b) (others shorter))

pub one_part : (end : ℕ) (text : List ℕ) → IsOne end text
unfolding parts_of
one_part end [] = λ same. refl
one_part end (b ∷ text) = one_by end b text (b == end) refl (one_part end text)

-- one more part, the first of the rest
pub line_pushed :
    (end : ℕ) (before after : List (Bor (List ℕ))) (line : Bor (List ℕ)) (part more rest text : List ℕ)
    → after ≡ before ++ line ∷ [] → line.now ≡ trim part → parts_of end rest ≡ part ∷ parts_of end more
    → map (λ l. l.now) before ++ trimmed_parts end rest ≡ trimmed_parts end text
    → map (λ l. l.now) after ++ trimmed_parts end more ≡ trimmed_parts end text
line_pushed end before after line part more rest text pushed is first all =
    rw (pushed, map-append (λ (l : Bor (List ℕ)). l.now) before (line ∷ []), append_assoc (map (λ (l : Bor (List ℕ)). l.now) before), is, ← all, first) refl

-- the last part, the rest
pub all_pushed :
    (end : ℕ) (before after : List (Bor (List ℕ))) (line : Bor (List ℕ)) (rest text : List ℕ)
    → after ≡ before ++ line ∷ [] → line.now ≡ trim rest → parts_of end rest ≡ rest ∷ []
    → map (λ l. l.now) before ++ trimmed_parts end rest ≡ trimmed_parts end text
    → map (λ l. l.now) after ≡ trimmed_parts end text
all_pushed end before after line rest text pushed is one all =
    rw (pushed, map-append (λ (l : Bor (List ℕ)). l.now) before (line ∷ []), is, ← all, one) refl
