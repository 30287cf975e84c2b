-- The cuts of `str` as the cuts of the definitions.
use Rattle.std.proofs.Common.{◌≡◌, ◌≢◌, ℕ, zero, suc, ◌-◌, ◌<◌, ◌≤◌, Bool, true, false, ◌==◌, List, [], ◌∷◌, ◌++◌, length, take, drop, Option, Some, None, MatchOption, Bor, if◌then◌else◌, refl, sym, ap, ◌∙◌, arith, length-drop, Result, Ok, Err, ◌^◌, ◌&&◌}
use Rattle.std.specs.Bool.{nat_lt}
use Rattle.std.specs.Result.{result_ok}
use Rattle.std.specs.Str.{all_ascii_digits}
use Rattle.std.specs.Str.Parse.{ParsesUnsigned, digits_value, without_leading_plus}
use Rattle.std.proofs.lemmas.Str.Parse.{IsNumeralModel, numerals_by_value, tells_all_ascii_digits}
use Rattle.std.specs.Option.{option_map}
use Rattle.std.specs.Str.Pattern.{FindsText, RFindsText, FindsTextPrefix, FindsTextSuffix, LacksTextAt, SplitsAroundMatch, StripsPrefix, StripsSuffix}
use Rattle.std.proofs.lemmas.Bool.Decides.{nat_tests}
use Rattle.vme_line_map.specs.Texts.{strip, cut, cut_last, before_end, number}

-- a text with which another begins
pub strip-found : (p rest : List ℕ) → strip p (p ++ rest) ≡ Some rest
strip-found [] rest = refl
strip-found (c ∷ p) rest = grind (arith, nat_tests, strip-found p rest)

-- a text with which another does not begin
pub strip-lacks : (p s : List ℕ) → ((rest : List ℕ) → s ≢ p ++ rest) → strip p s ≡ None
strip-lacks [] s lacks = absurd (lacks s refl)
strip-lacks (c ∷ p) [] lacks = refl
strip-lacks (c ∷ p) (x ∷ s) lacks = by_first (x == c) refl (λ same. strip-lacks p s (λ rest f. lacks rest (grind (arith, same, f))))
  where
    by_first : (b : Bool) → (x == c) ≡ b → (x ≡ c → strip p s ≡ None) → (if x == c then strip p s else None) ≡ None
    by_first true e rest = rw e (rest (grind (arith, nat_tests, e)))
    by_first false e rest = rw e refl

-- the first place of a text
pub cut-found :
    (p s back : List ℕ) (i : ℕ) → 0 < length p → ((k : ℕ) → k < i → LacksTextAt p s k) → drop i s ≡ p ++ back → cut p s ≡ Some (take i s, back)
cut-found [] s back i some before here = absurd (omega arith)
cut-found (c ∷ p) [] back i some before here = absurd (omega (arith, length-drop {A = ℕ} i [], ap length here))
cut-found (c ∷ p) (x ∷ s) back zero some before here =
    let e = strip-found (c ∷ p) back in
    let f : strip (c ∷ p) (x ∷ s) ≡ Some back = ap (strip (c ∷ p)) here ∙ e in
    rw f refl
cut-found (c ∷ p) (x ∷ s) back (suc i) some before here =
    let e = strip-lacks (c ∷ p) (x ∷ s) (before 0 (omega arith)) in
    let f = cut-found (c ∷ p) s back i some (λ k h. before (suc k) (omega arith)) here in
    rw (e, f) refl

-- no place of a text
pub cut-lacks : (p s : List ℕ) → ((i : ℕ) → i ≤ length s → LacksTextAt p s i) → cut p s ≡ None
cut-lacks p [] lacks = refl
cut-lacks p (x ∷ s) lacks =
    let e = strip-lacks p (x ∷ s) (lacks 0 (omega arith)) in
    let f = cut-lacks p s (λ i h. lacks (suc i) (omega arith)) in
    rw (e, f) refl

-- the last place of a text
pub cut_last-lacks : (p s : List ℕ) → ((i : ℕ) → i ≤ length s → LacksTextAt p s i) → cut_last p s ≡ None
cut_last-lacks p [] lacks = refl
cut_last-lacks p (x ∷ s) lacks =
    let e = strip-lacks p (x ∷ s) (lacks 0 (omega arith)) in
    let f = cut_last-lacks p s (λ i h. lacks (suc i) (omega arith)) in
    rw (e, f) refl

pub cut_last-found :
    (p s back : List ℕ) (i : ℕ) → 0 < length p → ((k : ℕ) → i < k → k ≤ length s → LacksTextAt p s k) → drop i s ≡ p ++ back
    → cut_last p s ≡ Some (take i s, back)
cut_last-found [] s back i some after here = absurd (omega arith)
cut_last-found (c ∷ p) [] back i some after here = absurd (omega (arith, length-drop {A = ℕ} i [], ap length here))
cut_last-found (c ∷ p) (x ∷ s) back zero some after here =
    let e = strip-found (c ∷ p) back in
    let f : strip (c ∷ p) (x ∷ s) ≡ Some back = ap (strip (c ∷ p)) here ∙ e in
    let g = cut_last-lacks (c ∷ p) s (λ k h. after (suc k) (omega arith) (omega arith)) in
    rw (g, f) refl
cut_last-found (c ∷ p) (x ∷ s) back (suc i) some after here =
    let f = cut_last-found (c ∷ p) s back i some (λ k h j. after (suc k) (omega arith) (omega arith)) here in
    rw f refl

-- a byte at the end
pub before_end-found : (c : ℕ) (start : List ℕ) → before_end c (start ++ c ∷ []) ≡ Some start
before_end-found c [] = grind (arith, nat_tests)
before_end-found c (x ∷ []) = grind (arith, nat_tests)
before_end-found c (x ∷ y ∷ ys) = rw (before_end-found c (y ∷ ys)) refl

pub before_end-lacks : (c : ℕ) (s : List ℕ) → ((start : List ℕ) → s ≢ start ++ c ∷ []) → before_end c s ≡ None
before_end-lacks c [] lacks = refl
before_end-lacks c (x ∷ []) lacks =
    let other : x ≢ c = λ e. lacks [] (grind (arith, e)) in
    grind (arith, nat_tests, other)
before_end-lacks c (x ∷ y ∷ ys) lacks =
    let rest = before_end-lacks c (y ∷ ys) (λ start e. lacks (x ∷ start) (grind (arith, e))) in
    rw rest refl

-- the texts of a pair
abbrev pub texts : Bor (List ℕ) × Bor (List ℕ) → List ℕ × List ℕ
texts (before, after) = (before.now, after.now)

-- `split_once` and `rsplit_once` at a text, `strip_prefix` and `strip_suffix`
pub split_once-is :
    (p s : List ℕ) (r : Option (Bor (List ℕ) × Bor (List ℕ))) → 0 < length p
    → MatchOption r (FindsText p s None) (λ x. SplitsAroundMatch (FindsText p) s x.0.now x.1.now) → cut p s ≡ option_map texts r
split_once-is p s None some lacks = cut-lacks p s lacks
split_once-is p s (Some (start, back)) some (i, j, (before, here), e, f, _, _, _) = rw (e, f) (cut-found p s (drop j s) i some before here.split)

pub rsplit_once-is :
    (p s : List ℕ) (r : Option (Bor (List ℕ) × Bor (List ℕ))) → 0 < length p
    → MatchOption r (RFindsText p s None) (λ x. SplitsAroundMatch (RFindsText p) s x.0.now x.1.now) → cut_last p s ≡ option_map texts r
rsplit_once-is p s None some lacks = cut_last-lacks p s lacks
rsplit_once-is p s (Some (start, back)) some (i, j, (after, here), e, f, _, _, _) = rw (e, f) (cut_last-found p s (drop j s) i some after here.split)

pub strip_prefix-is :
    (p s : List ℕ) (r : Option (Bor (List ℕ))) → MatchOption r (FindsTextPrefix p s None) (λ x. StripsPrefix (FindsTextPrefix p) s x.now)
    → strip p s ≡ option_map (λ x. x.now) r
strip_prefix-is p s None lacks = strip-lacks p s lacks
strip_prefix-is p s (Some rest) (n, (count, split, cut_at), e, more) =
    ap (strip p) split ∙ strip-found p (drop n s) ∙ ap Some (sym e)

pub strip_suffix-is :
    (c : ℕ) (s : List ℕ) (r : Option (Bor (List ℕ)))
    → MatchOption r (FindsTextSuffix (c ∷ []) s None) (λ x. StripsSuffix (FindsTextSuffix (c ∷ [])) s x.now)
    → before_end c s ≡ option_map (λ x. x.now) r
strip_suffix-is c s None lacks = before_end-lacks c s lacks
strip_suffix-is c s (Some start) (n, (count, split, cut_at), e, more) =
    ap (before_end c) split ∙ before_end-found c (take (length s - n) s) ∙ ap Some (sym e)

-- texts of digits are those of decimal numerals
own : IsNumeralModel (λ ds. all_ascii_digits ds ≡ true) (digits_value 10)
own = numerals_by_value _ tells_all_ascii_digits

-- `parse` at an unsigned type
pub number-is : {E : Type 0} (bits : ℕ) (text : List ℕ) (r : Result ℕ E) → ParsesUnsigned bits 10 text r → number bits text ≡ result_ok r
number-is bits text (Ok n) (((some, digits), fits), is) =
    let all = own.from (without_leading_plus text) digits in
    grind (arith, nat_tests, all, is)
number-is bits text (Err e) refused = by_tests (nat_lt 0 (length ds)) (all_ascii_digits ds) (nat_lt (digits_value 10 ds) (2 ^ bits)) refl refl refl
  where
    ds : List ℕ
    ds = without_leading_plus text

    by_tests :
        (a b c : Bool) → nat_lt 0 (length ds) ≡ a → all_ascii_digits ds ≡ b → nat_lt (digits_value 10 ds) (2 ^ bits) ≡ c
        → (if nat_lt 0 (length ds) && (all_ascii_digits ds && nat_lt (digits_value 10 ds) (2 ^ bits)) then Some (digits_value 10 ds) else None) ≡ None
    by_tests true true true e f g =
        let some : 0 < length ds = grind (arith, nat_tests, e) in
        let fits : digits_value 10 ds < 2 ^ bits = grind (arith, nat_tests, g) in
        absurd (refused ((some, own.to ds f), fits))
    by_tests false b c e f g = rw e refl
    by_tests true false c e f g = rw (e, f) refl
    by_tests true true false e f g = rw (e, f, g) refl
