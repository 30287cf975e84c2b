-- Characters and digits, one after another.
use Rattle.std.proofs.Common.{◌≡◌, ◌≢◌, ℕ, suc, ◌+◌, ◌<◌, min, ◌==◌, List, [], ◌∷◌, ◌++◌, length, Option, Some, None, refl, ap, sym, ◌∙◌, arith, length-append, ne_eqb}
use Rattle.std.specs.Prelude.{if◌then◌else◌}
use Rattle.std.specs.Option.{option_map, option_and_then}
use Rattle.std.proofs.lemmas.Bool.Decides.{nat_tests}
use Rattle.vme_vcd_reader.specs.declared.bits.Bits.{Bits}
use Rattle.vme_vcd_reader.specs.declared.bits.Level.{Level}
use Rattle.vme_vcd_reader.specs.declared.bits.Level.TheVariants as levels
use Rattle.vme_vcd_reader.specs.declared.body.Body.{Body}
use Rattle.vme_vcd_reader.specs.Levels.{level_of, levels_of, with_level, with_levels, left_of, IsValue}
use Rattle.vme_vcd_reader.specs.Names.{with_character, with_characters}
use Rattle.vme_vcd_reader.specs.Places.{HasDigits, HasTime}
use Rattle.vme_vcd_reader.specs.Words.{with_digit, number_from}

-- an identifier with one more character
pub characters_more : (cs : List ℕ) (n c : ℕ) → with_characters n (cs ++ c ∷ []) ≡ with_character (with_characters n cs) c
characters_more [] n c = refl
characters_more (d ∷ cs) n c = characters_more cs (with_character n d) c

-- one of one character or more is not the empty one
pub character_some : (n c : ℕ) → 0 < with_character n c
character_some n c = grind (arith, nat_tests)

pub characters_some : (cs : List ℕ) (n : ℕ) → 0 < n → 0 < with_characters n cs
characters_some [] n some = some
characters_some (c ∷ cs) n some = characters_some cs (with_character n c) (character_some n c)

-- a number with more digits
pub numbers_more : (cs : List ℕ) (n m c : ℕ) (more : List ℕ) → number_from n cs ≡ Some m
    → number_from n (cs ++ c ∷ more) ≡ option_and_then (λ k. number_from k more) (with_digit m c)
numbers_more [] n m c more is =
    let same : n ≡ m = cc in ap (λ n. option_and_then (λ k. number_from k more) (with_digit n c)) same
numbers_more (d ∷ cs) n m c more is =
    (elim (with_digit n d) as (λ o. option_and_then (λ k. number_from k cs) o ≡ Some m
    → option_and_then (λ k. number_from k (cs ++ c ∷ more)) o ≡ option_and_then (λ k. number_from k more) (with_digit m c))
    [ None ↦ λ none. absurd (cc) | Some k ↦ λ some. numbers_more cs k m c more some ]) is

-- digits of which one is no level
pub levels_stop : (ds : List ℕ) (d : ℕ) (more : List ℕ) → level_of d ≡ None → levels_of (ds ++ d ∷ more) ≡ None
levels_stop [] d more none = ap (option_and_then (λ level. option_map (λ levels. level ∷ levels) (levels_of more))) none
levels_stop (x ∷ ds) d more none =
    ap (λ rest. option_and_then (λ level. option_map (λ levels. level ∷ levels) rest) (level_of x)) (levels_stop ds d more none)
    ∙ (elim (level_of x) as (λ o. option_and_then (λ level. option_map (λ levels. level ∷ levels) None) o ≡ None)
    [ None ↦ refl | Some level ↦ refl ])

push_by : (o : Option Level) (p q : Option (List Level)) (l : Level) (ls : List Level)
    → ((ks : List Level) → p ≡ Some ks → q ≡ Some (ks ++ l ∷ []))
    → option_and_then (λ level. option_map (λ levels. level ∷ levels) p) o ≡ Some ls
    → option_and_then (λ level. option_map (λ levels. level ∷ levels) q) o ≡ Some (ls ++ l ∷ [])
push_by None p q l ls step is = absurd (cc)
push_by (Some k) None q l ls step is = absurd (cc)
push_by (Some k) (Some ks) q l ls step is =
    let same : ls ≡ k ∷ ks = cc in
    ap (option_map (λ levels. k ∷ levels)) (step ks refl) ∙ ap (λ levels. Some (levels ++ l ∷ [])) (sym same)

-- the levels of one digit more
levels_push : (ds : List ℕ) (ls : List Level) (d : ℕ) (l : Level) → level_of d ≡ Some l → levels_of ds ≡ Some ls
    → levels_of (ds ++ d ∷ []) ≡ Some (ls ++ l ∷ [])
levels_push [] [] d l is are = ap (option_and_then (λ level. option_map (λ levels. level ∷ levels) (Some []))) is
levels_push [] (k ∷ ks) d l is are = absurd (cc)
levels_push (x ∷ ds) ls d l is are =
    push_by (level_of x) (levels_of ds) (levels_of (ds ++ d ∷ [])) l ls (λ ks some. levels_push ds ks d l is some) are

-- as many levels as digits
length_by : (o : Option Level) (p : Option (List Level)) (n : ℕ) (ls : List Level) → ((ks : List Level) → p ≡ Some ks → length ks ≡ n)
    → option_and_then (λ level. option_map (λ levels. level ∷ levels) p) o ≡ Some ls → length ls ≡ suc n
length_by None p n ls step is = absurd (cc)
length_by (Some k) None n ls step is = absurd (cc)
length_by (Some k) (Some ks) n ls step is =
    let same : ls ≡ k ∷ ks = cc in ap length same ∙ ap suc (step ks refl)

pub levels_length : (ds : List ℕ) (ls : List Level) → levels_of ds ≡ Some ls → length ls ≡ length ds
levels_length [] [] are = refl
levels_length [] (k ∷ ks) are = absurd (cc)
levels_length (x ∷ ds) ls are = length_by (level_of x) (levels_of ds) (length ds) ls (λ ks some. levels_length ds ks some) are

with_levels_more : (ls : List Level) (b : Bits) (l : Level) → with_levels b (ls ++ l ∷ []) ≡ with_level (with_levels b ls) l
with_levels_more [] b l = refl
with_levels_more (k ∷ ls) b l = with_levels_more ls (with_level b k) l

-- a value with one more level
value_push : (ls : List Level) (l : Level) (b c : Bits) (first next : Level) (digits more : ℕ) → IsValue ls b first digits
    → c ≡ with_level b l → next ≡ (if digits == 0 then l else first) → more ≡ min (digits + 1) 4294967295
    → IsValue (ls ++ l ∷ []) c next more
value_push [] l b c first next digits more is bits begins count =
    (bits ∙ ap (λ b. with_level b l) is.0, begins ∙ ap (λ n. if n == 0 then l else first) is.2, omega (arith, is.2))
value_push (k ∷ ks) l b c first next digits more is bits begins count =
    let some : digits ≢ 0 = omega (arith, is.2) in (
      bits ∙ ap (λ b. with_level b l) is.0 ∙ sym (with_levels_more (k ∷ ks) (left_of levels.Low) l),
      begins ∙ ap (λ test. if test then l else first) (ne_eqb digits 0 some) ∙ is.1,
      omega (arith, is.2, length-append (k ∷ ks) (l ∷ [])),
    )

-- the digits of a vector with one more
pub digits_push : (digits : List ℕ) (d : ℕ) (l : Level) (s t : Body) → HasDigits digits s → level_of d ≡ Some l → t.place ≡ s.place
    → t.bits ≡ with_level s.bits l → t.first ≡ (if s.digits == 0 then l else s.first) → t.digits ≡ min (s.digits + 1) 4294967295
    → HasDigits (digits ++ d ∷ []) t
digits_push digits d l s t has is place bits first count = record {
  place = place ∙ has.place;
  levels = has.levels ++ l ∷ [];
  are = levels_push digits has.levels d l is has.are;
  value = value_push has.levels l s.bits t.bits s.first t.first s.digits t.digits has.value bits first count;
}

-- the digits of a time with one more
pub time_push : (digits : List ℕ) (c : ℕ) (s t : Body) → HasTime digits s → with_digit s.number c ≡ Some t.number → t.place ≡ s.place
    → t.digits ≡ min (s.digits + 1) 4294967295 → HasTime (digits ++ c ∷ []) t
time_push digits c s t has is place count =
    let here : t.digits ≢ 0 = omega arith in
    let there : length (digits ++ c ∷ []) ≢ 0 = omega (arith, length-append digits (c ∷ [])) in
    record {
      place = place ∙ has.place;
      number = numbers_more digits 0 s.number c [] has.number ∙ ap (option_and_then (λ k. number_from k [])) is;
      some = ne_eqb t.digits 0 here ∙ sym (ne_eqb (length (digits ++ c ∷ [])) 0 there);
    }

-- the first level of a value stays once there is a digit
pub first_then : (digits : ℕ) (x level first : Level) → digits ≡ 0 → x ≡ level → x ≡ (if digits == 0 then level else first)
first_then digits x level first none is = is ∙ sym (ap (λ n. if n == 0 then level else first) none)

pub first_else : (digits : ℕ) (x level first : Level) → digits ≢ 0 → x ≡ first → x ≡ (if digits == 0 then level else first)
first_else digits x level first some is = is ∙ sym (ap (λ test. if test then level else first) (ne_eqb digits 0 some))
