-- The order of the levels, from each first level.
use Rattle.std.proofs.Common.{◌≡◌, ◌≢◌, ℕ, ◌<◌, ◌≤◌, zero, suc, Bool, true, false, not, ◌&&◌, ◌||◌, List, [], ◌∷◌, ap, sym, ◌∙◌, refl, arith, eqb, ltb, inl, inr, ◌⊎◌}
use Rattle.std.proofs.lemmas.Bool.{cases_Bool, lt-ltb, le-ltb, ltb-true, eqb-true, or_left, or_right, or_cases, and_from, and_parts, not_from_false, not-true, false≢true}
use Rattle.vme_arbiter.specs.declared.kind.ArbiterKind.TheVariants.{Rotating}
use Rattle.vme_arbiter.specs.Levels.{level_order, level_precedes, levels_before, first_after}

-- no level precedes itself
pub before-irreflexive : (levels : List ℕ) (a : ℕ) → level_precedes levels a a ≡ false
before-irreflexive [] a = refl
before-irreflexive (l ∷ levels) a =
    elim (cases_Bool (eqb l a)) [ inl same ↦ rw same refl | inr other ↦ rw other (before-irreflexive levels a) ]

-- precedence is transitive
pub before-transitive : (levels : List ℕ) (a b c : ℕ) → level_precedes levels a b ≡ true → level_precedes levels b c ≡ true
    → level_precedes levels a c ≡ true
before-transitive [] a b c first then = cc
before-transitive (l ∷ levels) a b c first then =
    let ab = and_parts (not (eqb l b)) (eqb l a || level_precedes levels a b) first in
    let bc = and_parts (not (eqb l c)) (eqb l b || level_precedes levels b c) then in
    let not_b : eqb l b ≡ false = not-true _ ab.0 in
    let later : level_precedes levels b c ≡ true = rw not_b at bc.1 in
    let first_or_later : (eqb l a || level_precedes levels a c) ≡ true =
    elim (or_cases (eqb l a) (level_precedes levels a b) ab.1) [
      | inl here ↦ or_left _ _ here
      | inr rest ↦ or_right _ _ (before-transitive levels a b c rest later)
    ] in
    and_from _ _ bc.0 first_or_later

-- precedence is asymmetric
pub before-asymmetric : (levels : List ℕ) (a b : ℕ) → level_precedes levels a b ≡ true → level_precedes levels b a ≡ false
before-asymmetric levels a b first =
    elim (cases_Bool (level_precedes levels b a)) [
      | inl back ↦ absurd (false≢true (sym (before-irreflexive levels a) ∙ before-transitive levels a b a first back))
      | inr not_back ↦ not_back
    ]

-- a level and one that it precedes are different
pub before-apart : (levels : List ℕ) (a b : ℕ) → level_precedes levels a b ≡ true → a ≢ b
before-apart levels a b first same =
    false≢true (sym (before-irreflexive levels b) ∙ ap (λ l. level_precedes levels l b) (sym same) ∙ first)

-- whether a test passes on each of the four levels
all_four : (ℕ → Bool) → Bool
all_four test = test 0 && (test 1 && (test 2 && test 3))

-- a test that passes on each of the four levels passes on the last two
after_two : (test : ℕ → Bool) → all_four test ≡ true → (test 2 && test 3) ≡ true
unfolding all_four
after_two test all = (and_parts (test 1) (test 2 && test 3) (and_parts (test 0) (test 1 && (test 2 && test 3)) all).1).1

-- a test that passes on each of the four levels passes on a level in range
all_four-at : (test : ℕ → Bool) (level : ℕ) → level < 4 → all_four test ≡ true → test level ≡ true
unfolding all_four
all_four-at test zero within all = (and_parts (test 0) (test 1 && (test 2 && test 3)) all).0
all_four-at test (suc zero) within all = (and_parts (test 1) (test 2 && test 3) (and_parts (test 0) (test 1 && (test 2 && test 3)) all).1).0
all_four-at test (suc (suc zero)) within all = (and_parts (test 2) (test 3) (after_two test all)).0
all_four-at test (suc (suc (suc zero))) within all = (and_parts (test 2) (test 3) (after_two test all)).1
all_four-at test (suc (suc (suc (suc n)))) within all = absurd (omega arith)

-- a test of three levels that passes on all of them passes on each
each_three : (test : ℕ → ℕ → ℕ → Bool) → all_four (λ f. all_four (λ a. all_four (λ b. test f a b))) ≡ true
    → (f a b : ℕ) → f < 4 → a < 4 → b < 4 → test f a b ≡ true
each_three test all f a b f< a< b< =
    all_four-at (λ b. test f a b) b b< (all_four-at (λ a. all_four (λ b. test f a b)) a a<
    (all_four-at (λ f. all_four (λ a. all_four (λ b. test f a b))) f f< all))

-- whether two levels are equal, or one precedes the other
total_at : ℕ → ℕ → ℕ → Bool
total_at f a b = eqb a b || (level_precedes (level_order f) a b || level_precedes (level_order f) b a)

-- all levels in range pass the test, as is computed
total_everywhere : all_four (λ f. all_four (λ a. all_four (λ b. total_at f a b))) ≡ true
unfolding all_four total_at
total_everywhere = refl

-- two levels in range are equal, or one precedes the other
pub before-total : (first a b : ℕ) → first < 4 → a < 4 → b < 4
    → (a ≡ b) ⊎ ((level_precedes (level_order first) a b ≡ true) ⊎ (level_precedes (level_order first) b a ≡ true))
unfolding total_at
before-total first a b first< a< b< =
    elim (or_cases _ _ (each_three total_at total_everywhere first a b first< a< b<)) [
      | inl same ↦ inl (eqb-true a b same)
      | inr apart ↦ inr (or_cases _ _ apart)
    ]

-- whether a level precedes another by the rule: first the levels up to the first one, then the others, each downwards
goes_down : ℕ → ℕ → ℕ → Bool
goes_down f a b = (ltb b a && (not (ltb f a) || ltb f b)) || (not (ltb f a) && ltb f b)

-- whether a level that precedes another by the rule precedes it in the order
down_at : ℕ → ℕ → ℕ → Bool
down_at f a b = not (goes_down f a b) || level_precedes (level_order f) a b

-- the rule gives the order of all levels in range, as is computed
down_everywhere : all_four (λ f. all_four (λ a. all_four (λ b. down_at f a b))) ≡ true
unfolding all_four down_at goes_down
down_everywhere = refl

-- a level that precedes another by the rule precedes it in the order
down-before : (first a b : ℕ) → first < 4 → a < 4 → b < 4 → goes_down first a b ≡ true → level_precedes (level_order first) a b ≡ true
unfolding down_at
down-before first a b first< a< b< down =
    elim (or_cases _ _ (each_three down_at down_everywhere first a b first< a< b<)) [
      | inl not_down ↦ absurd (false≢true (sym (not-true _ not_down) ∙ down))
      | inr before ↦ before
    ]

-- up to the first level, a greater level precedes a lower one
pub up_to_first : (first a b : ℕ) → first < 4 → b < a → a ≤ first → level_precedes (level_order first) a b ≡ true
unfolding goes_down
up_to_first first a b first< lower within =
    down-before first a b first< (omega arith) (omega arith)
    (or_left _ _ (and_from _ _ (lt-ltb b a lower) (or_left _ _ (not_from_false _ (le-ltb first a within)))))

-- a level up to the first precedes each level above the first
pub first_before_above : (first a b : ℕ) → a ≤ first → first < b → b < 4 → level_precedes (level_order first) a b ≡ true
unfolding goes_down
first_before_above first a b within above b< =
    down-before first a b (omega arith) (omega arith) b<
    (or_right _ _ (and_from _ _ (not_from_false _ (le-ltb first a within)) (lt-ltb first b above)))

-- above the first level, a greater level precedes a lower one
pub above_first : (first a b : ℕ) → first < b → b < a → a < 4 → level_precedes (level_order first) a b ≡ true
unfolding goes_down
above_first first a b above lower a< =
    down-before first a b (omega arith) a< (omega arith)
    (or_left _ _ (and_from _ _ (lt-ltb b a lower) (or_right _ _ (lt-ltb first b above))))

-- whether fewer levels precede a level after a rotating grant on one that preceded it
turn_at : ℕ → ℕ → ℕ → Bool
turn_at f granted level =
    not (level_precedes (level_order f) granted level)
    || ltb (levels_before (level_order (first_after Rotating granted)) level) (levels_before (level_order f) level)

-- all levels in range pass the test of a rotating grant, as is computed
turn_everywhere : all_four (λ f. all_four (λ a. all_four (λ b. turn_at f a b))) ≡ true
unfolding all_four turn_at
turn_everywhere = refl

-- after a rotating grant, fewer levels precede one that followed the granted level
pub turn-nearer : (first granted level : ℕ) → first < 4 → granted < 4 → level < 4 → level_precedes (level_order first) granted level ≡ true
    → levels_before (level_order (first_after Rotating granted)) level < levels_before (level_order first) level
unfolding turn_at
turn-nearer first granted level first< granted< level< before =
    elim (or_cases _ _ (each_three turn_at turn_everywhere first granted level first< granted< level<)) [
      | inl not_before ↦ absurd (false≢true (sym (not-true _ not_before) ∙ before))
      | inr nearer ↦ ltb-true _ _ nearer
    ]

-- whether at most three levels precede a level
three_at : ℕ → ℕ → Bool
three_at f level = ltb (levels_before (level_order f) level) 4

-- at most three levels precede each level in range, as is computed
three_everywhere : all_four (λ f. all_four (λ level. three_at f level)) ≡ true
unfolding all_four three_at
three_everywhere = refl

-- at most three levels precede a level in range
pub three-before : (first level : ℕ) → first < 4 → level < 4 → levels_before (level_order first) level ≤ 3
unfolding three_at
three-before first level first< level< =
    let below = ltb-true _ 4 (all_four-at (λ level. three_at first level) level level<
    (all_four-at (λ f. all_four (λ level. three_at f level)) first first< three_everywhere)) in
    omega (arith, below)
