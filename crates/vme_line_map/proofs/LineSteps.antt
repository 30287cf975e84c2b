-- Variables for lines, one after another.
use Rattle.std.proofs.Common.{◌≡◌, ℕ, zero, suc, ◌+◌, ◌-◌, ◌<◌, ◌≤◌, true, List, [], ◌∷◌, ◌++◌, length, map, Ok, Err, refl, sym, ap, ◌∙◌, arith, length-append, append_assoc}
use Rattle.std.specs.Bool.{nat_le}
use Rattle.std.proofs.lemmas.Bool.Decides.{nat_tests}
use Rattle.std.proofs.lemmas.List.{append-nil, map-append, length-map}
use Rattle.vme_line_map.specs.Variables.{Variable, Map, most_wanted, added, with_variables}
use Rattle.vme_line_map.specs.Patterns.{numbers_from, variables_between}
use Rattle.vme_line_map.specs.declared.fault.LinesProblem.{LinesProblem}
use Rattle.vme_line_map.proofs.Fitting.{added_ok, added_err}

-- one number more
pub numbers_from-suc : (n k : ℕ) → numbers_from n (suc k) ≡ numbers_from n k ++ (n + k) ∷ []
numbers_from-suc n zero = let e : n + 0 ≡ n = omega arith in rw e refl
numbers_from-suc n (suc k) =
    let e : n + 1 + k ≡ n + suc k = omega arith in
    ap (λ ns. n ∷ ns) (numbers_from-suc (n + 1) k ∙ ap (λ m. numbers_from (n + 1) k ++ m ∷ []) e)

pub length-numbers_from : (n k : ℕ) → length (numbers_from n k) ≡ k
length-numbers_from n zero = refl
length-numbers_from n (suc k) = let e = length-numbers_from (n + 1) k in omega arith

-- the variables of the lines before one
abbrev pub variables_before : (ℕ → Variable) → ℕ → ℕ → List Variable
variables_before f low i = map f (numbers_from low (i - low))

pub length-variables_before : (f : ℕ → Variable) (low i : ℕ) → length (variables_before f low i) ≡ i - low
length-variables_before f low i = length-map (numbers_from low (i - low)) f ∙ length-numbers_from low (i - low)

pub variables_before-more : (f : ℕ → Variable) (low i : ℕ) → low ≤ i → variables_before f low (i + 1) ≡ variables_before f low i ++ f i ∷ []
variables_before-more f low i order =
    let count : i + 1 - low ≡ suc (i - low) = omega arith in
    let last : low + (i - low) ≡ i = omega arith in
    rw count (ap (map f) (numbers_from-suc low (i - low) ∙ ap (λ m. numbers_from low (i - low) ++ m ∷ []) last) ∙ map-append f (numbers_from low (i - low)) (i ∷ []))

-- no line yet
pub with_variables-none : (map : Map) (f : ℕ → Variable) (low : ℕ) → map ≡ with_variables map (variables_before f low low)
with_variables-none map f low =
    let none : low - low ≡ 0 = omega arith in
    rw none (sym (ap (λ vs. record { variables = vs; is_named = map.is_named }) (append-nil map.variables)))

-- one line more
pub one_line :
    (f : ℕ → Variable) (old now new : Map) (low i : ℕ) → low ≤ i → now ≡ with_variables old (variables_before f low i)
    → added now (f i ∷ []) ≡ Ok new → (new ≡ with_variables old (variables_before f low (i + 1))) × (length new.variables ≤ most_wanted)
one_line f old now new low i order is fits =
    let (space, same) = added_ok now new (f i ∷ []) fits in
    let more = variables_before-more f low i order in
    let joined = append_assoc old.variables (variables_before f low i) (f i ∷ []) in
    let value : new ≡ with_variables old (variables_before f low (i + 1)) =
    sym same ∙ ap (λ m. with_variables m (f i ∷ [])) is
    ∙ ap (λ vs. record { variables = vs; is_named = old.is_named }) (joined ∙ ap (λ vs. old.variables ++ vs) (sym more)) in
    (value, rw (← same) (omega (arith, length-append now.variables (f i ∷ []))))

-- a line that does not fit
pub no_line :
    (f : ℕ → Variable) (old now : Map) (low high i : ℕ) (problem : LinesProblem) → low ≤ i → i ≤ high
    → now ≡ with_variables old (variables_before f low i) → added now (f i ∷ []) ≡ Err problem → added old (variables_between f low high) ≡ Err problem
no_line f old now low high i problem order within is full =
    let (over, same) = added_err now (f i ∷ []) problem full in
    let before = length-variables_before f low i in
    let all = length-variables_before f low (high + 1) in
    let count : length now.variables ≡ length old.variables + length (variables_before f low i) =
    ap (λ m. length m.variables) is ∙ length-append old.variables (variables_before f low i) in
    let many : most_wanted < length old.variables + length (variables_between f low high) = omega arith in
    rw (← same) (grind (arith, nat_tests, many))

-- all lines
pub all_lines :
    (f : ℕ → Variable) (old now : Map) (low high : ℕ) → now ≡ with_variables old (variables_before f low (high + 1))
    → length now.variables ≤ most_wanted → added old (variables_between f low high) ≡ Ok now
all_lines f old now low high is fits =
    let count : length now.variables ≡ length old.variables + length (variables_between f low high) =
    ap (λ m. length m.variables) is ∙ length-append old.variables (variables_between f low high) in
    let space : nat_le (length old.variables + length (variables_between f low high)) most_wanted ≡ true = grind (arith, nat_tests) in
    rw space (ap Ok (sym is))
