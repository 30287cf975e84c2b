-- What fits into a map.
use Rattle.std.proofs.Common.{◌≡◌, ℕ, zero, suc, ◌+◌, ◌-◌, ◌<◌, ◌≤◌, Bool, true, false, List, [], ◌∷◌, ◌++◌, length, take, get_or, Result, Ok, Err, OnOk, if◌then◌else◌, refl, sym, ap, ◌∙◌, arith, length-append, append_assoc}
use Rattle.std.specs.Bool.{nat_le}
use Rattle.std.specs.List.{flat_map}
use Rattle.std.proofs.lemmas.Grind.{flat_map-append}
use Rattle.std.proofs.lemmas.Bool.Decides.{nat_tests}
use Rattle.std.proofs.lemmas.List.{append-nil, length-take, take_all, take_more}
use Rattle.vme_line_map.specs.Variables.{Variable, Map, most_wanted, added, with_variables, Leaves}
use Rattle.vme_line_map.specs.Defaults.{with_fitting}
use Rattle.vme_line_map.specs.declared.fault.LinesProblem.{LinesProblem}
use Rattle.vme_line_map.specs.declared.fault.LinesProblem.TheVariants.{TooMany}

-- a choice between a value and an error
pub choice_ok : {A E : Type 0} (b : Bool) (x y : A) (e : E) → (if b then Ok x else Err e) ≡ Ok y → (b ≡ true) × (x ≡ y)
choice_ok true x y e h = (refl, cc)
choice_ok false x y e h = cc

pub choice_err : {A E : Type 0} (b : Bool) (x : A) (d e : E) → (if b then Ok x else Err e) ≡ Err d → (b ≡ false) × (e ≡ d)
choice_err true x d e h = cc
choice_err false x d e h = (refl, cc)

-- variables that were added fit
pub added_ok : (old new : Map) (more : List Variable) → added old more ≡ Ok new → (length old.variables + length more ≤ most_wanted) × (with_variables old more ≡ new)
added_ok old new more e =
    let (fits, same) = choice_ok (nat_le (length old.variables + length more) most_wanted) (with_variables old more) new TooMany e in
    (grind (arith, nat_tests), same)

-- variables that were not added do not fit
pub added_err : (old : Map) (more : List Variable) (problem : LinesProblem) → added old more ≡ Err problem → (most_wanted < length old.variables + length more) × (TooMany ≡ problem)
added_err old more problem e =
    let (fits, same) = choice_err (nat_le (length old.variables + length more) most_wanted) (with_variables old more) problem TooMany e in
    (grind (arith, nat_tests), same)

-- a map of no variables
abbrev pub no_variables : Map
no_variables = record { variables = []; is_named = false }

-- the first elements of a list and another
pub take-append : {A : Type 0} (n : ℕ) (xs ys : List A) → take n (xs ++ ys) ≡ take n xs ++ take (n - length xs) ys
take-append {A} n [] ys =
    let none : take {A = A} n [] ≡ [] = take_all n [] (omega arith) in
    let same : n - 0 ≡ n = omega arith in
    rw (none, same) refl
take-append zero (x ∷ xs) ys =
    let same : 0 - length (x ∷ xs) ≡ 0 = omega arith in
    rw same refl
take-append (suc n) (x ∷ xs) ys =
    let same : suc n - length (x ∷ xs) ≡ n - length xs = omega arith in
    rw same (ap (λ zs. x ∷ zs) (take-append n xs ys))

-- no variables fit always
pub with_fitting-none : (map : Map) → with_fitting map [] ≡ map
with_fitting-none map =
    let none : take {A = Variable} (most_wanted - length map.variables) [] ≡ [] = take_all _ [] (omega arith) in
    rw none (ap (λ vs. record { variables = vs; is_named = map.is_named }) (append-nil map.variables))

-- some variables, then others, as far as they fit
pub with_fitting-with_fitting : (map : Map) (xs ys : List Variable) → with_fitting (with_fitting map xs) ys ≡ with_fitting map (xs ++ ys)
with_fitting-with_fitting map xs ys =
    let space = most_wanted - length map.variables in
    let split = take-append space xs ys in
    let count = length-append map.variables (take space xs) in
    let taken = length-take space xs in
    let left : most_wanted - length (map.variables ++ take space xs) ≡ space - length xs = omega (arith, count, taken) in
    let joined = append_assoc map.variables (take space xs) (take (space - length xs) ys) in
    rw left (ap (λ vs. record { variables = vs; is_named = map.is_named }) (joined ∙ ap (λ zs. map.variables ++ zs) (sym split)))

-- the variables of one more slot
pub one_more : (f : ℕ → List Variable) (map : Map) (start : List Variable) (slots : List ℕ) (i : ℕ) → i < length slots
    → with_fitting (with_fitting map (start ++ flat_map f (take i slots))) (f (get_or slots i 0)) ≡ with_fitting map (start ++ flat_map f (take (i + 1) slots))
one_more f map start slots i within =
    let taken = take_more slots i 0 within in
    let parts = flat_map-append f (take i slots) (get_or slots i 0 ∷ []) in
    let last = append-nil (f (get_or slots i 0)) in
    let joined = append_assoc start (flat_map f (take i slots)) (f (get_or slots i 0)) in
    let fitted = with_fitting-with_fitting map (start ++ flat_map f (take i slots)) (f (get_or slots i 0)) in
    fitted ∙ ap (with_fitting map) (joined ∙ ap (λ vs. start ++ vs) (rw taken (rw parts (rw last refl))))

-- one variable that is added if the map is not full
pub added_fitting :
    {F : Type 0} (old new : Map) (variable : Variable) (r : Result (Result (Unit {0}) LinesProblem) F)
    → Leaves r new (added old (variable ∷ [])) → (r ≡ Ok (Err TooMany) → new ≡ old) → OnOk r (new ≡ with_fitting old (variable ∷ []))
added_fitting old new variable (Ok (Ok done)) leaves full =
    let (fits, same) = added_ok old new (variable ∷ []) leaves in
    let all = take_all (most_wanted - length old.variables) (variable ∷ []) (omega arith) in
    rw all (sym same)
added_fitting old new variable (Ok (Err problem)) leaves full =
    let (over, same) = added_err old (variable ∷ []) problem leaves in
    let kept : new ≡ old = full (ap (λ p. Ok (Err p)) (sym same)) in
    let full_up : most_wanted - length old.variables ≡ 0 = omega arith in
    rw full_up (kept ∙ sym (ap (λ vs. record { variables = vs; is_named = old.is_named }) (append-nil old.variables)))
added_fitting old new variable (Err e) leaves full = tt
