-- What is found of each wanted variable.
use Rattle.std.proofs.Common.{◌≡◌, ◌≢◌, ℕ, ◌+◌, ◌<◌, ◌≤◌, Bool, true, false, List, [], ◌∷◌, ◌++◌, length, length-set, drop, get_or, suc, zero, ◌==◌, Some, None, refl, ap, sym, ◌∙◌, subst, arith}
use Rattle.std.specs.Prelude.{slice_get, slice_set, ◌||◌}
use Rattle.std.specs.List.{list_any}
use Rattle.std.proofs.lemmas.Bool.Decides.{nat_tests}
use Rattle.vme_line_map.specs.Variables.{Variable}
use Rattle.vme_vcd_reader.specs.declared.matching.Fit.{Fit}
use Rattle.vme_vcd_reader.specs.declared.matching.Fit.TheVariants as fits
use Rattle.vme_vcd_reader.specs.declared.matching.Found.{Found}
use Rattle.vme_vcd_reader.specs.Mapping.{Declaration}
use Rattle.vme_vcd_reader.specs.Found.{Holds, IsFound}
use Rattle.vme_vcd_reader.proofs.Finding.{holds_none}
use Rattle.vme_vcd_reader.proofs.Fitting.{Becomes}

-- what was found of the variables with one more
pub found_then : (ds : List Declaration) (d : Declaration) (w : Variable) (f : Found) (named : List Declaration) (fit : Fit)
    → Becomes w.name ds d named fit → f.fit ≡ fit → Holds named w f → IsFound (ds ++ d ∷ []) w f
found_then ds d w f named fit becomes same holds = record {
  fit = same ∙ sym becomes.fit;
  holds = subst (λ named. Holds named w f) (sym becomes.named) holds;
}

-- nothing is found yet
pub record IsNothing (f : Found) : Type 0 where
  pub fit : f.fit ≡ fits.None
  pub wrong : f.is_wrong ≡ false
  pub ambiguous : f.is_ambiguous ≡ false
  pub none : f.parts.items ≡ []

pub found_nothing : (w : Variable) (f : Found) → IsNothing f → IsFound [] w f
found_nothing w f is = record { fit = is.fit; holds = holds_none w f is.wrong is.ambiguous is.none }

-- the wanted variables before an index have taken one more variable of the header
pub record AreTaken (variables : List Variable) (ds : List Declaration) (d : Declaration) (index : ℕ) (fs : List Found) : Type 0 where
  pub all : length fs ≡ length variables
  pub before : (i : ℕ) (w : Variable) (f : Found) → i < index → slice_get variables i ≡ Some w → slice_get fs i ≡ Some f
      → IsFound (ds ++ d ∷ []) w f
  pub from : (i : ℕ) (w : Variable) (f : Found) → index ≤ i → slice_get variables i ≡ Some w → slice_get fs i ≡ Some f → IsFound ds w f

get_set_same : {X : Type 0} (xs : List X) (i : ℕ) (x y : X) → slice_get xs i ≡ Some x → slice_get (slice_set xs i y) i ≡ Some y
get_set_same [] i x y is = absurd (cc)
get_set_same (z ∷ xs) zero x y is = refl
get_set_same (z ∷ xs) (suc i) x y is = get_set_same xs i x y is

get_set_other : {X : Type 0} (xs : List X) (i j : ℕ) (y : X) → j ≢ i → slice_get (slice_set xs i y) j ≡ slice_get xs j
get_set_other [] i j y other = refl
get_set_other (z ∷ xs) zero zero y other = absurd (other refl)
get_set_other (z ∷ xs) zero (suc j) y other = refl
get_set_other (z ∷ xs) (suc i) zero y other = refl
get_set_other (z ∷ xs) (suc i) (suc j) y other = get_set_other xs i j y (λ e. other (ap suc e))

some_is : {X : Type 0} (x y : X) → Some x ≡ Some y → x ≡ y
some_is x y e = cc

-- the wanted variable at an index has taken it too
pub taken_more : (variables : List Variable) (ds : List Declaration) (d : Declaration) (index : ℕ) (fs : List Found) (w : Variable) (f g : Found)
    → AreTaken variables ds d index fs → slice_get variables index ≡ Some w → slice_get fs index ≡ Some f
    → (IsFound ds w f → IsFound (ds ++ d ∷ []) w g) → AreTaken variables ds d (index + 1) (slice_set fs index g)
taken_more variables ds d index fs w f g taken at there takes = record {
  all = length-set fs index g ∙ taken.all;
  before = λ i v h within is has. by i v h within is has (i == index) refl;
  from = λ i v h past is has. taken.from i v h (omega arith) is (sym (get_set_other fs index i g (λ e. absurd (omega (arith, e)))) ∙ has);
}
  where
    by : (i : ℕ) (v : Variable) (h : Found) → i < index + 1 → slice_get variables i ≡ Some v → slice_get (slice_set fs index g) i ≡ Some h
        → (same : Bool) → (i == index) ≡ same → IsFound (ds ++ d ∷ []) v h
    by i v h within is has true e =
        let same : i ≡ index = grind (arith, nat_tests, e) in
        let v_is : w ≡ v = some_is w v (sym at ∙ ap (slice_get variables) (sym same) ∙ is) in
        let h_is : g ≡ h = some_is g h (sym (get_set_same fs index f g there) ∙ ap (slice_get (slice_set fs index g)) (sym same) ∙ has) in
        subst (λ v. IsFound (ds ++ d ∷ []) v h) v_is (subst (λ h. IsFound (ds ++ d ∷ []) w h) h_is (takes (taken.from index w f (omega arith) at there)))
    by i v h within is has false e =
        let other : i ≢ index = grind (arith, nat_tests, e) in
        taken.before i v h (omega (arith, other, within)) is (sym (get_set_other fs index i g other) ∙ has)

-- a place within a list
pub get_within : {X : Type 0} (xs : List X) (i : ℕ) → i < length xs → slice_get xs i ≡ None → ⊥
get_within [] i within none = absurd (omega arith)
get_within (x ∷ xs) zero within none = absurd (cc)
get_within (x ∷ xs) (suc i) within none = get_within xs i (omega arith) none

-- the list from a place on
drop_here : {X : Type 0} (xs : List X) (i : ℕ) (x : X) → slice_get xs i ≡ Some x → drop i xs ≡ x ∷ drop (suc i) xs
drop_here [] i x is = absurd (cc)
drop_here (y ∷ xs) zero x is = ap (λ x. x ∷ xs) (some_is y x is)
drop_here (y ∷ xs) (suc i) x is = drop_here xs i x is

pub drop_get : {X : Type 0} (xs : List X) (i : ℕ) (x : X) → slice_get xs i ≡ Some x → drop i xs ≡ x ∷ drop (i + 1) xs
drop_get xs i x is = let next : suc i ≡ i + 1 = omega arith in drop_here xs i x is ∙ ap (λ k. x ∷ drop k xs) next

pub drop_past : {X : Type 0} (xs : List X) (i : ℕ) → length xs ≤ i → drop i xs ≡ []
drop_past [] zero past = refl
drop_past [] (suc i) past = refl
drop_past (x ∷ xs) zero past = absurd (omega arith)
drop_past (x ∷ xs) (suc i) past = drop_past xs i (omega arith)

-- what is found at a place
pub get_from : {X : Type 0} (xs : List X) (i : ℕ) (d : X) → i < length xs → slice_get xs i ≡ Some (get_or xs i d)
get_from [] i d within = absurd (omega arith)
get_from (x ∷ xs) zero d within = refl
get_from (x ∷ xs) (suc i) d within = get_from xs i d (omega arith)

-- whether one of a list passes a test, by those from a place on
pub any_here : {X : Type 0} (test : X → Bool) (xs : List X) (i : ℕ) (x : X) → slice_get xs i ≡ Some x
    → list_any test xs ≡ list_any test (drop i xs) → test x ≡ true → true ≡ list_any test xs
any_here test xs i x at before passes =
    sym (before ∙ ap (list_any test) (drop_get xs i x at) ∙ ap (λ t. t || list_any test (drop (i + 1) xs)) passes)

pub any_next : {X : Type 0} (test : X → Bool) (xs : List X) (i : ℕ) (x : X) → slice_get xs i ≡ Some x
    → list_any test xs ≡ list_any test (drop i xs) → test x ≡ false → list_any test xs ≡ list_any test (drop (i + 1) xs)
any_next test xs i x at before fails =
    before ∙ ap (list_any test) (drop_get xs i x at) ∙ ap (λ t. t || list_any test (drop (i + 1) xs)) fails

pub any_past : {X : Type 0} (test : X → Bool) (xs : List X) (i : ℕ) → length xs ≤ i
    → list_any test xs ≡ list_any test (drop i xs) → false ≡ list_any test xs
any_past test xs i past before = sym (before ∙ ap (list_any test) (drop_past xs i past))

pub some_within : {X : Type 0} (xs : List X) (i : ℕ) (x : X) → slice_get xs i ≡ Some x → i < length xs
some_within [] i x is = absurd (cc)
some_within (y ∷ xs) zero x is = omega arith
some_within (y ∷ xs) (suc i) x is = omega (arith, some_within xs i x is)

pub get_at : {X : Type 0} (ys xs : List X) (i : ℕ) (x : X) → ys ≡ xs → i < length ys → x ≡ get_or ys i x → slice_get xs i ≡ Some x
get_at ys xs i x same within is = ap (λ xs. slice_get xs i) (sym same) ∙ get_from ys i x within ∙ ap Some (sym is)
