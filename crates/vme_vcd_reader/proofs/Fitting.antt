-- The variables that a name names, with one more at their end.
use Rattle.std.proofs.Common.{◌≡◌, ◌≢◌, ℕ, Bool, true, false, ◌||◌, List, [], ◌∷◌, ◌++◌, refl, ap, sym, ◌∙◌, cond, append-nil}
use Rattle.std.specs.Prelude.{filter, if◌then◌else◌}
use Rattle.std.specs.List.{list_any}
use Rattle.std.proofs.lemmas.List.Elements.{filter-append}
use Rattle.std.proofs.lemmas.List.Folds.{list_any-append}
use Rattle.vme_vcd_reader.specs.declared.matching.Fit.{Fit}
use Rattle.vme_vcd_reader.specs.declared.matching.Fit.TheVariants as fits
use Rattle.vme_vcd_reader.specs.Mapping.{Declaration}
use Rattle.vme_vcd_reader.specs.Matches.{is_end, is_whole, named_by, some_or}
use Rattle.vme_vcd_reader.specs.Found.{best_fit, fit_by, fit_of}

-- a filter keeps none of what none is
filter_none : {X : Type 0} (test : X → Bool) (xs : List X) → list_any test xs ≡ false → filter test xs ≡ []
filter_none test [] none = refl
filter_none test (x ∷ xs) none = by (test x) refl (filter_none test xs)
  where
    by : (is : Bool) → test x ≡ is → (list_any test xs ≡ false → filter test xs ≡ []) → filter test (x ∷ xs) ≡ []
    by true e rest = absurd (cc (e, none))
    by false e rest = rw e (rest (sym (ap (λ t. t || list_any test xs) e) ∙ none))

-- a filter keeps some of what one is, and others after them
some_first : (test : Declaration → Bool) (ds others : List Declaration) → list_any test ds ≡ true → some_or (filter test ds) others ≡ filter test ds
some_first test [] others some = absurd (cc)
some_first test (d ∷ ds) others some = by (test d) refl (some_first test ds others)
  where
    by : (is : Bool) → test d ≡ is → (list_any test ds ≡ true → some_or (filter test ds) others ≡ filter test ds)
        → some_or (filter test (d ∷ ds)) others ≡ filter test (d ∷ ds)
    by true e rest = rw e refl
    by false e rest = rw e (rest (sym (ap (λ t. t || list_any test ds) e) ∙ some))

filter_push : (test : Declaration → Bool) (ds : List Declaration) (d : Declaration) (is : Bool) → test d ≡ is
    → filter test (ds ++ d ∷ []) ≡ (if is then filter test ds ++ d ∷ [] else filter test ds)
filter_push test ds d true e = filter-append test ds (d ∷ []) ∙ ap (λ is. filter test ds ++ cond is (d ∷ []) []) e
filter_push test ds d false e =
    filter-append test ds (d ∷ []) ∙ ap (λ is. filter test ds ++ cond is (d ∷ []) []) e ∙ append-nil (filter test ds)

any_push : (test : Declaration → Bool) (ds : List Declaration) (d : Declaration) (before is : Bool) → list_any test ds ≡ before → test d ≡ is
    → list_any test (ds ++ d ∷ []) ≡ (before || is)
any_push test ds d before is e f =
    list_any-append test ds (d ∷ []) ∙ ap (λ some. some || (test d || false)) e ∙ ap (λ is. before || (is || false)) f ∙ ap (λ is. before || is) (or_nil is)
  where
    or_nil : (a : Bool) → (a || false) ≡ a
    or_nil true = refl
    or_nil false = refl

-- the named ones by what is known of paths: some are whole
named_whole : (name : List ℕ) (ds : List Declaration) → list_any (is_whole name) ds ≡ true → named_by name ds ≡ filter (is_whole name) ds
named_whole name ds some = some_first (is_whole name) ds (filter (is_end name) ds) some

-- none is
named_end : (name : List ℕ) (ds : List Declaration) → list_any (is_whole name) ds ≡ false → named_by name ds ≡ filter (is_end name) ds
named_end name ds none = ap (λ whole. some_or whole (filter (is_end name) ds)) (filter_none (is_whole name) ds none)

no_fit : (whole end : Bool) → fit_by whole end ≡ fits.None → (whole ≡ false) × (end ≡ false)
no_fit true end e = absurd (cc)
no_fit false true e = absurd (cc)
no_fit false false e = (refl, refl)

end_fit : (whole end : Bool) → fit_by whole end ≡ fits.End → (whole ≡ false) × (end ≡ true)
end_fit true end e = absurd (cc)
end_fit false true e = (refl, refl)
end_fit false false e = absurd (cc)

whole_fit : (whole end : Bool) → fit_by whole end ≡ fits.Whole → whole ≡ true
whole_fit true end e = refl
whole_fit false true e = absurd (cc)
whole_fit false false e = absurd (cc)

-- what becomes of the named ones and of their fit with one more variable
pub record Becomes (name : List ℕ) (ds : List Declaration) (d : Declaration) (are : List Declaration) (is : Fit) : Type 0 where
  pub named : named_by name (ds ++ d ∷ []) ≡ are
  pub fit : best_fit name (ds ++ d ∷ []) ≡ is

fit_is : (name : List ℕ) (ds : List Declaration) (d : Declaration) (w e x y : Bool)
    → list_any (is_whole name) ds ≡ w → list_any (is_end name) ds ≡ e → is_whole name d ≡ x → is_end name d ≡ y
    → best_fit name (ds ++ d ∷ []) ≡ fit_by (w || x) (e || y)
fit_is name ds d w e x y a b f g =
    ap (λ t. fit_by t (list_any (is_end name) (ds ++ d ∷ []))) (any_push (is_whole name) ds d w x a f)
    ∙ ap (fit_by (w || x)) (any_push (is_end name) ds d e y b g)

-- a variable that does not fit
pub becomes_same : (name : List ℕ) (ds : List Declaration) (d : Declaration) → fit_of name d ≡ fits.None
    → Becomes name ds d (named_by name ds) (best_fit name ds)
becomes_same name ds d e =
    let no = no_fit (is_whole name d) (is_end name d) e in
    record {
      named = ap (λ whole. some_or whole (filter (is_end name) (ds ++ d ∷ []))) (filter_push (is_whole name) ds d false no.0)
          ∙ ap (some_or (filter (is_whole name) ds)) (filter_push (is_end name) ds d false no.1);
      fit = fit_is name ds d (list_any (is_whole name) ds) (list_any (is_end name) ds) false false refl refl no.0 no.1
          ∙ ap (λ t. fit_by t (list_any (is_end name) ds || false)) (or_nil (list_any (is_whole name) ds))
          ∙ ap (fit_by (list_any (is_whole name) ds)) (or_nil (list_any (is_end name) ds));
    }
  where
    or_nil : (a : Bool) → (a || false) ≡ a
    or_nil true = refl
    or_nil false = refl

-- the end of a path, where some path is whole
pub becomes_worse : (name : List ℕ) (ds : List Declaration) (d : Declaration) → fit_of name d ≡ fits.End → best_fit name ds ≡ fits.Whole
    → Becomes name ds d (named_by name ds) fits.Whole
becomes_worse name ds d e b =
    let is = end_fit (is_whole name d) (is_end name d) e in
    let some = whole_fit (list_any (is_whole name) ds) (list_any (is_end name) ds) b in
    let more : list_any (is_whole name) (ds ++ d ∷ []) ≡ true = any_push (is_whole name) ds d true false some is.0 in
    record {
      named = named_whole name (ds ++ d ∷ []) more ∙ filter_push (is_whole name) ds d false is.0 ∙ sym (named_whole name ds some);
      fit = ap (λ t. fit_by t (list_any (is_end name) (ds ++ d ∷ []))) more;
    }

-- the end of a path, where others fit so
pub becomes_end : (name : List ℕ) (ds : List Declaration) (d : Declaration) → fit_of name d ≡ fits.End → best_fit name ds ≡ fits.End
    → Becomes name ds d (named_by name ds ++ d ∷ []) fits.End
becomes_end name ds d e b =
    let is = end_fit (is_whole name d) (is_end name d) e in
    let some = end_fit (list_any (is_whole name) ds) (list_any (is_end name) ds) b in
    let more : list_any (is_whole name) (ds ++ d ∷ []) ≡ false = any_push (is_whole name) ds d false false some.0 is.0 in
    record {
      named = named_end name (ds ++ d ∷ []) more ∙ filter_push (is_end name) ds d true is.1
          ∙ ap (λ named. named ++ d ∷ []) (sym (named_end name ds some.0));
      fit = fit_is name ds d false true false true some.0 some.1 is.0 is.1;
    }

-- the whole path, where others fit so
pub becomes_whole : (name : List ℕ) (ds : List Declaration) (d : Declaration) → fit_of name d ≡ fits.Whole → best_fit name ds ≡ fits.Whole
    → Becomes name ds d (named_by name ds ++ d ∷ []) fits.Whole
becomes_whole name ds d e b =
    let is = whole_fit (is_whole name d) (is_end name d) e in
    let some = whole_fit (list_any (is_whole name) ds) (list_any (is_end name) ds) b in
    let more : list_any (is_whole name) (ds ++ d ∷ []) ≡ true = any_push (is_whole name) ds d true true some is in
    record {
      named = named_whole name (ds ++ d ∷ []) more ∙ filter_push (is_whole name) ds d true is
          ∙ ap (λ named. named ++ d ∷ []) (sym (named_whole name ds some));
      fit = ap (λ t. fit_by t (list_any (is_end name) (ds ++ d ∷ []))) more;
    }

-- the first end of a path
pub becomes_first : (name : List ℕ) (ds : List Declaration) (d : Declaration) → fit_of name d ≡ fits.End → best_fit name ds ≡ fits.None
    → Becomes name ds d (d ∷ []) fits.End
becomes_first name ds d e b =
    let is = end_fit (is_whole name d) (is_end name d) e in
    let none = no_fit (list_any (is_whole name) ds) (list_any (is_end name) ds) b in
    let more : list_any (is_whole name) (ds ++ d ∷ []) ≡ false = any_push (is_whole name) ds d false false none.0 is.0 in
    record {
      named = named_end name (ds ++ d ∷ []) more ∙ filter_push (is_end name) ds d true is.1
          ∙ ap (λ named. named ++ d ∷ []) (filter_none (is_end name) ds none.1);
      fit = fit_is name ds d false false false true none.0 none.1 is.0 is.1;
    }

-- the first whole path
pub becomes_better : (name : List ℕ) (ds : List Declaration) (d : Declaration) → fit_of name d ≡ fits.Whole → list_any (is_whole name) ds ≡ false
    → Becomes name ds d (d ∷ []) fits.Whole
becomes_better name ds d e none =
    let is = whole_fit (is_whole name d) (is_end name d) e in
    let more : list_any (is_whole name) (ds ++ d ∷ []) ≡ true = any_push (is_whole name) ds d false true none is in
    record {
      named = named_whole name (ds ++ d ∷ []) more ∙ filter_push (is_whole name) ds d true is
          ∙ ap (λ named. named ++ d ∷ []) (filter_none (is_whole name) ds none);
      fit = ap (λ t. fit_by t (list_any (is_end name) (ds ++ d ∷ []))) more;
    }

-- no path is whole where the fit is none or an end
pub none_whole : (name : List ℕ) (ds : List Declaration) → best_fit name ds ≢ fits.Whole → list_any (is_whole name) ds ≡ false
none_whole name ds other = by (list_any (is_whole name) ds) refl
  where
    by : (whole : Bool) → list_any (is_whole name) ds ≡ whole → list_any (is_whole name) ds ≡ false
    by true e = absurd (other (ap (λ t. fit_by t (list_any (is_end name) ds)) e))
    by false e = e
