-- One more variable of a header, as a wanted one.
use Rattle.std.proofs.Common.{◌≡◌, Bool, true, false, not, ◌||◌, List, [], ◌∷◌, ◌++◌, filter_map, Some, None, is_none, refl, ap, sym, ◌∙◌, arith, append-nil}
use Rattle.std.specs.Prelude.{filter, if◌then◌else◌}
use Rattle.std.specs.Option.{option_map}
use Rattle.std.proofs.Common.{cond}
use Rattle.vme_vcd_reader.specs.declared.variable.Mapped.{Mapped}
use Rattle.std.specs.List.{list_any}
use Rattle.std.proofs.lemmas.Bool.Decides.{nat_tests}
use Rattle.std.proofs.lemmas.List.Elements.{filter-append, filter_map-append}
use Rattle.std.proofs.lemmas.List.Folds.{list_any-append}
use Rattle.vme_line_map.specs.Variables.{Variable}
use Rattle.vme_vcd_reader.specs.declared.matching.Found.{Found}
use Rattle.vme_vcd_reader.specs.declared.matching.Part.{Part}
use Rattle.vme_vcd_reader.specs.Mapping.{Declaration, mapped_of}
use Rattle.vme_vcd_reader.specs.Matches.{clashes, distinct, has_clash, is_same, part_of}
use Rattle.vme_vcd_reader.specs.Found.{Holds}

or_nil : (a : Bool) → (a || false) ≡ a
or_nil true = refl
or_nil false = refl

or_all : (a : Bool) → (a || true) ≡ true
or_all true = refl
or_all false = refl

-- a filter and a test of some with one more at the end
filter_push : {X : Type 0} (test : X → Bool) (xs : List X) (x : X) (is : Bool) → test x ≡ is
    → filter test (xs ++ x ∷ []) ≡ (if is then filter test xs ++ x ∷ [] else filter test xs)
filter_push test xs x true e = filter-append test xs (x ∷ []) ∙ ap (λ is. filter test xs ++ cond is (x ∷ []) []) e
filter_push test xs x false e =
    filter-append test xs (x ∷ []) ∙ ap (λ is. filter test xs ++ cond is (x ∷ []) []) e ∙ append-nil (filter test xs)

any_push : {X : Type 0} (test : X → Bool) (xs : List X) (x : X) → list_any test (xs ++ x ∷ []) ≡ (list_any test xs || test x)
any_push test xs x = list_any-append test xs (x ∷ []) ∙ ap (λ more. list_any test xs || more) (or_nil (test x))

-- what is the same as another one is so to all
same_as : (p q r : Part) → is_same q r ≡ true → is_same p q ≡ is_same p r
same_as p q r same = grind (arith, nat_tests, same)

-- none of a filter
any_filtered : {X : Type 0} (test keep : X → Bool) (xs : List X) → list_any test xs ≡ false → list_any test (filter keep xs) ≡ false
any_filtered test keep [] none = refl
any_filtered test keep (x ∷ xs) none = by (keep x) (test x) refl refl (any_filtered test keep xs)
  where
    by : (k t : Bool) → keep x ≡ k → test x ≡ t → (list_any test xs ≡ false → list_any test (filter keep xs) ≡ false)
        → list_any test (filter keep (x ∷ xs)) ≡ false
    by k true e f rest = absurd (cc (f, none))
    by true false e f rest = rw (e, f) (rest (sym (ap (λ t. t || list_any test xs) f) ∙ none))
    by false false e f rest = rw e (rest (sym (ap (λ t. t || list_any test xs) f) ∙ none))

-- if none of those that a filter keeps is the same as another, but one of all is, the filtered one is it
any_kept : (q p : Part) (xs : List Part) → is_same q p ≡ false → list_any (λ r. is_same r p) xs ≡ true
    → list_any (λ r. is_same r p) (filter (λ r. not (is_same q r)) xs) ≡ true
any_kept q p [] other some = absurd (cc)
any_kept q p (x ∷ xs) other some =
    by (is_same q x) (is_same x p) refl refl
    (λ f. any_kept q p xs other (sym (ap (λ t. t || list_any (λ r. is_same r p) xs) f) ∙ some))
  where
    by : (k t : Bool) → is_same q x ≡ k → is_same x p ≡ t
        → (is_same x p ≡ false → list_any (λ r. is_same r p) (filter (λ r. not (is_same q r)) xs) ≡ true)
        → list_any (λ r. is_same r p) (filter (λ r. not (is_same q r)) (x ∷ xs)) ≡ true
    by true true e f rest = absurd (cc (same_as q x p f, e, other))
    by true false e f rest = rw e (rest f)
    by false true e f rest = rw (e, f) refl
    by false false e f rest = rw (e, f) (rest f)

-- each of some variables once, with one more at their end
pub distinct_push : (ps : List Part) (p : Part) (is : Bool) → list_any (λ q. is_same q p) (distinct ps) ≡ is
    → distinct (ps ++ p ∷ []) ≡ (if is then distinct ps else distinct ps ++ p ∷ [])
distinct_push [] p true e = absurd (cc)
distinct_push [] p false e = refl
distinct_push (q ∷ ps) p is e =
    by (list_any (λ r. is_same r p) (distinct ps)) (is_same q p) refl refl (distinct_push ps p)
  where
    keep : Part → Bool
    keep r = not (is_same q r)

    by : (some same : Bool) → list_any (λ r. is_same r p) (distinct ps) ≡ some → is_same q p ≡ same
        → ((is : Bool) → list_any (λ r. is_same r p) (distinct ps) ≡ is
        → distinct (ps ++ p ∷ []) ≡ (if is then distinct ps else distinct ps ++ p ∷ []))
        → q ∷ filter (λ r. not (is_same q r)) (distinct (ps ++ p ∷ []))
        ≡ (if is then q ∷ filter (λ r. not (is_same q r)) (distinct ps) else (q ∷ filter (λ r. not (is_same q r)) (distinct ps)) ++ p ∷ [])
    by true true f g rest =
        let is_so : is ≡ true = sym e ∙ ap (λ t. t || list_any (λ r. is_same r p) (filter keep (distinct ps))) g in
        rw (rest true f, is_so) refl
    by true false f g rest =
        let is_so : is ≡ true = sym e ∙ ap (λ t. t || list_any (λ r. is_same r p) (filter keep (distinct ps))) g ∙ any_kept q p (distinct ps) g f in
        rw (rest true f, is_so) refl
    by false true f g rest =
        let is_so : is ≡ true = sym e ∙ ap (λ t. t || list_any (λ r. is_same r p) (filter keep (distinct ps))) g in
        let kept : filter keep (distinct ps ++ p ∷ []) ≡ filter keep (distinct ps) = filter_push keep (distinct ps) p false (ap not g) in
        rw (rest false f, is_so) (ap (λ rest. q ∷ rest) kept)
    by false false f g rest =
        let is_so : is ≡ false = sym e ∙ ap (λ t. t || list_any (λ r. is_same r p) (filter keep (distinct ps))) g
        ∙ any_filtered (λ r. is_same r p) keep (distinct ps) f in
        let kept : filter keep (distinct ps ++ p ∷ []) ≡ filter keep (distinct ps) ++ p ∷ [] = filter_push keep (distinct ps) p true (ap not g) in
        rw (rest false f, is_so) (ap (λ rest. q ∷ rest) kept)

or_around : (a b c d : Bool) → ((a || b) || (c || d)) ≡ ((a || c) || (b || d))
or_around true b c d = refl
or_around false true true d = refl
or_around false true false d = refl
or_around false false c d = refl

-- whether some two clash, with one more at the end
pub clash_push : (ps : List Part) (p : Part) → has_clash (ps ++ p ∷ []) ≡ (has_clash ps || list_any (λ q. clashes q p) ps)
clash_push [] p = refl
clash_push (q ∷ ps) p =
    ap (λ some. some || has_clash (ps ++ p ∷ [])) (any_push (clashes q) ps p)
    ∙ ap (λ some. (list_any (clashes q) ps || clashes q p) || some) (clash_push ps p)
    ∙ or_around (list_any (clashes q) ps) (clashes q p) (has_clash ps) (list_any (λ r. clashes r p) ps)

-- one more variable that is no line of the wanted one
parts_none : (w : Variable) (named : List Declaration) (d : Declaration) → part_of w d ≡ None
    → filter_map (part_of w) (named ++ d ∷ []) ≡ filter_map (part_of w) named
parts_none w named d e =
    let one : filter_map (part_of w) (d ∷ []) ≡ [] = rw e refl in
    filter_map-append (part_of w) named (d ∷ []) ∙ ap (λ more. filter_map (part_of w) named ++ more) one
    ∙ append-nil (filter_map (part_of w) named)

parts_some : (w : Variable) (named : List Declaration) (d : Declaration) (p : Part) → part_of w d ≡ Some p
    → filter_map (part_of w) (named ++ d ∷ []) ≡ filter_map (part_of w) named ++ p ∷ []
parts_some w named d p e =
    let one : filter_map (part_of w) (d ∷ []) ≡ p ∷ [] = rw e refl in
    filter_map-append (part_of w) named (d ∷ []) ∙ ap (λ more. filter_map (part_of w) named ++ more) one

-- the parts of variables
abbrev parts : Variable → List Declaration → List Part
parts w named = filter_map (part_of w) named

-- what clashes does so with more variables
clash_stays : (ps : List Part) (p : Part) → has_clash (distinct ps) ≡ true → has_clash (distinct (ps ++ p ∷ [])) ≡ true
clash_stays ps p e = by (list_any (λ q. is_same q p) (distinct ps)) refl
  where
    by : (is : Bool) → list_any (λ q. is_same q p) (distinct ps) ≡ is → has_clash (distinct (ps ++ p ∷ [])) ≡ true
    by true f = ap has_clash (distinct_push ps p true f) ∙ e
    by false f =
        ap has_clash (distinct_push ps p false f) ∙ clash_push (distinct ps) p
        ∙ ap (λ some. some || list_any (λ q. clashes q p) (distinct ps)) e

-- whether one has other bits, with one more variable
wrong_push : (w : Variable) (named : List Declaration) (d : Declaration) (is : Bool) → is_none (mapped_of w d) ≡ is
    → list_any (λ d. is_none (mapped_of w d)) (named ++ d ∷ []) ≡ (list_any (λ d. is_none (mapped_of w d)) named || is)
wrong_push w named d is e =
    any_push (λ d. is_none (mapped_of w d)) named d ∙ ap (λ is. list_any (λ d. is_none (mapped_of w d)) named || is) e

-- one more variable: it has other bits
pub holds_wrong : (w : Variable) (named : List Declaration) (d : Declaration) (f g : Found) → Holds named w f → mapped_of w d ≡ None
    → g.is_wrong ≡ true → g.is_ambiguous ≡ f.is_ambiguous → g.parts.items ≡ f.parts.items → Holds (named ++ d ∷ []) w g
holds_wrong w named d f g holds none wrong ambiguous same =
    let no_part : part_of w d ≡ None = ap (option_map (λ m. record { scope = d.scope; identifier = d.identifier; mapped = m })) none in
    let e : parts w (named ++ d ∷ []) ≡ parts w named = parts_none w named d no_part in
    record {
      wrong = wrong ∙ sym (wrong_push w named d true (ap is_none none) ∙ or_all (list_any (λ d. is_none (mapped_of w d)) named));
      ambiguous = ambiguous ∙ holds.ambiguous ∙ sym (ap (λ ps. has_clash (distinct ps)) e);
      parts = λ clear. same ∙ holds.parts (sym ambiguous ∙ clear) ∙ sym (ap distinct e);
    }

-- a variable as a part
part_is : (w : Variable) (d : Declaration) (m : Mapped) → mapped_of w d ≡ Some m
    → part_of w d ≡ Some (record { scope = d.scope; identifier = d.identifier; mapped = m })
part_is w d m e = ap (option_map (λ m. record { scope = d.scope; identifier = d.identifier; mapped = m })) e

-- the part of a variable with these bits
abbrev pub part_with : Declaration → Mapped → Part
part_with d m = record { scope = d.scope; identifier = d.identifier; mapped = m }

right_bits : (w : Variable) (named : List Declaration) (d : Declaration) (m : Mapped) → mapped_of w d ≡ Some m
    → list_any (λ d. is_none (mapped_of w d)) (named ++ d ∷ []) ≡ list_any (λ d. is_none (mapped_of w d)) named
right_bits w named d m e =
    wrong_push w named d false (ap is_none e) ∙ or_nil (list_any (λ d. is_none (mapped_of w d)) named)

-- it is the same as one before
pub holds_same : (w : Variable) (named : List Declaration) (d : Declaration) (m : Mapped) (f g : Found) → Holds named w f → mapped_of w d ≡ Some m
    → list_any (λ q. is_same q (part_with d m)) f.parts.items ≡ true
    → g.is_wrong ≡ f.is_wrong → g.is_ambiguous ≡ f.is_ambiguous → g.parts.items ≡ f.parts.items → Holds (named ++ d ∷ []) w g
holds_same w named d m f g holds bits some wrong ambiguous same =
    let e : parts w (named ++ d ∷ []) ≡ parts w named ++ part_with d m ∷ [] = parts_some w named d (part_with d m) (part_is w d m bits) in
    by e f.is_ambiguous refl
  where
    ps : List Part
    ps = parts w named

    by : parts w (named ++ d ∷ []) ≡ ps ++ part_with d m ∷ [] → (b : Bool) → f.is_ambiguous ≡ b → Holds (named ++ d ∷ []) w g
    by e false clear =
        let are : f.parts.items ≡ distinct ps = holds.parts clear in
        let once : distinct (ps ++ part_with d m ∷ []) ≡ distinct ps =
        distinct_push ps (part_with d m) true (sym (ap (list_any (λ q. is_same q (part_with d m))) are) ∙ some) in
        record {
          wrong = wrong ∙ holds.wrong ∙ sym (right_bits w named d m bits);
          ambiguous = ambiguous ∙ holds.ambiguous ∙ sym (ap (λ ps. has_clash (distinct ps)) e ∙ ap has_clash once);
          parts = λ _. same ∙ are ∙ sym (ap distinct e ∙ once);
        }
    by e true many =
        let clash : has_clash (distinct ps) ≡ true = sym holds.ambiguous ∙ many in
        record {
          wrong = wrong ∙ holds.wrong ∙ sym (right_bits w named d m bits);
          ambiguous = ambiguous ∙ many ∙ sym (ap (λ ps. has_clash (distinct ps)) e ∙ clash_stays ps (part_with d m) clash);
          parts = λ clear. absurd (cc (clear, ambiguous, many));
        }

-- it clashes with one before
pub holds_clash : (w : Variable) (named : List Declaration) (d : Declaration) (m : Mapped) (f g : Found) → Holds named w f → mapped_of w d ≡ Some m
    → list_any (λ q. is_same q (part_with d m)) f.parts.items ≡ false → list_any (λ q. clashes q (part_with d m)) f.parts.items ≡ true
    → g.is_wrong ≡ f.is_wrong → g.is_ambiguous ≡ true → Holds (named ++ d ∷ []) w g
holds_clash w named d m f g holds bits none some wrong ambiguous =
    let e : parts w (named ++ d ∷ []) ≡ parts w named ++ part_with d m ∷ [] = parts_some w named d (part_with d m) (part_is w d m bits) in
    record {
      wrong = wrong ∙ holds.wrong ∙ sym (right_bits w named d m bits);
      ambiguous = ambiguous ∙ sym (ap (λ ps. has_clash (distinct ps)) e ∙ by f.is_ambiguous refl);
      parts = λ clear. absurd (cc (clear, ambiguous));
    }
  where
    ps : List Part
    ps = parts w named

    by : (b : Bool) → f.is_ambiguous ≡ b → has_clash (distinct (ps ++ part_with d m ∷ [])) ≡ true
    by false clear =
        let are : f.parts.items ≡ distinct ps = holds.parts clear in
        let more : distinct (ps ++ part_with d m ∷ []) ≡ distinct ps ++ part_with d m ∷ [] =
        distinct_push ps (part_with d m) false (sym (ap (list_any (λ q. is_same q (part_with d m))) are) ∙ none) in
        ap has_clash more ∙ clash_push (distinct ps) (part_with d m)
        ∙ ap (λ some. has_clash (distinct ps) || some) (sym (ap (list_any (λ q. clashes q (part_with d m))) are) ∙ some)
        ∙ or_all (has_clash (distinct ps))
    by true many = clash_stays ps (part_with d m) (sym holds.ambiguous ∙ many)

-- it is another one
pub holds_more : (w : Variable) (named : List Declaration) (d : Declaration) (m : Mapped) (f g : Found) → Holds named w f → mapped_of w d ≡ Some m
    → list_any (λ q. is_same q (part_with d m)) f.parts.items ≡ false → list_any (λ q. clashes q (part_with d m)) f.parts.items ≡ false
    → g.is_wrong ≡ f.is_wrong → g.is_ambiguous ≡ f.is_ambiguous → g.parts.items ≡ f.parts.items ++ part_with d m ∷ []
    → Holds (named ++ d ∷ []) w g
holds_more w named d m f g holds bits none apart wrong ambiguous more =
    let e : parts w (named ++ d ∷ []) ≡ parts w named ++ part_with d m ∷ [] = parts_some w named d (part_with d m) (part_is w d m bits) in
    by e f.is_ambiguous refl
  where
    ps : List Part
    ps = parts w named

    by : parts w (named ++ d ∷ []) ≡ ps ++ part_with d m ∷ [] → (b : Bool) → f.is_ambiguous ≡ b → Holds (named ++ d ∷ []) w g
    by e false clear =
        let are : f.parts.items ≡ distinct ps = holds.parts clear in
        let once : distinct (ps ++ part_with d m ∷ []) ≡ distinct ps ++ part_with d m ∷ [] =
        distinct_push ps (part_with d m) false (sym (ap (list_any (λ q. is_same q (part_with d m))) are) ∙ none) in
        let clash : has_clash (distinct (ps ++ part_with d m ∷ [])) ≡ has_clash (distinct ps) =
        ap has_clash once ∙ clash_push (distinct ps) (part_with d m)
        ∙ ap (λ some. has_clash (distinct ps) || some) (sym (ap (list_any (λ q. clashes q (part_with d m))) are) ∙ apart)
        ∙ or_nil (has_clash (distinct ps)) in
        record {
          wrong = wrong ∙ holds.wrong ∙ sym (right_bits w named d m bits);
          ambiguous = ambiguous ∙ holds.ambiguous ∙ sym (ap (λ ps. has_clash (distinct ps)) e ∙ clash);
          parts = λ _. more ∙ ap (λ items. items ++ part_with d m ∷ []) are ∙ sym (ap distinct e ∙ once);
        }
    by e true many =
        let clash : has_clash (distinct ps) ≡ true = sym holds.ambiguous ∙ many in
        record {
          wrong = wrong ∙ holds.wrong ∙ sym (right_bits w named d m bits);
          ambiguous = ambiguous ∙ many ∙ sym (ap (λ ps. has_clash (distinct ps)) e ∙ clash_stays ps (part_with d m) clash);
          parts = λ clear. absurd (cc (clear, ambiguous, many));
        }

-- no variables
pub holds_none : (w : Variable) (f : Found) → f.is_wrong ≡ false → f.is_ambiguous ≡ false → f.parts.items ≡ [] → Holds [] w f
holds_none w f wrong ambiguous none = record { wrong = wrong; ambiguous = ambiguous; parts = λ _. none }
