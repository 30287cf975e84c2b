-- The places of one caller's entries in a history.
use Rattle.std.proofs.Common.{ℕ, zero, suc, ◌≡◌, ◌≢◌, ◌<◌, ◌==◌, inl, inr, Bool, cond, List, [], ◌∷◌, ◌++◌, length, take, slice_index_or, Contains, refl, ap, sym, ◌∙◌, subst, arith, eq-eqb, ne_eqb}
use Rattle.std.specs.List.{count_by}
use Rattle.std.proofs.lemmas.Bool.{cases_eq}
use Rattle.std.proofs.lemmas.List.Sums.{sum_by-cons}
use Rattle.vme_object.specs.declared.history.Entry.{Entry}
use Rattle.vme_object.specs.History.{own}
use Rattle.vme_port.specs.Passes.{PassView}

-- a place in a history of an entry of `who`, after exactly the entries `mine` of `who`
pub record IsPlaceOf {C R : Type 0} (who : ℕ) (h mine : List (Entry C R)) (e : Entry C R) : Type 0 where
  pub before : List (Entry C R)
  pub after : List (Entry C R)
  pub place : h ≡ before ++ e ∷ after
  pub whose : e.who ≡ who
  pub only : own who before ≡ mine

module _ {C R : Type 0} where
  -- the own entries of `who` in a history that begins with an entry of `who`
  own_first : (who : ℕ) (e : Entry C R) (h : List (Entry C R)) → e.who ≡ who → own who (e ∷ h) ≡ e ∷ own who h
  own_first who e h same = ap (λ (b : Bool). cond b (e ∷ own who h) (own who h)) (eq-eqb e.who who same)

  -- the own entries of `who` in a history that begins with an entry of another caller
  own_later : (who : ℕ) (e : Entry C R) (h : List (Entry C R)) → e.who ≢ who → own who (e ∷ h) ≡ own who h
  own_later who e h other = ap (λ (b : Bool). cond b (e ∷ own who h) (own who h)) (ne_eqb e.who who other)

  -- an entry keeps its place after one more entry of `who`
  place_behind_own : (who : ℕ) (g e : Entry C R) (h mine : List (Entry C R)) → g.who ≡ who → IsPlaceOf who h mine e → IsPlaceOf who (g ∷ h) (g ∷ mine) e
  place_behind_own who g e h mine same p = record {
    before = g ∷ p.before;
    after = p.after;
    place = ap (λ l. g ∷ l) p.place;
    whose = p.whose;
    only = own_first who g p.before same ∙ ap (λ l. g ∷ l) p.only;
  }

  -- an entry keeps its place after one more entry of another caller
  place_behind_other : (who : ℕ) (g e : Entry C R) (h mine : List (Entry C R)) → g.who ≢ who → IsPlaceOf who h mine e → IsPlaceOf who (g ∷ h) mine e
  place_behind_other who g e h mine other p = record {
    before = g ∷ p.before;
    after = p.after;
    place = ap (λ l. g ∷ l) p.place;
    whose = p.whose;
    only = own_later who g p.before other ∙ p.only;
  }

  -- the i-th own entry of `who` has its place in the history
  pub place_of : (who : ℕ) (h : List (Entry C R)) (i : ℕ) (d : Entry C R) → i < length (own who h)
      → IsPlaceOf who h (take i (own who h)) (slice_index_or (own who h) i d)
  place_of who [] i d less = absurd (omega arith)
  place_of who (g ∷ h) zero d less = elim (cases_eq g.who who) [
    | inl same ↦
        subst (λ l. IsPlaceOf who (g ∷ h) (take 0 l) (slice_index_or l 0 d)) (sym (own_first who g h same))
        (record { before = []; after = h; place = refl; whose = same; only = refl })
    | inr other ↦
        let its = own_later who g h other in
        let p = place_of who h zero d (subst (λ l. 0 < length l) its less) in
        subst (λ l. IsPlaceOf who (g ∷ h) (take 0 l) (slice_index_or l 0 d)) (sym its) (place_behind_other who g _ h _ other p)
  ]
  place_of who (g ∷ h) (suc i) d less = elim (cases_eq g.who who) [
    | inl same ↦
        let its = own_first who g h same in
        let within : suc i < length (g ∷ own who h) = subst (λ l. suc i < length l) its less in
        let p = place_of who h i d (omega arith) in
        subst (λ l. IsPlaceOf who (g ∷ h) (take (suc i) l) (slice_index_or l (suc i) d)) (sym its) (place_behind_own who g _ h _ same p)
    | inr other ↦
        let its = own_later who g h other in
        let p = place_of who h (suc i) d (subst (λ l. suc i < length l) its less) in
        subst (λ l. IsPlaceOf who (g ∷ h) (take (suc i) l) (slice_index_or l (suc i) d)) (sym its) (place_behind_other who g _ h _ other p)
  ]

  -- two entries of `who` that follow the same own entries of `who` have the same place
  pub same_place : (who : ℕ) (a b : List (Entry C R)) (e f : Entry C R) (x y : List (Entry C R)) → a ++ e ∷ x ≡ b ++ f ∷ y → e.who ≡ who
      → f.who ≡ who → own who a ≡ own who b → a ≡ b
  same_place who [] [] e f x y is mine theirs same = refl
  same_place who [] (g ∷ b) e f x y is mine theirs same =
      let first : e ≡ g = cc is in
      let wrong : ◌≡◌ {A = List (Entry C R)} [] (g ∷ own who b) = same ∙ own_first who g b (ap (λ (e : Entry C R). e.who) (sym first) ∙ mine) in
      cc wrong
  same_place who (g ∷ a) [] e f x y is mine theirs same =
      let first : g ≡ f = cc is in
      let wrong : ◌≡◌ {A = List (Entry C R)} (g ∷ own who a) [] = sym (own_first who g a (ap (λ (e : Entry C R). e.who) first ∙ theirs)) ∙ same in
      cc wrong
  same_place who (g ∷ a) (k ∷ b) e f x y is mine theirs same =
      let first : g ≡ k = cc is in
      let rest : a ++ e ∷ x ≡ b ++ f ∷ y = cc is in
      let owns : own who a ≡ own who b = elim (cases_eq g.who who) [
        | inl its ↦
            let both : g ∷ own who a ≡ k ∷ own who b = sym (own_first who g a its) ∙ same ∙ own_first who k b (ap (λ (e : Entry C R). e.who) (sym first) ∙ its) in
            cc both
        | inr other ↦ sym (own_later who g a other) ∙ same ∙ own_later who k b (λ its. other (ap (λ (e : Entry C R). e.who) first ∙ its))
      ] in
      let prefixes : a ≡ b = same_place who a b e f x y rest mine theirs owns in
      λ i. first i ∷ prefixes i

  -- an entry of a history is among the own entries of its caller
  pub own_contains : (h : List (Entry C R)) (e : Entry C R) → Contains h e → Contains (own e.who h) e
  own_contains [] e (i, within, is) = absurd (omega arith)
  own_contains (g ∷ h) e (zero, within, is) =
      subst (λ l. Contains l e) (sym (own_first e.who g h (ap (λ (e : Entry C R). e.who) is))) (0, omega arith, is)
  own_contains (g ∷ h) e (suc i, within, is) =
      let (j, less, there) = own_contains h e (i, omega arith, is) in
      elim (cases_eq g.who e.who) [
        | inl same ↦ subst (λ l. Contains l e) (sym (own_first e.who g h same)) (suc j, omega arith, there)
        | inr other ↦ subst (λ l. Contains l e) (sym (own_later e.who g h other)) (j, less, there)
      ]

  -- if exactly one pass has the number `who`, the passes contain it
  pub pass_of_who : (who : ℕ) (ps : List (PassView C R)) → count_by (λ p. p.who == who) ps ≡ 1 → (p : PassView C R) × Contains ps p × (p.who ≡ who)
  pass_of_who who [] one = absurd (omega arith)
  pass_of_who who (p ∷ ps) one = elim (cases_eq p.who who) [
    | inl same ↦ (p, (0, omega arith, refl), same)
    | inr other ↦
        let none : ◌≡◌ {A = ℕ} (cond (p.who == who) 1 0) 0 = ap (λ (b : Bool). cond b 1 0) (ne_eqb p.who who other) in
        let found = pass_of_who who ps (omega (arith, sum_by-cons (λ (p : PassView C R). cond (p.who == who) 1 0) p ps)) in
        let within : found.1.0 < length ps = found.1.1 in
        (found.0, (suc found.1.0, omega arith, found.1.2), found.2)
  ]
