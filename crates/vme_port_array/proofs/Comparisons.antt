-- Two passes that are compared, and what follows for the places of their entries.
use Rattle.std.proofs.Common.{ℕ, ◌≡◌, ◌+◌, ◌<◌, ◌≤◌, ◌==◌, inl, inr, List, [], ◌∷◌, ◌++◌, length, take, slice_index, slice_index_or, All, Contains, refl, ap, sym, ◌∙◌, subst, arith, append_assoc, length-append}
use Rattle.std.proofs.lemmas.Bool.{cases_lt, eqb-true}
use Rattle.std.proofs.lemmas.List.Elements.{All-nil, All-cons, All-contains, filter_passes}
use Rattle.atomic_table.specs.Table.{Me, Allows, keeps}
use Rattle.vme_object.specs.declared.history.Entry.{Entry}
use Rattle.vme_object.specs.History.{own, IsPrefix}
use Rattle.vme_object.specs.Each.{Each}
use Rattle.vme_object.proofs.lemmas.Histories.{own-append}
use Rattle.vme_port.specs.declared.home.Home.{Home}
use Rattle.vme_port.specs.Passes.{PassView}
use Rattle.vme_port.specs.Calls.{Makes}
use Rattle.vme_port.proofs.lemmas.Accounts.{own_all}
use Rattle.vme_port_array.specs.declared.indexed.Indexed.{Indexed}
use Rattle.vme_port_array.specs.declared.rule.ArrayView.{ArrayView}
use Rattle.vme_port_array.specs.Rule.{Kept}
use Rattle.vme_port_array.specs.Settlements.{Settles, HasPlaceIn}
use Rattle.vme_port_array.specs.Comparisons.{ShareHistory, HasLooked}
use Rattle.vme_port_array.proofs.Keeps.{resting}
use Rattle.vme_port_array.proofs.lemmas.OneHistory.{placed}

module _ {S C R : Type 0} (step : S → C → S × R) (starts : List S) (k : ℕ) where
  -- a load of the first word keeps the rule, and finds one history with which all accounts of the seat agree
  pub looks : (slots id : ℕ) (me : Me (Home S) (ArrayView (Indexed C) R)) → 0 < length starts
      → Allows (Kept step starts k) slots id me 0 (λ x. x) (λ n m'. HasLooked me m')
  looks slots id me some s r wide there fits64 = (
    me.0,
    keeps,
    tt,
    resting step starts k s id 0 me.0 me.1 (slice_index s.words 0) r there some (λ free. free) (λ taken. taken),
    record { same = refl; history = r.history; fits = r.each id me.0 there },
  )

-- of two prefixes of one list, one that is not longer is a prefix of the other
shorter : {A : Type 0} (a b x y : List A) → a ++ x ≡ b ++ y → length a ≤ length b → IsPrefix a b
shorter [] b x y is less = (b, refl)
shorter (e ∷ a) [] x y is less = absurd (omega arith)
shorter (e ∷ a) (f ∷ b) x y is less =
    let same : f ≡ e = cc is in
    let rest = shorter a b x y (cc is) (omega arith) in
    (rest.0, λ i. same i ∷ rest.1 i)

module _ {C R : Type 0} where
  -- each own entry of a caller is the caller's
  own_whose : (who : ℕ) (h : List (Entry C R)) → All (λ e. e.who ≡ who) (own who h)
  own_whose who h i d less = eqb-true _ _ (filter_passes (λ (e : Entry C R). e.who == who) h i d less)

  -- the own entries in a prefix of a list are at most as many as those in the list
  fewer : (who : ℕ) (a b : List (Entry C R)) → IsPrefix a b → length (own who a) ≤ length (own who b)
  fewer who a b begins =
      let all : own who b ≡ own who a ++ own who begins.0 = ap (own who) begins.1 ∙ own-append who a begins.0 in
      omega (arith, ap length all, length-append (own who a) (own who begins.0))

  module _ (p q : PassView C R) (share : ShareHistory p q) where
    -- a pass has seen no entries of the other that this one has not made
    seen_made : length (own q.who p.seen) ≤ length q.mine
    seen_made =
        let most = fewer q.who p.seen share.history share.first.begins in
        omega (arith, ap length share.second.complete)

    -- an entry that the other made after the comparison comes after all that the pass had seen
    comes_behind : (h before after : List (Entry C R)) (e : Entry C R) (n : ℕ) → IsPrefix p.seen h → h ≡ before ++ e ∷ after → e.who ≡ q.who
        → length (own q.who before) ≡ length q.mine + n → IsPrefix p.seen before
    comes_behind h before after e n begins place whose many = elim (cases_lt (length before) (length p.seen)) [
      | inl less ↦ absurd (
          let split : (before ++ e ∷ []) ++ after ≡ p.seen ++ begins.0 = append_assoc before (e ∷ []) after ∙ sym place ∙ begins.1 in
          let within = shorter (before ++ e ∷ []) p.seen after begins.0 split (omega (arith, length-append before (e ∷ []))) in
          let most = fewer q.who (before ++ e ∷ []) p.seen within in
          let one : own q.who (e ∷ []) ≡ e ∷ [] = own_all q.who (e ∷ []) (All-cons (λ (e : Entry C R). e.who ≡ q.who) e [] whose (All-nil (λ (e : Entry C R). e.who ≡ q.who))) in
          omega (arith, seen_made, ap length (own-append q.who before (e ∷ [])), length-append (own q.who before) (own q.who (e ∷ [])), ap length one)
          )
      | inr most ↦ shorter p.seen before begins.0 (e ∷ after) (sym begins.1 ∙ place) (omega arith)
    ]

    -- what a pass had seen is a prefix of what the other has seen by calls since, when both share a history again
    pub seen_behind : (es : List (Entry C R)) (q' : PassView C R) → Makes es q q' → ShareHistory p q' → 0 < length es → IsPrefix p.seen q'.seen
    seen_behind es q' made again some = elim (cases_lt (length q'.seen) (length p.seen)) [
      | inl less ↦ absurd (
          let split : q'.seen ++ again.second.begins.0 ≡ p.seen ++ again.first.begins.0 = sym again.second.begins.1 ∙ again.first.begins.1 in
          let most = fewer q.who q'.seen p.seen (shorter q'.seen p.seen again.second.begins.0 again.first.begins.0 split (omega arith)) in
          let its : own q.who q'.seen ≡ q.mine ++ es = ap (λ who. own who q'.seen) (sym made.who) ∙ again.second.sound ∙ made.mine in
          omega (arith, seen_made, ap length its, length-append q.mine es)
          )
      | inr most ↦ shorter p.seen q'.seen again.first.begins.0 again.second.begins.0 (sym again.first.begins.1 ∙ again.second.begins.1) (omega arith)
    ]

module _ {S C R : Type 0} (step : S → C → S × R) (starts : List S) (homes : List (Home S)) (k : ℕ) (passes : List (PassView (Indexed C) R))
    (outcome : Settles step starts k passes homes) where
  -- each entry that a pass made after a comparison has its place behind all that the other pass had seen
  pub placed_behind : (ds es : List (Entry (Indexed C) R)) (p p' q q' : PassView (Indexed C) R) → ShareHistory p q → Contains passes p' → Makes ds p p'
      → Contains passes q' → Makes es q q' → Each (λ i e. HasPlaceIn step starts outcome.history p.seen (q.mine ++ take i es) e) es
  placed_behind ds es p p' q q' share there made there' made' i d less =
      let e : Entry (Indexed C) R = slice_index_or es i d in
      let at = placed step starts k passes homes outcome es q q' there' made' i d less in
      let ends : IsPrefix p'.seen outcome.history = All-contains (λ (p : PassView (Indexed C) R). IsPrefix p.seen outcome.history) passes p' outcome.seen there in
      let begins : IsPrefix p.seen outcome.history =
      (made.since ++ ends.0, ends.1 ∙ ap (λ l. l ++ ends.0) made.seen ∙ append_assoc p.seen made.since ends.0) in
      let whose : e.who ≡ q.who = subst (λ l. All (λ (e : Entry (Indexed C) R). e.who ≡ q.who) l) made'.its (own_whose q.who made'.since) i d less in
      let only : own q.who at.before ≡ q.mine ++ take i es = ap (λ who. own who at.before) (sym whose) ∙ at.only in record {
        before = at.before;
        after = at.after;
        place = at.place;
        behind = comes_behind p q share outcome.history at.before at.after e (length (take i es)) begins at.place whose (ap length only ∙ length-append q.mine (take i es));
        only = at.only;
        reply = at.reply;
      }
