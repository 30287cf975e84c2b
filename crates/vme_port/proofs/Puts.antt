-- A put keeps the rule, whatever entries of the holder it adds.
use Rattle.std.proofs.Common.{ℕ, ◌≡◌, ◌≢◌, ◌<◌, inl, inr, Bool, true, false, cond, ltb, List, [], ◌∷◌, ◌++◌, length, set, All, refl, ap, sym, ◌∙◌, subst, arith, length-set}
use Rattle.std.proofs.lemmas.List.{append-nil}
use Rattle.std.proofs.lemmas.List.Elements.{All-nil, All-cons, All-append, All-weaker}
use mathlib.Core.Option.{none, some}
use lib.ListN.{get_elem?}
use Rattle.atomic_table.specs.Table.{State, Me, gives, Allows, stepped, step as table_step}
use Rattle.atomic_table.proofs.Lists.{at_set}
use Rattle.vme_object.specs.declared.history.Entry.{Entry}
use Rattle.vme_object.specs.History.{replay, IsLegal, own}
use Rattle.vme_object.proofs.lemmas.Histories.{own-append, legal-append}
use Rattle.vme_port.specs.declared.rule.Account.{Account}
use Rattle.vme_port.specs.declared.rule.SeatView.{SeatView}
use Rattle.vme_port.specs.declared.home.Home.{Home}
use Rattle.vme_port.specs.Views.{account, view, weight, names_among, names}
use Rattle.vme_port.specs.Rule.{IsConsistent, Away, Kept}
use Rattle.vme_port.specs.Steps.{MayPut, put_effect}
use Rattle.vme_port.proofs.lemmas.Totals.{counts_once, sum_set, sum_two}
use Rattle.vme_port.proofs.lemmas.Accounts.{head_same, own_all, fits_all, names_self}
use Rattle.vme_port.proofs.Keeps.{word_set, out_counts, who_below, is_away}

module _ {S C R : Type 0} (step : S → C → S × R) (start : S) (k : ℕ) where
  abbrev Rule : State (Home S) (SeatView C R) → Type 0
  Rule = Kept step start k

  -- the accounts of all other views are those of other callers
  others_named : (s : State (Home S) (SeatView C R)) (id j : ℕ) (a : Account C R) (out : Bool) (u : SeatView C R) → Rule s → get_elem? s.views id ≡ some (view (a ∷ []) out)
      → get_elem? s.views j ≡ some u → j ≢ id → names_among a.who u.accounts ≡ 0
  others_named s id j a out u r at there apart =
      let self = names_self a in
      let both = sum_two (names a.who) s.views id j (view (a ∷ []) out) u at there apart in
      omega (arith, r.shared a.who, counts_once (ltb a.who k))

  -- the holder's account agrees with the history that its entries are appended to
  holder_fits : (h es : List (Entry C R)) (a : Account C R) → All (λ e. e.who ≡ a.who) es → a.seen ≡ h → IsConsistent h a
      → IsConsistent (h ++ es) (account a.who (a.seen ++ es) (a.mine ++ es))
  holder_fits h es a whose seen f = record {
    begins = ([], ap (λ l. l ++ es) (sym seen) ∙ sym (append-nil (a.seen ++ es)));
    sound = own-append a.who a.seen es ∙ ap (λ l. l ++ own a.who es) f.sound ∙ ap (λ l. a.mine ++ l) (own_all a.who es whose);
    complete = own-append a.who h es ∙ ap (λ l. l ++ own a.who es) f.complete ∙ ap (λ l. a.mine ++ l) (own_all a.who es whose);
  }

  -- the rule holds in the state after a put
  putting : (s : State (Home S) (SeatView C R)) (id : ℕ) (a : Account C R) (home : Home S) (es : List (Entry C R)) (r : Rule s)
      → get_elem? s.views id ≡ some (view (a ∷ []) true) → a.seen ≡ r.history → Away step start r.history s
      → IsLegal step (replay step start r.history) es → All (λ e. e.who ≡ a.who) es
      → home.object ≡ replay step start (r.history ++ es) → home.count ≡ length (r.history ++ es)
      → Rule (stepped s 0 0 id ((0, home) ∷ []) (view (account a.who (a.seen ++ es) (a.mine ++ es) ∷ []) false) gives)
  putting s id a home es r at seen away legal whose object count =
      let v : SeatView C R = view (a ∷ []) true in
      let b : Account C R = account a.who (a.seen ++ es) (a.mine ++ es) in
      let w : SeatView C R = view (b ∷ []) false in
      let h : List (Entry C R) = r.history in
      let fits : IsConsistent h a = r.each id v at 0 a (omega arith) in
      let below : a.who < k = who_below k s.views id a true r.shared at in record {
        history = h ++ es;
        legal = legal-append step start h es r.legal legal;
        one_word = length-set s.words 0 0 ∙ r.one_word;
        each = λ j u there. elim (at_set s.views id j w u there) [
          | inl here ↦ subst (λ (u : SeatView C R). All (IsConsistent (h ++ es)) u.accounts) here.1 (All-cons (IsConsistent (h ++ es)) b [] (holder_fits h es a whose seen fits) (All-nil (IsConsistent (h ++ es))))
          | inr else ↦ fits_all a.who h es u.accounts whose (others_named s id j a true u r at else.1 else.0) (r.each j u else.1)
        ];
        shared = λ who. let sums = sum_set (names who) s.views id v w at in let was = r.shared who in omega arith;
        weights = let sums = sum_set weight s.views id v w at in omega (arith, r.weights);
        known = All-append (λ (e : Entry C R). e.who < k) h es r.known
            (All-weaker (λ (e : Entry C R). e.who ≡ a.who) (λ (e : Entry C R). e.who < k) (λ e same. omega arith) es whose);
        place = inl (record {
          free = word_set s.words 0 r.one_word;
          home = home;
          here = ap (λ hs. set hs 0 (some home)) away.gone;
          object = object;
          count = count;
          none_out = let sums = sum_set (λ (v : SeatView C R). cond v.out 1 0) s.views id v w at in omega (arith, away.one_out);
        });
      }

  -- a put of the object with entries of the holder keeps the rule
  pub puts : (slots id : ℕ) (es : List (Entry C R)) (me : Me (Home S) (SeatView C R)) → MayPut step start es me
      → Allows Rule slots id me 0 (λ x. 0) (put_effect es (table_step slots 0 0 0 none) me)
  puts slots id es me may =
      subst (λ (m : Me (Home S) (SeatView C R)). Allows Rule slots id m 0 (λ x. 0) (put_effect es (table_step slots 0 0 0 none) m)) (sym may.has) (λ s r wide at fits64.
      let a = may.holder in
      let away : Away step start r.history s = is_away step start k r.history s (out_counts s.views id (view (a ∷ []) true) at refl) r.place in
      let held = away.holder id (view (a ∷ []) true) at refl in
      let seen : a.seen ≡ r.history = ap (λ (a : Account C R). a.seen) (head_same a held.0 held.1) ∙ held.2 in (
        view (account a.who (a.seen ++ es) (a.mine ++ es) ∷ []) false,
        gives,
        tt,
        putting s id a may.home es r at seen away (subst (λ h. IsLegal step (replay step start h) es) seen may.legal) may.whose
            (may.object ∙ ap (λ h. replay step start (h ++ es)) seen) (may.count ∙ ap (λ h. length (h ++ es)) seen),
        λ b is. ap (λ (b : Account C R). (view (account b.who (b.seen ++ es) (b.mine ++ es) ∷ []) false, [])) (head_same a b (ap (λ v. v.accounts) is)),
      ))
