-- A put keeps the rule, whatever legal entries of its object the holder adds, and whatever entries of other objects were
-- added since the take.
use Rattle.std.proofs.Common.{ℕ, ◌≡◌, ◌≢◌, ◌<◌, inl, inr, cond, ltb, List, [], ◌∷◌, ◌++◌, length, All, Option, Some, None, refl, ap, sym, ◌∙◌, subst, arith, length-set}
use Rattle.std.proofs.lemmas.Bool.{cases_eq}
use Rattle.std.proofs.lemmas.List.{append-nil}
use Rattle.std.proofs.lemmas.List.Elements.{All-nil, All-cons, All-append, All-weaker}
use mathlib.Core.Option.{none, some, some-injective}
use lib.ListN.{get_elem?}
use Rattle.atomic_table.specs.Table.{State, Me, gives, Allows, stepped, step as table_step}
use Rattle.atomic_table.proofs.Lists.{at_set, set_here, set_else}
use Rattle.vme_object.specs.declared.history.Entry.{Entry}
use Rattle.vme_object.specs.History.{replay, IsLegal, own}
use Rattle.vme_object.proofs.lemmas.Histories.{own-append, legal-append}
use Rattle.vme_port_array.specs.declared.indexed.Indexed.{Indexed}
use Rattle.vme_port.specs.declared.rule.Account.{Account}
use Rattle.vme_port_array.specs.declared.rule.ArrayView.{ArrayView}
use Rattle.vme_port.specs.declared.home.Home.{Home}
use Rattle.vme_port_array.specs.Parts.{word_of, part, AreLegal}
use Rattle.vme_port.specs.Views.{account, names_among}
use Rattle.vme_port_array.specs.Views.{view, weight, names, is_out}
use Rattle.vme_port.specs.Rule.{IsConsistent}
use Rattle.vme_port_array.specs.Rule.{AtHome, Away, Kept}
use Rattle.vme_port_array.specs.Steps.{MayPut, IsPut, put_effect}
use Rattle.vme_port.proofs.lemmas.Totals.{counts_once, sum_set, sum_two}
use Rattle.vme_port.proofs.lemmas.Accounts.{append_same, head_same, own_all, fits_all, names_self, apart}
use Rattle.vme_port_array.proofs.lemmas.Parts.{part-append, part_else, word_same, word_else}
use Rattle.vme_port_array.proofs.lemmas.Lists.{found_within}
use Rattle.vme_port_array.proofs.Keeps.{out_counts, counts_here, counts_else, who_below, is_away, left_alone}

module _ {C R : Type 0} where
  -- after its entries are appended, the account of a holder that has seen the whole history agrees with the history
  holder_fits : (h es : List (Entry C R)) (a : Account C R) → All (λ e. e.who ≡ a.who) es → IsConsistent h a
      → IsConsistent (h ++ es) (account a.who (h ++ es) (a.mine ++ es))
  holder_fits h es a whose f =
      let mine : own a.who (h ++ es) ≡ a.mine ++ es =
      own-append a.who h es ∙ ap (λ l. l ++ own a.who es) f.complete ∙ ap (λ l. a.mine ++ l) (own_all a.who es whose) in
      record { begins = ([], sym (append-nil (h ++ es))); sound = mine; complete = mine }

module _ {S C R : Type 0} (step : S → C → S × R) (starts : List S) where
  -- a history stays legal for each object when legal entries of one object are appended
  legal_after : (i : ℕ) (start : S) (h es : List (Entry (Indexed C) R)) → get_elem? starts i ≡ some start
      → All (λ e. e.cmd.index ≡ i) es
      → IsLegal step (replay step start (part i h)) (part i es) → AreLegal step starts h → AreLegal step starts (h ++ es)
  legal_after i start h es opens indexes legal was j start' there = elim (cases_eq j i) [
    | inl same ↦
        let one : start ≡ start' = some-injective start start' (sym opens ∙ ap (get_elem? starts) (sym same) ∙ there) in
        let here : IsLegal step start (part i (h ++ es)) =
        subst (IsLegal step start) (sym (part-append i h es)) (legal-append step start (part i h) (part i es) (was i start opens) legal) in
        subst (λ s. IsLegal step s (part j (h ++ es))) one (subst (λ j. IsLegal step start (part j (h ++ es))) (sym same) here)
    | inr other ↦ subst (IsLegal step start') (sym (part_else i j h es indexes other)) (was j start' there)
  ]

  module _ (k : ℕ) where
    -- the rule of this array
    abbrev Rule : State (Home S) (ArrayView (Indexed C) R) → Type 0
    Rule = Kept step starts k

    -- the accounts of all other views are those of other callers
    others_named : (s : State (Home S) (ArrayView (Indexed C) R)) (id j : ℕ) (a : Account (Indexed C) R) (out : Option ℕ) (u : ArrayView (Indexed C) R) → Rule s → get_elem? s.views id ≡ some (view (a ∷ []) out)
        → get_elem? s.views j ≡ some u → j ≢ id → names_among a.who u.accounts ≡ 0
    others_named s id j a out u r at there other =
        let self = names_self a in
        let both = sum_two (names a.who) s.views id j (view (a ∷ []) out) u at there other in
        omega (arith, r.shared a.who, counts_once (ltb a.who k))

    -- the rule holds in the state after the holder of an object put it back with its entries
    putting : (s : State (Home S) (ArrayView (Indexed C) R)) (id i : ℕ) (a : Account (Indexed C) R) (home : Home S) (start : S) (es : List (Entry (Indexed C) R)) (r : Rule s) → i < length starts
        → get_elem? s.views id ≡ some (view (a ∷ []) (Some i)) → Away step starts i r.history s → get_elem? starts i ≡ some start
        → IsLegal step (replay step start (part i r.history)) (part i es) → All (λ e. e.who ≡ a.who) es
        → All (λ e. e.cmd.index ≡ i) es
        → home.object ≡ replay step start (part i (r.history ++ es)) → home.count ≡ length (part i (r.history ++ es))
        → Rule (stepped s (word_of i) 0 id ((i, home) ∷ []) (view (account a.who (r.history ++ es) (a.mine ++ es) ∷ []) None) gives)
    putting s id i a home start es r less at away opens legal whose indexes object count =
        let v : ArrayView (Indexed C) R = view (a ∷ []) (Some i) in
        let h : List (Entry (Indexed C) R) = r.history in
        let b : Account (Indexed C) R = account a.who (h ++ es) (a.mine ++ es) in
        let w : ArrayView (Indexed C) R = view (b ∷ []) None in
        let s' : State (Home S) (ArrayView (Indexed C) R) = stepped s (word_of i) 0 id ((i, home) ∷ []) w gives in
        let fits : IsConsistent h a = r.each id v at 0 a (omega arith) in
        let below : a.who < k = who_below k s.views id a (Some i) r.shared at in
        let back : AtHome step starts i (h ++ es) s' = record {
          free = word_same s.words (length starts) i 0 r.word_count less;
          home = home;
          here = set_here s.homes i (some home) (found_within s.homes i none away.gone);
          object = λ start' there. object ∙ ap (λ s. replay step s (part i (h ++ es))) (some-injective start start' (sym opens ∙ there));
          count = count;
          none_out = let sums = sum_set (λ (v : ArrayView (Indexed C) R). cond (is_out i v.out) 1 0) s.views id v w at in omega (arith, away.one_out, counts_here i);
        } in record {
          history = h ++ es;
          legal = legal_after i start h es opens indexes legal r.legal;
          word_count = length-set s.words (word_of i) 0 ∙ r.word_count;
          each = λ j u there. elim (at_set s.views id j w u there) [
            | inl here ↦ subst (λ (u : ArrayView (Indexed C) R). All (IsConsistent (h ++ es)) u.accounts) here.1 (All-cons (IsConsistent (h ++ es)) b [] (holder_fits h es a whose fits) (All-nil (IsConsistent (h ++ es))))
            | inr else ↦ fits_all a.who h es u.accounts whose (others_named s id j a (Some i) u r at else.1 else.0) (r.each j u else.1)
          ];
          shared = λ who. let sums = sum_set (names who) s.views id v w at in let was = r.shared who in omega arith;
          weights = let sums = sum_set weight s.views id v w at in omega (arith, r.weights);
          known = All-append (λ (e : Entry (Indexed C) R). e.who < k) h es r.known
              (All-weaker (λ (e : Entry (Indexed C) R). e.who ≡ a.who) (λ (e : Entry (Indexed C) R). e.who < k) (λ e same. omega arith) es whose);
          within = All-append (λ (e : Entry (Indexed C) R). e.cmd.index < length starts) h es r.within
              (All-weaker (λ (e : Entry (Indexed C) R). e.cmd.index ≡ i) (λ (e : Entry (Indexed C) R). e.cmd.index < length starts) (λ e same. omega arith) es indexes);
          places = λ j within. elim (cases_eq j i) [
            | inl same ↦ inl (subst (λ j. AtHome step starts j (h ++ es) s') (sym same) back)
            | inr other ↦
                left_alone step starts h (h ++ es) s s' j (word_else s.words i j 0 other) (set_else s.homes i j (some home) other)
                (let sums = sum_set (λ (v : ArrayView (Indexed C) R). cond (is_out j v.out) 1 0) s.views id v w at in omega (arith, counts_else i j other))
                (part_else i j h es indexes other)
                (λ m u there out. elim (at_set s.views id m w u there) [
                  | inl here ↦ absurd (let none : ◌≡◌ {A = Option ℕ} None (Some j) = ap (λ (u : ArrayView (Indexed C) R). u.out) here.1 ∙ out in cc none)
                  | inr else ↦ (m, else.1)
                ])
                (r.places j within)
          ];
        }

    -- a put of the object with entries of the holder keeps the rule
    pub puts : (opened : List S → ℕ → Type 0) → opened starts k
        → (slots id i : ℕ) (es : List (Entry (Indexed C) R)) (me : Me (Home S) (ArrayView (Indexed C) R)) → i < length starts
        → MayPut step starts i es me
        → Allows Rule slots id me (word_of i) (λ x. 0) (put_effect step opened es (table_step slots (word_of i) 0 0 none) me)
    puts opened opens slots id i es me less may =
        subst (λ (m : Me (Home S) (ArrayView (Indexed C) R)). Allows Rule slots id m (word_of i) (λ x. 0) (put_effect step opened es (table_step slots (word_of i) 0 0 none) m)) (sym may.has) (λ s r wide at fits64.
        let a : Account (Indexed C) R = may.holder in
        let v : ArrayView (Indexed C) R = view (a ∷ []) (Some i) in
        let h : List (Entry (Indexed C) R) = r.history in
        let away : Away step starts i h s = is_away step starts k i h s (out_counts i s.views id v at refl) (r.places i less) in
        let held = away.holder id v at refl in
        let mine : part i a.seen ≡ part i h = ap (λ (a : Account (Indexed C) R). part i a.seen) (head_same a held.0 held.1) ∙ held.2 in
        let fits : IsConsistent h a = r.each id v at 0 a (omega arith) in
        let others : List (Entry (Indexed C) R) = fits.begins.0 in
        let complete : h ≡ a.seen ++ others = fits.begins.1 in
        let elsewhere : part i others ≡ [] = append_same (part i a.seen) (part i others) (sym (part-append i a.seen others) ∙ ap (part i) (sym complete) ∙ sym mine) in
        let legal : IsLegal step (replay step may.start (part i h)) (part i es) = subst (λ l. IsLegal step (replay step may.start l) (part i es)) mine may.legal in
        let grown : part i a.seen ++ part i es ≡ part i (h ++ es) = ap (λ l. l ++ part i es) mine ∙ sym (part-append i h es) in
        let after : Me (Home S) (ArrayView (Indexed C) R) = (view (account a.who (h ++ es) (a.mine ++ es) ∷ []) None, []) in
        let outcome : IsPut step opened i es a after = record {
          starts = starts;
          passes = k;
          opens = opens;
          others = others;
          apart = apart h a fits;
          elsewhere = elsewhere;
          legal = subst (λ l. AreLegal step starts (l ++ es)) complete (legal_after i may.start h es may.opens may.indexes legal r.legal);
          after = ap (λ l. (view (account a.who (l ++ es) (a.mine ++ es) ∷ []) None, [])) complete;
        } in (
          view (account a.who (h ++ es) (a.mine ++ es) ∷ []) None,
          gives,
          tt,
          putting s id i a may.home may.start es r less at away may.opens legal may.whose may.indexes
              (may.object ∙ ap (replay step may.start) grown) (may.count ∙ ap length grown),
          λ i' word b is.
              let same : i ≡ i' = omega arith in
              subst (λ (i' : ℕ). IsPut step opened i' es b after) same
              (subst (λ (b : Account (Indexed C) R). IsPut step opened i es b after) (head_same a b (ap (λ v. v.accounts) is)) outcome),
        ))
