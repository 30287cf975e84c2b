-- Opening a port and splitting its accounts keep the rule.
use Rattle.std.proofs.Common.{ℕ, zero, suc, ◌≡◌, ◌+◌, ◌<◌, ◌==◌, inl, inr, Bool, true, false, cond, ltb, List, [], ◌∷◌, ◌++◌, set, All, refl, ap, sym, ◌∙◌, subst, arith, length-append}
use Rattle.std.specs.List.{sum_by}
use Rattle.std.proofs.lemmas.List.Sums.{sum_by-append, sum_by_push}
use Rattle.std.proofs.lemmas.List.Elements.{All-nil, All-append, All-take, All-drop}
use mathlib.Core.Option.{some, some-injective, some-ne-none}
use lib.ListN.{get_elem?}
use Rattle.atomic_table.specs.Table.{State, Me, Splits, Joins, opening}
use Rattle.atomic_table.proofs.Lists.{at_set, at_snoc, set_else}
use Rattle.vme_object.specs.declared.history.Entry.{Entry}
use Rattle.vme_port.specs.declared.rule.Account.{Account}
use Rattle.vme_port.specs.declared.rule.SeatView.{SeatView}
use Rattle.vme_port.specs.declared.home.Home.{Home}
use Rattle.vme_port.specs.Views.{account, view, fresh_accounts, opening_view, Represents, weight, names, holders}
use Rattle.vme_port.specs.Rule.{IsConsistent, Kept}
use Rattle.vme_port.specs.Steps.{all_but_first, first_alone, joint_view, empty_view}
use Rattle.vme_port.proofs.lemmas.Totals.{sum_set}
use Rattle.vme_port.proofs.lemmas.Fresh.{fresh_length, fresh_shared, fresh_fits, cut_length, cut_named}

module _ {S C R : Type 0} (step : S → C → S × R) (start : S) (k : ℕ) where
  abbrev Rule : State (Home S) (SeatView C R) → Type 0
  Rule = Kept step start k

  -- the rule holds for a new port
  pub opens : (home : Home S) → home.object ≡ start → home.count ≡ 0 → Rule (opening (0 ∷ []) (home ∷ []) (opening_view k))
  opens home object count = record {
    history = [];
    legal = tt;
    one_word = refl;
    each = elim [
      | zero ↦ λ v at. subst (λ (v : SeatView C R). All (IsConsistent []) v.accounts) (some-injective (opening_view k) v at) (fresh_fits C R 0 k)
      | suc j ↦ λ v at. absurd (some-ne-none v (sym at))
    ];
    shared = λ who. let shares = fresh_shared C R k who (ltb who k) refl in omega arith;
    weights = let long = fresh_length C R 0 k in omega arith;
    known = All-nil (λ (e : Entry C R). e.who < k);
    place = inl (record { free = refl; home = home; here = refl; object = object; count = count; none_out = refl });
  }

  -- views that agree with the history, and have the same totals as the old ones, keep the rule
  reviewed : (s : State (Home S) (SeatView C R)) (views : List (SeatView C R)) (r : Rule s)
      → ((j : ℕ) (v : SeatView C R) → get_elem? views j ≡ some v → All (IsConsistent r.history) v.accounts)
      → ((who : ℕ) → sum_by (names who) views ≡ sum_by (names who) s.views) → sum_by weight views ≡ sum_by weight s.views → holders views ≡ holders s.views
      → ((j : ℕ) (v : SeatView C R) → get_elem? views j ≡ some v → v.out ≡ true → (i : ℕ) × (get_elem? s.views i ≡ some v))
      → Rule (record { words = s.words; homes = s.homes; views = views })
  reviewed s views r each shared weights held holder = record {
    history = r.history;
    legal = r.legal;
    one_word = r.one_word;
    each = each;
    shared = λ who. shared who ∙ r.shared who;
    weights = weights ∙ r.weights;
    known = r.known;
    place = elim r.place [
      | inl home ↦ inl (record { free = home.free; home = home.home; here = home.here; object = home.object; count = home.count; none_out = held ∙ home.none_out })
      | inr away ↦ inr (record { taken = away.taken; gone = away.gone; one_out = held ∙ away.one_out; holder = λ j v at out. let was = holder j v at out in away.holder was.0 v was.1 out })
    ];
  }

  -- the split of the first account keeps the rule
  pub deals : (id : ℕ) (v : SeatView C R) → v.out ≡ false → Splits Rule id v (all_but_first v) (first_alone v)
  deals id v in' s r at =
      let left : SeatView C R = all_but_first v in
      let right : SeatView C R = first_alone v in
      let fits : All (IsConsistent r.history) v.accounts = r.each id v at in
      let none : ◌≡◌ {A = ℕ} (cond v.out 1 0) 0 = ap (λ (b : Bool). cond b 1 0) in' in
      reviewed s (set s.views id left ++ right ∷ []) r
      (λ j u there. elim (at_snoc (set s.views id left) right u j there) [
        | inl old ↦ elim (at_set s.views id j left u old) [
          | inl here ↦ subst (λ (u : SeatView C R). All (IsConsistent r.history) u.accounts) here.1 (All-drop (IsConsistent r.history) 1 v.accounts fits)
          | inr else ↦ r.each j u else.1
        ]
        | inr new ↦ subst (λ (u : SeatView C R). All (IsConsistent r.history) u.accounts) new (All-take (IsConsistent r.history) 1 v.accounts fits)
      ])
      (λ who. let sums = sum_set (names who) s.views id v left at in omega (arith, sum_by_push (names who) (set s.views id left) right, cut_named who v.accounts))
      (let sums = sum_set weight s.views id v left at in omega (arith, sum_by_push weight (set s.views id left) right, cut_length v.accounts))
      (let sums = sum_set (λ (v : SeatView C R). cond v.out 1 0) s.views id v left at in omega (arith, sum_by_push (λ (v : SeatView C R). cond v.out 1 0) (set s.views id left) right))
      (λ j u there out. elim (at_snoc (set s.views id left) right u j there) [
        | inl old ↦ elim (at_set s.views id j left u old) [
          | inl here ↦ absurd (cc (ap (λ (u : SeatView C R). u.out) here.1, out))
          | inr else ↦ (j, else.1)
        ]
        | inr new ↦ absurd cc
      ])

  -- the join of two seats keeps the rule
  pub gathers : (id other : ℕ) (v w : SeatView C R) → v.out ≡ false → w.out ≡ false → Joins Rule id v other w (joint_view v w) empty_view
  gathers id other v w in' in'' s r at apart there =
      let both : SeatView C R = joint_view v w in
      let spent : SeatView C R = empty_view in
      let views : List (SeatView C R) = set s.views id both in
      let was : get_elem? s.views other ≡ some w = sym (set_else s.views id other both apart) ∙ there in
      let fits : All (IsConsistent r.history) both.accounts = All-append (IsConsistent r.history) w.accounts v.accounts (r.each other w was) (r.each id v at) in
      let none : ◌≡◌ {A = ℕ} (cond v.out 1 0) 0 = ap (λ (b : Bool). cond b 1 0) in' in
      let none' : ◌≡◌ {A = ℕ} (cond w.out 1 0) 0 = ap (λ (b : Bool). cond b 1 0) in'' in
      reviewed s (set views other spent) r
      (λ j u at'. elim (at_set views other j spent u at') [
        | inl gone ↦ subst (λ (u : SeatView C R). All (IsConsistent r.history) u.accounts) gone.1 (All-nil (IsConsistent r.history))
        | inr old ↦ elim (at_set s.views id j both u old.1) [
          | inl here ↦ subst (λ (u : SeatView C R). All (IsConsistent r.history) u.accounts) here.1 fits
          | inr else ↦ r.each j u else.1
        ]
      ])
      (λ who.
      let first = sum_set (names who) s.views id v both at in
      let then = sum_set (names who) views other w spent there in
      omega (arith, sum_by-append (λ (a : Account C R). cond (a.who == who) 1 0) w.accounts v.accounts))
      (let first = sum_set weight s.views id v both at in
      let then = sum_set weight views other w spent there in
      omega (arith, length-append w.accounts v.accounts))
      (let first = sum_set (λ (v : SeatView C R). cond v.out 1 0) s.views id v both at in
      let then = sum_set (λ (v : SeatView C R). cond v.out 1 0) views other w spent there in
      omega arith)
      (λ j u at' out. elim (at_set views other j spent u at') [
        | inl gone ↦ absurd (cc (ap (λ (u : SeatView C R). u.out) gone.1, out))
        | inr old ↦ elim (at_set s.views id j both u old.1) [
          | inl here ↦ absurd (cc (ap (λ (u : SeatView C R). u.out) here.1, out))
          | inr else ↦ (j, else.1)
        ]
      ])

module _ {S C R : Type 0} where
  -- a split of a seat that represents passes: one seat keeps the later accounts, and one has the first account
  pub dealt : (k who : ℕ) (m : Me (Home S) (SeatView C R)) → Represents k who m → who < k
      → (m.0.out ≡ false) × Represents k (who + 1) (all_but_first m.0, m.1) × (first_alone m.0 ≡ view (account who [] [] ∷ []) false)
  dealt k who m (zero, sum, is) below = absurd (omega arith)
  dealt k who m (suc n, sum, is) below =
      let next : fresh_accounts {C = C} {R = R} (suc who) n ≡ fresh_accounts (who + 1) n = ap (λ i. fresh_accounts i n) (omega arith) in (
        ap (λ m. m.0.out) is,
        (n, omega arith, ap (λ m. (all_but_first m.0, m.1)) is ∙ ap (λ l. (view l false, [])) next),
        ap (λ m. first_alone m.0) is,
      )

  -- a seat that represents all passes represents those from number 0 on
  pub represents_first : (k : ℕ) (m : Me (Home S) (SeatView C R)) → m ≡ (opening_view k, []) → Represents k 0 m
  represents_first k m is = (k, omega arith, is)
