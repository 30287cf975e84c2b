-- Opening an array, splitting a seat's first account off and joining two seats keep the rule.
use Rattle.std.proofs.Common.{ℕ, zero, suc, ◌≡◌, ◌+◌, ◌*◌, ◌<◌, ◌==◌, inl, inr, Option, None, Some, cond, ltb, List, [], ◌∷◌, ◌++◌, length, replicate, set, All, refl, ap, sym, ◌∙◌, subst, arith, length-append, append_assoc}
use Rattle.std.specs.List.{sum_by}
use Rattle.std.proofs.lemmas.List.Sums.{sum_by-append, sum_by_push}
use Rattle.std.proofs.lemmas.List.Elements.{All-nil, All-append, All-take, All-drop}
use Rattle.std.proofs.lemmas.List.{length-replicate, get_or-replicate, append-nil}
use mathlib.Core.Option.{some, some-injective, some-ne-none}
use lib.ListN.{get_elem?}
use Rattle.atomic_table.specs.Table.{State, Me, Splits, Joins, opening}
use Rattle.atomic_table.proofs.Lists.{at_set, at_snoc, set_else}
use Rattle.vme_object.specs.declared.history.Entry.{Entry}
use Rattle.vme_object.specs.Each.{AllAt}
use Rattle.vme_object.proofs.lemmas.Eachs.{AllAt-push}
use Rattle.vme_port_array.specs.declared.indexed.Indexed.{Indexed}
use Rattle.vme_port.specs.declared.rule.Account.{Account}
use Rattle.vme_port_array.specs.declared.rule.ArrayView.{ArrayView}
use Rattle.vme_port.specs.declared.home.Home.{Home}
use Rattle.vme_port.specs.Views.{account, fresh_accounts}
use Rattle.vme_port_array.specs.Views.{view, opening_view, Represents, weight, names, holders, is_out}
use Rattle.vme_port_array.specs.Parts.{word_of}
use Rattle.vme_port.specs.Rule.{IsConsistent}
use Rattle.vme_port_array.specs.Rule.{Kept}
use Rattle.vme_port_array.specs.Steps.{all_but_first, first_alone, joint_view, empty_view}
use Rattle.vme_port.proofs.lemmas.Totals.{sum_set}
use Rattle.vme_port.proofs.lemmas.Fresh.{fresh_length, fresh_shared, fresh_fits, cut_length, cut_named}
use Rattle.vme_port_array.proofs.lemmas.Lists.{there_is, get_at, at_home_first}
use Rattle.vme_port_array.proofs.Keeps.{left_alone}

module _ {S C R : Type 0} (step : S → C → S × R) (starts : List S) (k : ℕ) where
  -- the rule of this array
  abbrev Rule : State (Home S) (ArrayView (Indexed C) R) → Type 0
  Rule = Kept step starts k

  -- the rule holds for a new array
  pub opens : (homes : List (Home S)) → AllAt (λ i (o : S) (h : Home S). (h.object ≡ o) × (h.count ≡ 0)) starts homes
      → Rule (opening (replicate (length starts * 16) 0) homes (opening_view k))
  opens homes all =
      let s : State (Home S) (ArrayView (Indexed C) R) = opening (replicate (length starts * 16) 0) homes (opening_view k) in record {
        history = [];
        legal = λ i start there. tt;
        word_count = length-replicate (length starts * 16) 0;
        each = elim [
          | zero ↦ λ v at. subst (λ (v : ArrayView (Indexed C) R). All (IsConsistent []) v.accounts) (some-injective (opening_view k) v at) (fresh_fits (Indexed C) R 0 k)
          | suc j ↦ λ v at. absurd (some-ne-none v (sym at))
        ];
        shared = λ who. let shares = fresh_shared (Indexed C) R k who (ltb who k) refl in omega arith;
        weights = let long = fresh_length (Indexed C) R 0 k in omega arith;
        known = All-nil (λ (e : Entry (Indexed C) R). e.who < k);
        within = All-nil (λ (e : Entry (Indexed C) R). e.cmd.index < length starts);
        places = λ i below.
            let first = there_is starts i below in
            let home = there_is homes i (rw all.count below) in
            let same = all.each i first.0 home.0 below in
            inl (record {
              free = get_or-replicate (length starts * 16) (word_of i) 0 0 (omega arith);
              home = home.0;
              here = at_home_first homes i home.0 home.1;
              object = λ start there.
                  ap (λ (h : Home S). h.object) (sym (get_at homes i home.0 home.0 home.1)) ∙ same.0 ∙ get_at starts i start first.0 there;
              count = ap (λ (h : Home S). h.count) (sym (get_at homes i home.0 home.0 home.1)) ∙ same.1;
              none_out = refl;
            });
      }

  -- new views keep the rule if their accounts agree with the history, they have the same totals as the old ones, and each
  -- view that holds an object is an old one
  reviewed : (s : State (Home S) (ArrayView (Indexed C) R)) (views : List (ArrayView (Indexed C) R)) (r : Rule s)
      → ((j : ℕ) (v : ArrayView (Indexed C) R) → get_elem? views j ≡ some v → All (IsConsistent r.history) v.accounts)
      → ((who : ℕ) → sum_by (names who) views ≡ sum_by (names who) s.views) → sum_by weight views ≡ sum_by weight s.views
      → ((i : ℕ) → holders i views ≡ holders i s.views)
      → ((i j : ℕ) (v : ArrayView (Indexed C) R) → get_elem? views j ≡ some v → v.out ≡ Some i → (n : ℕ) × (get_elem? s.views n ≡ some v))
      → Rule (record { words = s.words; homes = s.homes; views = views })
  reviewed s views r each shared weights held holder = record {
    history = r.history;
    legal = r.legal;
    word_count = r.word_count;
    each = each;
    shared = λ who. shared who ∙ r.shared who;
    weights = weights ∙ r.weights;
    known = r.known;
    within = r.within;
    places = λ i below. left_alone step starts r.history r.history s (record { words = s.words; homes = s.homes; views = views }) i refl refl (held i) refl (holder i) (r.places i below);
  }

  -- the split of the first account keeps the rule
  pub deals : (id : ℕ) (v : ArrayView (Indexed C) R) → v.out ≡ None → Splits Rule id v (all_but_first v) (first_alone v)
  deals id v in' s r at =
      let left : ArrayView (Indexed C) R = all_but_first v in
      let right : ArrayView (Indexed C) R = first_alone v in
      let fits : All (IsConsistent r.history) v.accounts = r.each id v at in
      let nothing : (i : ℕ) → ◌≡◌ {A = ℕ} (cond (is_out i v.out) 1 0) 0 = λ i. ap (λ o. cond (is_out i o) 1 0) in' in
      reviewed s (set s.views id left ++ right ∷ []) r
      (λ j u there. elim (at_snoc (set s.views id left) right u j there) [
        | inl old ↦ elim (at_set s.views id j left u old) [
          | inl here ↦ subst (λ (u : ArrayView (Indexed C) R). All (IsConsistent r.history) u.accounts) here.1 (All-drop (IsConsistent r.history) 1 v.accounts fits)
          | inr else ↦ r.each j u else.1
        ]
        | inr new ↦ subst (λ (u : ArrayView (Indexed C) R). All (IsConsistent r.history) u.accounts) new (All-take (IsConsistent r.history) 1 v.accounts fits)
      ])
      (λ who. let sums = sum_set (names who) s.views id v left at in omega (arith, sum_by_push (names who) (set s.views id left) right, cut_named who v.accounts))
      (let sums = sum_set weight s.views id v left at in omega (arith, sum_by_push weight (set s.views id left) right, cut_length v.accounts))
      (λ i. let sums = sum_set (λ (v : ArrayView (Indexed C) R). cond (is_out i v.out) 1 0) s.views id v left at in omega (arith, nothing i, sum_by_push (λ (v : ArrayView (Indexed C) R). cond (is_out i v.out) 1 0) (set s.views id left) right))
      (λ i j u there out. elim (at_snoc (set s.views id left) right u j there) [
        | inl old ↦ elim (at_set s.views id j left u old) [
          | inl here ↦ absurd (let none : ◌≡◌ {A = Option ℕ} None (Some i) = ap (λ (u : ArrayView (Indexed C) R). u.out) here.1 ∙ out in cc none)
          | inr else ↦ (j, else.1)
        ]
        | inr new ↦ absurd (let none : ◌≡◌ {A = Option ℕ} None (Some i) = ap (λ (u : ArrayView (Indexed C) R). u.out) new ∙ out in cc none)
      ])

  -- the join of two seats keeps the rule
  pub gathers : (id other : ℕ) (v w : ArrayView (Indexed C) R) → v.out ≡ None → w.out ≡ None
      → Joins Rule id v other w (joint_view v w) empty_view
  gathers id other v w in' in'' s r at apart there =
      let both : ArrayView (Indexed C) R = joint_view v w in
      let spent : ArrayView (Indexed C) R = empty_view in
      let views : List (ArrayView (Indexed C) R) = set s.views id both in
      let was : get_elem? s.views other ≡ some w = sym (set_else s.views id other both apart) ∙ there in
      let fits : All (IsConsistent r.history) both.accounts = All-append (IsConsistent r.history) w.accounts v.accounts (r.each other w was) (r.each id v at) in
      let nothing : (i : ℕ) → ◌≡◌ {A = ℕ} (cond (is_out i v.out) 1 0) 0 = λ i. ap (λ o. cond (is_out i o) 1 0) in' in
      let nothing' : (i : ℕ) → ◌≡◌ {A = ℕ} (cond (is_out i w.out) 1 0) 0 = λ i. ap (λ o. cond (is_out i o) 1 0) in'' in
      reviewed s (set views other spent) r
      (λ j u at'. elim (at_set views other j spent u at') [
        | inl gone ↦ subst (λ (u : ArrayView (Indexed C) R). All (IsConsistent r.history) u.accounts) gone.1 (All-nil (IsConsistent r.history))
        | inr old ↦ elim (at_set s.views id j both u old.1) [
          | inl here ↦ subst (λ (u : ArrayView (Indexed C) R). All (IsConsistent r.history) u.accounts) here.1 fits
          | inr else ↦ r.each j u else.1
        ]
      ])
      (λ who.
      let first = sum_set (names who) s.views id v both at in
      let then = sum_set (names who) views other w spent there in
      omega (arith, sum_by-append (λ (a : Account (Indexed C) R). cond (a.who == who) 1 0) w.accounts v.accounts))
      (let first = sum_set weight s.views id v both at in
      let then = sum_set weight views other w spent there in
      omega (arith, length-append w.accounts v.accounts))
      (λ i.
      let first = sum_set (λ (v : ArrayView (Indexed C) R). cond (is_out i v.out) 1 0) s.views id v both at in
      let then = sum_set (λ (v : ArrayView (Indexed C) R). cond (is_out i v.out) 1 0) views other w spent there in
      omega (arith, nothing i, nothing' i))
      (λ i j u at' out. elim (at_set views other j spent u at') [
        | inl gone ↦ absurd (let none : ◌≡◌ {A = Option ℕ} None (Some i) = ap (λ (u : ArrayView (Indexed C) R). u.out) gone.1 ∙ out in cc none)
        | inr old ↦ elim (at_set s.views id j both u old.1) [
          | inl here ↦ absurd (let none : ◌≡◌ {A = Option ℕ} None (Some i) = ap (λ (u : ArrayView (Indexed C) R). u.out) here.1 ∙ out in cc none)
          | inr else ↦ (j, else.1)
        ]
      ])

module _ {S C R : Type 0} where
  -- a split of a seat that stands for passes: one seat keeps the later accounts, and one has the first account
  pub dealt : (k who : ℕ) (m : Me (Home S) (ArrayView C R)) → Represents k who m → who < k
      → (m.0.out ≡ None) × Represents k (who + 1) (all_but_first m.0, m.1) × (first_alone m.0 ≡ view (account who [] [] ∷ []) None)
  dealt k who m (zero, sum, is) below = absurd (omega arith)
  dealt k who m (suc n, sum, is) below =
      let next : fresh_accounts {C = C} {R = R} (suc who) n ≡ fresh_accounts (who + 1) n = ap (λ i. fresh_accounts i n) (omega arith) in (
        ap (λ m. m.0.out) is,
        (n, omega arith, ap (λ m. (all_but_first m.0, m.1)) is ∙ ap (λ l. (view l None, [])) next),
        ap (λ m. first_alone m.0) is,
      )

  -- a seat that stands for all passes stands for those from number 0 on
  pub represents_first : (k : ℕ) (m : Me (Home S) (ArrayView C R)) → m ≡ (opening_view k, []) → Represents k 0 m
  represents_first k m is = (k, omega arith, is)

-- the objects before those that are left have homes without entries, in order
pub record HaveHomes {S : Type 0} (all left : List S) (homes : List (Home S)) : Type 0 where
  pub done : List S
  pub split : all ≡ done ++ left
  pub unused : AllAt (λ i (o : S) (h : Home S). (h.object ≡ o) × (h.count ≡ 0)) done homes

-- no object has a home yet
pub homes_none : {S : Type 0} (all left : List S) (homes : List (Home S)) → left ≡ all → homes ≡ [] → HaveHomes all left homes
homes_none {S} all left homes same none = record {
  done = [];
  split = sym same;
  unused = subst (AllAt (λ i (o : S) (h : Home S). (h.object ≡ o) × (h.count ≡ 0)) []) (sym none) (record { count = refl; each = λ k a b less. absurd (omega arith) });
}

-- one more object has a home
pub homes_more : {S : Type 0} (all left rest : List S) (homes : List (Home S)) (o : S) (h : Home S) → HaveHomes all left homes
    → left ≡ o ∷ rest
    → h.object ≡ o → h.count ≡ 0 → HaveHomes all rest (homes ++ h ∷ [])
homes_more {S} all left rest homes o h was next object count = record {
  done = was.done ++ o ∷ [];
  split = was.split ∙ ap (λ l. was.done ++ l) next ∙ sym (append_assoc was.done (o ∷ []) rest);
  unused = AllAt-push (λ i (o : S) (h : Home S). (h.object ≡ o) × (h.count ≡ 0)) was.done homes o h was.unused (object, count);
}

-- all objects have homes
pub homes_all : {S : Type 0} (all left : List S) (homes : List (Home S)) → HaveHomes all left homes → left ≡ []
    → AllAt (λ i (o : S) (h : Home S). (h.object ≡ o) × (h.count ≡ 0)) all homes
homes_all {S} all left homes was none =
    let complete : was.done ≡ all = sym (was.split ∙ ap (λ l. was.done ++ l) none ∙ append-nil was.done) in
    subst (λ l. AllAt (λ i (o : S) (h : Home S). (h.object ≡ o) × (h.count ≡ 0)) l homes) complete was.unused
