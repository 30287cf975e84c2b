-- Taking an object and marking it as wanted keep the rule.
use Rattle.std.proofs.Common.{ℕ, ◌≡◌, ◌≢◌, ◌<◌, ◌≤◌, ◌⊎◌, inl, inr, Bool, cond, eqb, ltb, List, [], ◌∷◌, ◌++◌, length, set, All, slice_index, Option, Some, None, refl, ap, sym, ◌∙◌, subst, arith, length-set, ne_eqb}
use Rattle.std.specs.List.{sum_by}
use Rattle.std.proofs.lemmas.Bool.{cases_eq}
use Rattle.std.proofs.lemmas.List.{append-nil}
use Rattle.std.proofs.lemmas.List.Elements.{All-nil, All-cons}
use borrow.Author.Tests.{ltb-true}
use mathlib.Core.Option.{none, some}
use lib.ListN.{get_elem?}
use prog.Atomic.{either}
use Rattle.atomic_table.specs.Table.{State, Me, Act, keeps, takes, Allows, Valid, carried_after, stepped, step as table_step}
use Rattle.atomic_table.proofs.Lists.{at_set, set_again, set_here, set_else, exchanged}
use Rattle.vme_object.specs.declared.history.Entry.{Entry}
use Rattle.vme_object.specs.History.{replay, own}
use Rattle.vme_port_array.specs.declared.indexed.Indexed.{Indexed}
use Rattle.vme_port.specs.declared.rule.Account.{Account}
use Rattle.vme_port_array.specs.declared.rule.ArrayView.{ArrayView}
use Rattle.vme_port.specs.declared.home.Home.{Home}
use Rattle.vme_port_array.specs.Parts.{word_of, part, AreLegal}
use Rattle.vme_port.specs.Views.{account}
use Rattle.vme_port_array.specs.Views.{view, weight, names, holders, is_out}
use Rattle.vme_port.specs.Rule.{IsConsistent}
use Rattle.vme_port_array.specs.Rule.{AtHome, Away, Kept}
use Rattle.vme_port_array.specs.Steps.{HasTaken, take_effect, IsIdle}
use Rattle.vme_port.proofs.lemmas.Totals.{counts, counts_once, sum_at, sum_set, sum_over}
use Rattle.vme_port.proofs.lemmas.Accounts.{head_same, names_self, apart}
use Rattle.vme_port_array.proofs.lemmas.Parts.{out_here, out_else, word_same, word_else}
use Rattle.vme_port_array.proofs.lemmas.Lists.{found_within}

-- a seat that holds an object counts as a holder of that object
pub counts_here : (i : ℕ) → ◌≡◌ {A = ℕ} (cond (is_out i (Some i)) 1 0) 1
counts_here i = ap (λ (b : Bool). cond b 1 0) (out_here i)

-- a seat that holds an object does not count as a holder of another
pub counts_else : (i j : ℕ) → j ≢ i → ◌≡◌ {A = ℕ} (cond (is_out j (Some i)) 1 0) 0
counts_else i j other = ap (λ (b : Bool). cond b 1 0) (out_else i j other)

module _ {C R : Type 0} where
  -- a view stands for at least one pass if it holds the object at index i
  pub out_weighs : (i : ℕ) (v : ArrayView (Indexed C) R) (h : List (Entry C R))
      → ((v.out ≡ Some i) → (a : Account (Indexed C) R) × (v.accounts ≡ a ∷ []) × (part i a.seen ≡ h))
      → (o : Option ℕ) → v.out ≡ o → cond (is_out i v.out) 1 0 ≤ weight v
  out_weighs i v h one None is =
      let zero : ◌≡◌ {A = ℕ} (cond (is_out i v.out) 1 0) 0 = ap (λ o. cond (is_out i o) 1 0) is in
      omega arith
  out_weighs i v h one (Some p) is = elim (cases_eq p i) [
    | inl same ↦
        let accounts = (one (is ∙ ap Some same)).1 in
        omega (arith, ap length accounts, counts_once (is_out i v.out))
    | inr other ↦
        let zero : ◌≡◌ {A = ℕ} (cond (is_out i v.out) 1 0) 0 = ap (λ o. cond (is_out i o) 1 0) is ∙ ap (λ (b : Bool). cond b 1 0) (ne_eqb p i other) in
        omega arith
  ]

  -- if a view holds the object at index i, there is at least one holder
  pub out_counts : (i : ℕ) (views : List (ArrayView (Indexed C) R)) (j : ℕ) (u : ArrayView (Indexed C) R)
      → get_elem? views j ≡ some u → u.out ≡ Some i → 1 ≤ holders i views
  out_counts i views j u there out =
      let one : ◌≡◌ {A = ℕ} (cond (is_out i u.out) 1 0) 1 = ap (λ o. cond (is_out i o) 1 0) out ∙ counts_here i in
      omega (arith, sum_at (λ (v : ArrayView (Indexed C) R). cond (is_out i v.out) 1 0) views j u there)

  -- the account of a view with one account has a number below k
  pub who_below : (k : ℕ) (views : List (ArrayView C R)) (id : ℕ) (a : Account C R) (out : Option ℕ)
      → ((who : ℕ) → sum_by (names who) views ≡ cond (ltb who k) 1 0) → get_elem? views id ≡ some (view (a ∷ []) out) → a.who < k
  who_below k views id a out shared there =
      let self = names_self a in
      let least = sum_at (names a.who) views id (view (a ∷ []) out) there in
      let all = shared a.who in
      ltb-true a.who k (counts (ltb a.who k) (omega arith))

module _ {S C R : Type 0} (step : S → C → S × R) (starts : List S) where
  -- an object stays where it is if its word, its slot, its part of the history and its holder are unchanged
  pub left_alone : (h h' : List (Entry (Indexed C) R)) (s s' : State (Home S) (ArrayView (Indexed C) R)) (j : ℕ)
      → slice_index s'.words (word_of j) ≡ slice_index s.words (word_of j) → get_elem? s'.homes j ≡ get_elem? s.homes j
      → holders j s'.views ≡ holders j s.views → part j h' ≡ part j h
      → ((m : ℕ) (v : ArrayView (Indexed C) R) → get_elem? s'.views m ≡ some v → v.out ≡ Some j → (n : ℕ) × (get_elem? s.views n ≡ some v))
      → AtHome step starts j h s ⊎ Away step starts j h s → AtHome step starts j h' s' ⊎ Away step starts j h' s'
  left_alone h h' s s' j word slot held same holder (inl home) = inl (record {
    free = word ∙ home.free;
    home = home.home;
    here = slot ∙ home.here;
    object = λ start opens. home.object start opens ∙ ap (replay step start) (sym same);
    count = home.count ∙ ap length (sym same);
    none_out = held ∙ home.none_out;
  })
  left_alone h h' s s' j word slot held same holder (inr away) = inr (record {
    taken = λ e. away.taken (sym word ∙ e);
    gone = slot ∙ away.gone;
    one_out = held ∙ away.one_out;
    holder = λ m v there out.
        let was = holder m v there out in
        let outcome = away.holder was.0 v was.1 out in
        (outcome.0, outcome.1, outcome.2 ∙ sym same);
  })

  module _ (k : ℕ) where
    -- the rule of this array
    abbrev Rule : State (Home S) (ArrayView (Indexed C) R) → Type 0
    Rule = Kept step starts k

    -- a step that changes no view, and keeps a free word free and a taken word taken, keeps the rule
    pub resting : (s : State (Home S) (ArrayView (Indexed C) R)) (id i : ℕ) (v : ArrayView (Indexed C) R) (c : List (ℕ × Home S)) (new : ℕ) → Rule s → get_elem? s.views id ≡ some v
        → i < length starts → (slice_index s.words (word_of i) ≡ 0 → new ≡ 0) → (slice_index s.words (word_of i) ≢ 0 → new ≢ 0)
        → Rule (stepped s (word_of i) new id c v keeps)
    resting s id i v c new r there less free taken =
        let s' : State (Home S) (ArrayView (Indexed C) R) = record { words = set s.words (word_of i) new; homes = s.homes; views = s.views } in
        let reads = word_same s.words (length starts) i new r.word_count less in
        let here : AtHome step starts i r.history s ⊎ Away step starts i r.history s → AtHome step starts i r.history s' ⊎ Away step starts i r.history s' = elim [
          | inl home ↦ inl (record { free = reads ∙ free home.free; home = home.home; here = home.here; object = home.object; count = home.count; none_out = home.none_out })
          | inr away ↦ inr (record { taken = λ e. taken away.taken (sym reads ∙ e); gone = away.gone; one_out = away.one_out; holder = away.holder })
        ] in
        let kept : Rule s' = record {
          history = r.history;
          legal = r.legal;
          word_count = length-set s.words (word_of i) new ∙ r.word_count;
          each = r.each;
          shared = r.shared;
          weights = r.weights;
          known = r.known;
          within = r.within;
          places = λ j below. elim (cases_eq j i) [
            | inl same ↦ subst (λ j. AtHome step starts j r.history s' ⊎ Away step starts j r.history s') (sym same) (here (r.places i less))
            | inr other ↦ left_alone r.history r.history s s' j (word_else s.words i j new other) refl refl refl (λ m v at out. (m, at)) (r.places j below)
          ];
        } in
        subst (λ (views : List (ArrayView (Indexed C) R)). Rule (record { words = set s.words (word_of i) new; homes = s.homes; views = views })) (sym (set_again s.views id v there)) kept

    -- an exchange that finds the word free and takes the object keeps the rule
    taking : (s : State (Home S) (ArrayView (Indexed C) R)) (id i new : ℕ) (a : Account (Indexed C) R) (r : Rule s) → 0 < new
        → i < length starts → get_elem? s.views id ≡ some (view (a ∷ []) None)
        → (others : List (Entry (Indexed C) R)) → r.history ≡ a.seen ++ others → (fits : IsConsistent r.history a)
        → (home : AtHome step starts i r.history s)
        → Rule (stepped s (word_of i) new id [] (view (account a.who (a.seen ++ others) a.mine ∷ []) (Some i)) (takes i home.home))
    taking s id i new a r some_new less there others is fits home =
        let v : ArrayView (Indexed C) R = view (a ∷ []) None in
        let w : ArrayView (Indexed C) R = view (account a.who (a.seen ++ others) a.mine ∷ []) (Some i) in
        let s' : State (Home S) (ArrayView (Indexed C) R) = stepped s (word_of i) new id [] w (takes i home.home) in
        let reads = word_same s.words (length starts) i new r.word_count less in
        let seen : (a.seen ++ others) ≡ r.history = sym is in
        let fits' : IsConsistent r.history (account a.who (a.seen ++ others) a.mine) = record {
          begins = ([], sym seen ∙ sym (append-nil (a.seen ++ others)));
          sound = ap (own a.who) seen ∙ fits.complete;
          complete = fits.complete;
        } in
        let out : Away step starts i r.history s' = record {
          taken = λ e. omega (arith, sym reads ∙ e);
          gone = set_here s.homes i none (found_within s.homes i (some home.home) home.here);
          one_out = let sums = sum_set (λ (v : ArrayView (Indexed C) R). cond (is_out i v.out) 1 0) s.views id v w there in omega (arith, home.none_out, counts_here i);
          holder = λ m u at out. elim (at_set s.views id m w u at) [
            | inl here ↦ subst (λ (u : ArrayView (Indexed C) R). (a : Account (Indexed C) R) × (u.accounts ≡ a ∷ []) × (part i a.seen ≡ part i r.history)) here.1 (account a.who (a.seen ++ others) a.mine, refl, ap (part i) seen)
            | inr else ↦ absurd (let one = out_counts i s.views m u else.1 out in omega (arith, home.none_out))
          ];
        } in record {
          history = r.history;
          legal = r.legal;
          word_count = length-set s.words (word_of i) new ∙ r.word_count;
          each = λ m u at. elim (at_set s.views id m w u at) [
            | inl here ↦ subst (λ (u : ArrayView (Indexed C) R). All (IsConsistent r.history) u.accounts) here.1 (All-cons (IsConsistent r.history) (account a.who (a.seen ++ others) a.mine) [] fits' (All-nil (IsConsistent r.history)))
            | inr else ↦ r.each m u else.1
          ];
          shared = λ who. let sums = sum_set (names who) s.views id v w there in let was = r.shared who in omega arith;
          weights = let sums = sum_set weight s.views id v w there in omega (arith, r.weights);
          known = r.known;
          within = r.within;
          places = λ j below. elim (cases_eq j i) [
            | inl same ↦ inr (subst (λ j. Away step starts j r.history s') (sym same) out)
            | inr other ↦
                left_alone r.history r.history s s' j (word_else s.words i j new other) (set_else s.homes i j none other)
                (let sums = sum_set (λ (v : ArrayView (Indexed C) R). cond (is_out j v.out) 1 0) s.views id v w there in omega (arith, counts_else i j other))
                refl
                (λ m u at out. elim (at_set s.views id m w u at) [
                  | inl here ↦ absurd (let holds : Some i ≡ Some j = ap (λ (u : ArrayView (Indexed C) R). u.out) here.1 ∙ out in other (sym (cc holds)))
                  | inr else ↦ (m, else.1)
                ])
                (r.places j below)
          ];
        }

    -- if some view holds the object, the object is away
    pub is_away : (i : ℕ) (h : List (Entry (Indexed C) R)) (s : State (Home S) (ArrayView (Indexed C) R))
        → 1 ≤ holders i s.views → AtHome step starts i h s ⊎ Away step starts i h s → Away step starts i h s
    is_away i h s one (inl home) = absurd (omega (arith, home.none_out))
    is_away i h s one (inr away) = away

    -- if another view holds the object, the array has two passes or more
    others_hold : (s : State (Home S) (ArrayView (Indexed C) R)) (id i : ℕ) (a : Account (Indexed C) R) (r : Rule s)
        → Away step starts i r.history s → get_elem? s.views id ≡ some (view (a ∷ []) None) → 2 ≤ k
    others_hold s id i a r away there =
        let less = λ (j : ℕ) (v : ArrayView (Indexed C) R) (at : get_elem? s.views j ≡ some v). out_weighs i v (part i r.history) (λ out. away.holder j v at out) v.out refl in
        let over = sum_over (λ (v : ArrayView (Indexed C) R). cond (is_out i v.out) 1 0) weight s.views id (view (a ∷ []) None) less there in
        omega (arith, away.one_out, r.weights)

    -- an exchange from a free word, by a seat with one account, keeps the rule and wins or loses
    tries_alone : (opened : List S → ℕ → Type 0) → opened starts k → (slots id i new : ℕ) (a : Account (Indexed C) R) → 0 < new
        → i < length starts
        → Allows Rule slots id (view (a ∷ []) None, []) (word_of i) (λ x. either (eqb x 0) new x) (take_effect step opened (table_step slots (word_of i) 0 new none) (view (a ∷ []) None, []))
    tries_alone opened opens slots id i new a some_new less s r wide there fits64 =
        let me : Me (Home S) (ArrayView (Indexed C) R) = (view (a ∷ []) None, []) in
        let word : ℕ = slice_index s.words (word_of i) in
        let outcome = take_effect step opened (table_step slots (word_of i) 0 new none) me word in
        exchanged word 0 new
        (λ n. (w : ArrayView (Indexed C) R) × (act : Act (Home S)) × Valid s.homes [] act × Rule (stepped s (word_of i) n id [] w act) × outcome (w, carried_after [] act))
        (λ hit. elim (r.places i less) [
          | inl home ↦
              let fits : IsConsistent r.history a = r.each id (view (a ∷ []) None) there 0 a (omega arith) in
              let others = fits.begins.0 in
              let seen = sym fits.begins.1 in
              let after : Me (Home S) (ArrayView (Indexed C) R) = (view (account a.who (a.seen ++ others) a.mine ∷ []) (Some i), (i, home.home) ∷ []) in
              let taken : HasTaken step opened i a after = record {
                starts = starts;
                passes = k;
                opens = opens;
                home = home.home;
                others = others;
                after = refl;
                sound = fits.sound;
                apart = apart r.history a fits;
                legal = subst (AreLegal step starts) (sym seen) r.legal;
                object = λ start at. home.object start at ∙ ap (λ h. replay step start (part i h)) (sym seen);
                count = home.count ∙ ap (λ h. length (part i h)) (sym seen);
              } in (
                view (account a.who (a.seen ++ others) a.mine ∷ []) (Some i),
                takes i home.home,
                home.here,
                taking s id i new a r some_new less there others fits.begins.1 fits home,
                λ i' b at is. (
                  λ free.
                      let same : i ≡ i' = omega arith in
                      subst (λ (i' : ℕ). HasTaken step opened i' b after) same
                      (subst (λ (b : Account (Indexed C) R). HasTaken step opened i b after) (head_same a b (ap (λ m. m.0.accounts) is)) taken),
                  λ taken. absurd (taken hit),
                ),
              )
          | inr away ↦ absurd (away.taken hit)
        ])
        (λ miss. elim (r.places i less) [
          | inl home ↦ absurd (miss home.free)
          | inr away ↦ (
            view (a ∷ []) None,
            keeps,
            tt,
            resting s id i (view (a ∷ []) None) [] word r there less (λ free. free) (λ taken. taken),
            λ i' b at is. (
              λ free. absurd (miss free),
              λ taken. record { starts = starts; passes = k; opens = opens; same = refl; shared = others_hold s id i a r away there },
            ),
          )
        ])

    -- an exchange from a free word to a positive number, by an idle seat, keeps the rule and wins or loses
    pub tries : (opened : List S → ℕ → Type 0) → opened starts k
        → (slots id i new : ℕ) (me : Me (Home S) (ArrayView (Indexed C) R)) → 0 < new → i < length starts → IsIdle me
        → Allows Rule slots id me (word_of i) (λ x. either (eqb x 0) new x) (take_effect step opened (table_step slots (word_of i) 0 new none) me)
    tries opened opens slots id i new me some_new less idle =
        subst (λ (m : Me (Home S) (ArrayView (Indexed C) R)). Allows Rule slots id m (word_of i) (λ x. either (eqb x 0) new x) (take_effect step opened (table_step slots (word_of i) 0 new none) m)) (sym idle.1)
        (tries_alone opened opens slots id i new idle.0 some_new less)

    -- the exchange that marks a taken object as wanted keeps the rule and changes no view
    pub marks : (slots id i : ℕ) (me : Me (Home S) (ArrayView (Indexed C) R)) → i < length starts
        → Allows Rule slots id me (word_of i) (λ x. either (eqb x 1) 2 x) (λ n m'. m' ≡ me)
    marks slots id i me less s r wide there fits64 =
        let word : ℕ = slice_index s.words (word_of i) in
        exchanged word 1 2
        (λ n. (w : ArrayView (Indexed C) R) × (act : Act (Home S)) × Valid s.homes me.1 act × Rule (stepped s (word_of i) n id me.1 w act) × ◌≡◌ {A = Me (Home S) (ArrayView (Indexed C) R)} (w, carried_after me.1 act) me)
        (λ hit. (me.0, keeps, tt, resting s id i me.0 me.1 2 r there less (λ free. absurd (omega arith)) (λ taken e. omega arith), refl))
        (λ miss. (me.0, keeps, tt, resting s id i me.0 me.1 word r there less (λ free. free) (λ taken. taken), refl))
