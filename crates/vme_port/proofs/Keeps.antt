-- Each step of a call keeps the rule.
use Rattle.std.proofs.Common.{ℕ, ◌≡◌, ◌≢◌, ◌<◌, ◌≤◌, ◌⊎◌, inl, inr, Bool, true, false, cond, eqb, ltb, List, [], ◌∷◌, ◌++◌, length, set, All, slice_index, refl, ap, sym, ◌∙◌, subst, arith, length-set}
use Rattle.std.specs.List.{sum_by}
use Rattle.std.proofs.lemmas.List.{append-nil}
use Rattle.std.proofs.lemmas.List.Elements.{All-nil, All-cons}
use borrow.Author.Tests.{ltb-true}
use mathlib.Core.Option.{none, some}
use lib.ListN.{get_elem?}
use prog.Atomic.{either}
use Rattle.atomic_table.specs.Table.{State, Me, Act, keeps, takes, Allows, Valid, carried_after, stepped, step as table_step}
use Rattle.atomic_table.proofs.Lists.{at_set, set_again, exchanged}
use Rattle.vme_object.specs.declared.history.Entry.{Entry}
use Rattle.vme_object.specs.History.{replay, IsLegal, own}
use Rattle.vme_port.specs.declared.rule.Account.{Account}
use Rattle.vme_port.specs.declared.rule.SeatView.{SeatView}
use Rattle.vme_port.specs.declared.home.Home.{Home}
use Rattle.vme_port.specs.Views.{account, view, weight, names, holders}
use Rattle.vme_port.specs.Rule.{IsConsistent, AtHome, Away, Kept}
use Rattle.vme_port.specs.Steps.{HasTaken, take_effect, IsIdle}
use Rattle.vme_port.proofs.lemmas.Totals.{counts, sum_at, sum_set, sum_over}
use Rattle.vme_port.proofs.lemmas.Accounts.{head_same, names_self, apart}

-- a word that is written is read back
pub word_set : (words : List ℕ) (new : ℕ) → length words ≡ 1 → slice_index (set words 0 new) 0 ≡ new
word_set [] new one = absurd (omega arith)
word_set (w ∷ words) new one = refl

module _ {C R : Type 0} where
  -- a view that holds the object represents at least one pass
  pub out_weighs : (v : SeatView C R) (h : List (Entry C R)) → ((v.out ≡ true) → (a : Account C R) × (v.accounts ≡ a ∷ []) × (a.seen ≡ h))
      → (b : Bool) → v.out ≡ b → cond b 1 0 ≤ weight v
  out_weighs v h one true is = let accounts = (one is).1 in omega (arith, ap length accounts)
  out_weighs v h one false is = omega arith

  -- a view that holds the object is counted
  pub out_counts : (views : List (SeatView C R)) (j : ℕ) (u : SeatView C R) → get_elem? views j ≡ some u → u.out ≡ true → 1 ≤ holders views
  out_counts views j u at out =
      let one : ◌≡◌ {A = ℕ} (cond u.out 1 0) 1 = ap (λ (b : Bool). cond b 1 0) out in
      omega (arith, sum_at (λ (v : SeatView C R). cond v.out 1 0) views j u at)

  -- the account of a view with one account has a number below k
  pub who_below : (k : ℕ) (views : List (SeatView C R)) (id : ℕ) (a : Account C R) (out : Bool)
      → ((who : ℕ) → sum_by (names who) views ≡ cond (ltb who k) 1 0) → get_elem? views id ≡ some (view (a ∷ []) out) → a.who < k
  who_below k views id a out shared at =
      let self = names_self a in
      let least = sum_at (names a.who) views id (view (a ∷ []) out) at in
      let all = shared a.who in
      ltb-true a.who k (counts (ltb a.who k) (omega arith))

module _ {S C R : Type 0} (step : S → C → S × R) (start : S) (k : ℕ) where
  abbrev Rule : State (Home S) (SeatView C R) → Type 0
  Rule = Kept step start k

  -- a step that changes no view, and keeps a free word free and a taken word taken, keeps the rule
  resting : (s : State (Home S) (SeatView C R)) (id : ℕ) (v : SeatView C R) (c : List (ℕ × Home S)) (new : ℕ) → Rule s → get_elem? s.views id ≡ some v
      → (slice_index s.words 0 ≡ 0 → new ≡ 0) → (slice_index s.words 0 ≢ 0 → new ≢ 0) → Rule (stepped s 0 new id c v keeps)
  resting s id v c new r at free taken =
      let reads = word_set s.words new r.one_word in
      let kept : Rule (record { words = set s.words 0 new; homes = s.homes; views = s.views }) = record {
        history = r.history;
        legal = r.legal;
        one_word = length-set s.words 0 new ∙ r.one_word;
        each = r.each;
        shared = r.shared;
        weights = r.weights;
        known = r.known;
        place = elim r.place [
          | inl home ↦ inl (record { free = reads ∙ free home.free; home = home.home; here = home.here; object = home.object; count = home.count; none_out = home.none_out })
          | inr away ↦ inr (record { taken = λ e. taken away.taken (sym reads ∙ e); gone = away.gone; one_out = away.one_out; holder = away.holder })
        ];
      } in
      subst (λ (views : List (SeatView C R)). Rule (record { words = set s.words 0 new; homes = s.homes; views = views })) (sym (set_again s.views id v at)) kept

  -- an exchange that finds the word free and takes the object keeps the rule
  taking : (s : State (Home S) (SeatView C R)) (id new : ℕ) (a : Account C R) (r : Rule s) → 0 < new → get_elem? s.views id ≡ some (view (a ∷ []) false)
      → (others : List (Entry C R)) → r.history ≡ a.seen ++ others → (fits : IsConsistent r.history a) → (home : AtHome step start r.history s)
      → Rule (stepped s 0 new id [] (view (account a.who (a.seen ++ others) a.mine ∷ []) true) (takes 0 home.home))
  taking s id new a r some_new at others is fits home =
      let v : SeatView C R = view (a ∷ []) false in
      let w : SeatView C R = view (account a.who (a.seen ++ others) a.mine ∷ []) true in
      let reads = word_set s.words new r.one_word in
      let seen : (a.seen ++ others) ≡ r.history = sym is in
      let fits' : IsConsistent r.history (account a.who (a.seen ++ others) a.mine) = record {
        begins = ([], sym seen ∙ sym (append-nil (a.seen ++ others)));
        sound = ap (own a.who) seen ∙ fits.complete;
        complete = fits.complete;
      } in record {
        history = r.history;
        legal = r.legal;
        one_word = length-set s.words 0 new ∙ r.one_word;
        each = λ j u there. elim (at_set s.views id j w u there) [
          | inl here ↦ subst (λ (u : SeatView C R). All (IsConsistent r.history) u.accounts) here.1 (All-cons (IsConsistent r.history) (account a.who (a.seen ++ others) a.mine) [] fits' (All-nil (IsConsistent r.history)))
          | inr else ↦ r.each j u else.1
        ];
        shared = λ who. let sums = sum_set (names who) s.views id v w at in let was = r.shared who in omega arith;
        weights = let sums = sum_set weight s.views id v w at in omega (arith, r.weights);
        known = r.known;
        place = inr (record {
          taken = λ e. omega (arith, sym reads ∙ e);
          gone = ap (λ hs. set hs 0 none) home.here;
          one_out = let sums = sum_set (λ (v : SeatView C R). cond v.out 1 0) s.views id v w at in omega (arith, home.none_out);
          holder = λ j u there out. elim (at_set s.views id j w u there) [
            | inl here ↦ subst (λ (u : SeatView C R). (a : Account C R) × (u.accounts ≡ a ∷ []) × (a.seen ≡ r.history)) here.1 (account a.who (a.seen ++ others) a.mine, refl, seen)
            | inr else ↦ absurd (let one = out_counts s.views j u else.1 out in omega (arith, home.none_out))
          ];
        });
      }

  -- if some view holds the object, the object is away
  pub is_away : (h : List (Entry C R)) (s : State (Home S) (SeatView C R)) → 1 ≤ holders s.views → AtHome step start h s ⊎ Away step start h s → Away step start h s
  is_away h s one (inl home) = absurd (omega (arith, home.none_out))
  is_away h s one (inr away) = away

  -- if another view holds the object, the port has two passes or more
  others_hold : (s : State (Home S) (SeatView C R)) (id : ℕ) (a : Account C R) (r : Rule s) → Away step start r.history s → get_elem? s.views id ≡ some (view (a ∷ []) false) → 2 ≤ k
  others_hold s id a r away at =
      let less = λ (j : ℕ) (v : SeatView C R) (there : get_elem? s.views j ≡ some v). out_weighs v r.history (λ out. away.holder j v there out) v.out refl in
      let over = sum_over (λ (v : SeatView C R). cond v.out 1 0) weight s.views id (view (a ∷ []) false) less at in
      omega (arith, away.one_out, r.weights)

  -- an exchange from a free word, by a seat with one account, keeps the rule and wins or loses
  tries_alone : (opened : S → ℕ → Type 0) → opened start k → (slots id new : ℕ) (a : Account C R) → 0 < new
      → Allows Rule slots id (view (a ∷ []) false, []) 0 (λ x. either (eqb x 0) new x) (take_effect step opened (table_step slots 0 0 new none) (view (a ∷ []) false, []))
  tries_alone opened opens slots id new a some_new s r wide at fits64 =
      let me : Me (Home S) (SeatView C R) = (view (a ∷ []) false, []) in
      let outcome = take_effect step opened (table_step slots 0 0 new none) me (slice_index s.words 0) in
      exchanged (slice_index s.words 0) 0 new
      (λ n. (w : SeatView C R) × (act : Act (Home S)) × Valid s.homes [] act × Rule (stepped s 0 n id [] w act) × outcome (w, carried_after [] act))
      (λ hit. elim r.place [
        | inl home ↦
            let fits : IsConsistent r.history a = r.each id (view (a ∷ []) false) at 0 a (omega arith) in
            let others = fits.begins.0 in
            let seen = sym fits.begins.1 in
            let taken : HasTaken step opened a (view (account a.who (a.seen ++ others) a.mine ∷ []) true, (0, home.home) ∷ []) = record {
              start = start;
              passes = k;
              opens = opens;
              others = others;
              home = home.home;
              after = refl;
              sound = fits.sound;
              apart = apart r.history a fits;
              legal = subst (IsLegal step start) (sym seen) r.legal;
              object = home.object ∙ ap (replay step start) (sym seen);
              count = home.count ∙ ap length (sym seen);
            } in (
              view (account a.who (a.seen ++ others) a.mine ∷ []) true,
              takes 0 home.home,
              ap (λ hs. get_elem? hs 0) home.here,
              taking s id new a r some_new at others fits.begins.1 fits home,
              λ b is. (
                λ free. subst (λ (b : Account C R). HasTaken step opened b (view (account a.who (a.seen ++ others) a.mine ∷ []) true, (0, home.home) ∷ [])) (head_same a b (ap (λ m. m.0.accounts) is)) taken,
                λ taken. absurd (taken hit),
              ),
            )
        | inr away ↦ absurd (away.taken hit)
      ])
      (λ miss. elim r.place [
        | inl home ↦ absurd (miss home.free)
        | inr away ↦ (
          view (a ∷ []) false,
          keeps,
          tt,
          resting s id (view (a ∷ []) false) [] (slice_index s.words 0) r at (λ free. free) (λ taken. taken),
          λ b is. (
            λ free. absurd (miss free),
            λ taken. record { start = start; passes = k; opens = opens; same = refl; shared = others_hold s id a r away at },
          ),
        )
      ])

  -- an exchange from a free word to a positive number, by an idle seat, keeps the rule and wins or loses
  pub tries : (opened : S → ℕ → Type 0) → opened start k → (slots id new : ℕ) (me : Me (Home S) (SeatView C R)) → 0 < new → IsIdle me
      → Allows Rule slots id me 0 (λ x. either (eqb x 0) new x) (take_effect step opened (table_step slots 0 0 new none) me)
  tries opened opens slots id new me some_new idle =
      subst (λ (m : Me (Home S) (SeatView C R)). Allows Rule slots id m 0 (λ x. either (eqb x 0) new x) (take_effect step opened (table_step slots 0 0 new none) m)) (sym idle.1)
      (tries_alone opened opens slots id new idle.0 some_new)

  -- the exchange that marks a taken port as wanted keeps the rule and changes no view
  pub marks : (slots id : ℕ) (me : Me (Home S) (SeatView C R)) → Allows Rule slots id me 0 (λ x. either (eqb x 1) 2 x) (λ n m'. m' ≡ me)
  marks slots id me s r wide at fits64 =
      exchanged (slice_index s.words 0) 1 2
      (λ n. (w : SeatView C R) × (act : Act (Home S)) × Valid s.homes me.1 act × Rule (stepped s 0 n id me.1 w act) × ◌≡◌ {A = Me (Home S) (SeatView C R)} (w, carried_after me.1 act) me)
      (λ hit. (me.0, keeps, tt, resting s id me.0 me.1 2 r at (λ free. absurd (omega arith)) (λ taken e. omega arith), refl))
      (λ miss. (me.0, keeps, tt, resting s id me.0 me.1 (slice_index s.words 0) r at (λ free. free) (λ taken. taken), refl))
