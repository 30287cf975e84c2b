-- A port that is closed with a seat of all its passes determines the whole history.
use Rattle.std.proofs.Common.{ℕ, ◌≡◌, ◌<◌, ◌≤◌, ◌⊎◌, inl, inr, Bool, false, cond, ltb, List, [], ◌∷◌, length, map, All, refl, ap, sym, ◌∙◌, subst, arith}
use Rattle.std.proofs.lemmas.Bool.{lt-ltb}
use Rattle.std.proofs.lemmas.List.{length-map}
use Rattle.std.proofs.lemmas.List.Elements.{All-weaker}
use mathlib.Core.Option.{some, some-injective}
use lib.ListN.{get_elem?}
use Rattle.atomic_table.specs.Table.{State, Me, Final, Seen}
use Rattle.vme_object.specs.declared.history.Entry.{Entry}
use Rattle.vme_object.specs.History.{own, IsPrefix}
use Rattle.vme_port.specs.declared.rule.Account.{Account}
use Rattle.vme_port.specs.declared.rule.SeatView.{SeatView}
use Rattle.vme_port.specs.declared.home.Home.{Home}
use Rattle.vme_port.specs.Views.{view, weight, names_among, names}
use Rattle.vme_port.specs.Rule.{IsConsistent, AtHome, Away, Kept}
use Rattle.vme_port.specs.Passes.{PassView, account_of, IsCounted}
use Rattle.vme_port.specs.Settlements.{Closes, Settles}
use Rattle.vme_port.proofs.lemmas.Totals.{sum_at, sum_over, sum_same}
use Rattle.vme_port.proofs.lemmas.Shares.{names_within, owned_once, mine_owned, named_passes, fits_passes}
use Rattle.vme_port.proofs.Keeps.{out_weighs}

module _ {S C R : Type 0} (step : S → C → S × R) (start : S) (k : ℕ) where
  abbrev Rule : State (Home S) (SeatView C R) → Type 0
  Rule = Kept step start k

  -- if a seat represents k passes and does not hold the object, the object is in its slot
  at_home : (s : State (Home S) (SeatView C R)) (id : ℕ) (accounts : List (Account C R)) (r : Rule s) → get_elem? s.views id ≡ some (view accounts false)
      → k ≤ length accounts → AtHome step start r.history s ⊎ Away step start r.history s → AtHome step start r.history s
  at_home s id accounts r at enough (inl home) = home
  at_home s id accounts r at enough (inr away) =
      let less = λ (j : ℕ) (v : SeatView C R) (there : get_elem? s.views j ≡ some v). out_weighs v r.history (λ out. away.holder j v there out) v.out refl in
      let over = sum_over (λ (v : SeatView C R). cond v.out 1 0) weight s.views id (view accounts false) less at in
      absurd (omega (arith, away.one_out, r.weights))

  -- a seat that represents k passes has one account for each number below k
  each_named : (s : State (Home S) (SeatView C R)) (id : ℕ) (accounts : List (Account C R)) (r : Rule s) → get_elem? s.views id ≡ some (view accounts false)
      → k ≤ length accounts → (who : ℕ) → who < k → names_among who accounts ≡ 1
  each_named s id accounts r at enough who below =
      let less = λ (j : ℕ) (v : SeatView C R) (there : get_elem? s.views j ≡ some v). names_within who v.accounts in
      let over = sum_over (names who) weight s.views id (view accounts false) less at in
      let most = sum_at (names who) s.views id (view accounts false) at in
      let one : ◌≡◌ {A = ℕ} (cond (ltb who k) 1 0) 1 = ap (λ (b : Bool). cond b 1 0) (lt-ltb who k below) in
      omega (arith, r.shared who, r.weights)

  -- the object is the replay of its history, and the accounts agree with that history
  pub closes : (s : State (Home S) (SeatView C R)) (id : ℕ) (accounts : List (Account C R)) → Rule s → get_elem? s.views id ≡ some (view accounts false)
      → k ≤ length accounts → (home : Home S) × (s.homes ≡ some home ∷ []) × Closes step start k accounts home.object home.count
  closes s id accounts r at enough =
      let home = at_home s id accounts r at enough r.place in (
        home.home,
        home.here,
        record {
          history = r.history;
          legal = r.legal;
          replayed = home.object;
          counted = home.count;
          all = let most = sum_at weight s.views id (view accounts false) at in omega (arith, r.weights);
          each_who = each_named s id accounts r at enough;
          known = r.known;
          fits = r.each id (view accounts false) at;
        },
      )

  -- the last state of the table determines the object that it returns
  pub last : (id : ℕ) (m : Me (Home S) (SeatView C R)) (words : List ℕ) (homes : List (Home S)) (home : Home S) → Final (Seen Rule id m.0) words homes
      → get_elem? homes 0 ≡ some home → m ≡ (view m.0.accounts false, []) → k ≤ length m.0.accounts → Closes step start k m.0.accounts home.object home.count
  last id m words homes home final at idle enough =
      let s : State (Home S) (SeatView C R) = final.0 in
      let there : get_elem? s.views id ≡ some (view m.0.accounts false) = final.1.1 ∙ ap (λ m. some m.0) idle in
      let outcome = closes s id m.0.accounts final.1.0 there enough in
      let same : outcome.0 ≡ home = some-injective outcome.0 home (sym (final.4 0 outcome.0 (ap (λ hs. get_elem? hs 0) outcome.1)) ∙ at) in
      subst (λ (home : Home S). Closes step start k m.0.accounts home.object home.count) same outcome.2

  -- passes settle if their accounts close
  pub settled : (passes : List (PassView C R)) (object : S) (n : ℕ) → Closes step start k (map account_of passes) object n → All IsCounted passes
      → Settles step start k passes object n
  settled passes object n outcome counted =
      let h : List (Entry C R) = outcome.history in
      let fits = fits_passes h passes outcome.fits in
      let mine : All (λ p. own p.who h ≡ p.mine) passes =
      All-weaker (λ (p : PassView C R). IsConsistent h (account_of p)) (λ (p : PassView C R). own p.who h ≡ p.mine) (λ p fit. fit.complete) passes fits in record {
        history = h;
        legal = outcome.legal;
        replayed = outcome.replayed;
        counted = outcome.counted;
        known = outcome.known;
        summed = omega (
          arith,
          outcome.counted,
          mine_owned h passes mine,
          owned_once k (map account_of passes) h outcome.each_who outcome.known,
          sum_same (λ (p : PassView C R). length p.mine) (λ (p : PassView C R). p.made) passes counted,
        );
        all = sym (length-map passes account_of) ∙ outcome.all;
        each_who = λ who below. named_passes who passes ∙ outcome.each_who who below;
        seen = All-weaker (λ (p : PassView C R). IsConsistent h (account_of p)) (λ (p : PassView C R). IsPrefix p.seen h) (λ p fit. fit.begins) passes fits;
        sound = All-weaker (λ (p : PassView C R). IsConsistent h (account_of p)) (λ (p : PassView C R). own p.who p.seen ≡ p.mine) (λ p fit. fit.sound) passes fits;
        mine = mine;
        made = counted;
      }
