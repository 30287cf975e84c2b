-- An array that is closed with a seat of all its passes has one history, with which all their accounts agree.
use Rattle.std.proofs.Common.{ℕ, ◌≡◌, ◌<◌, ◌≤◌, ◌⊎◌, inl, inr, Bool, None, cond, ltb, List, [], length, map, refl, ap, sym, ◌∙◌, arith}
use Rattle.std.proofs.lemmas.Bool.{lt-ltb}
use Rattle.std.proofs.lemmas.List.{length-map}
use Rattle.std.proofs.lemmas.List.Elements.{All-weaker}
use mathlib.Core.Option.{some, some-injective}
use lib.ListN.{get_elem?}
use Rattle.atomic_table.specs.Table.{State, Me, Final, Seen}
use Rattle.vme_object.specs.declared.history.Entry.{Entry}
use Rattle.vme_object.specs.History.{own, IsPrefix}
use Rattle.vme_port_array.specs.declared.indexed.Indexed.{Indexed}
use Rattle.vme_port.specs.declared.rule.Account.{Account}
use Rattle.vme_port_array.specs.declared.rule.ArrayView.{ArrayView}
use Rattle.vme_port.specs.declared.home.Home.{Home}
use Rattle.vme_port.specs.Views.{names_among}
use Rattle.vme_port_array.specs.Views.{view, weight, names, is_out}
use Rattle.vme_port_array.specs.Parts.{part}
use Rattle.vme_port.specs.Rule.{IsConsistent}
use Rattle.vme_port_array.specs.Rule.{AtHome, Away, Kept}
use Rattle.vme_port.specs.Passes.{PassView, account_of}
use Rattle.vme_port_array.specs.Settlements.{Closes, Settles}
use Rattle.vme_port.proofs.lemmas.Totals.{sum_at, sum_over}
use Rattle.vme_port.proofs.lemmas.Shares.{names_within, named_passes, fits_passes}
use Rattle.vme_port_array.proofs.Keeps.{out_weighs}
use Rattle.vme_port_array.proofs.lemmas.Lists.{found_within}

module _ {S C R : Type 0} (step : S → C → S × R) (starts : List S) (k : ℕ) where
  -- the rule of this array
  abbrev Rule : State (Home S) (ArrayView (Indexed C) R) → Type 0
  Rule = Kept step starts k

  -- if a seat stands for k passes and holds no object, each object is in its slot
  at_home : (s : State (Home S) (ArrayView (Indexed C) R)) (id i : ℕ) (accounts : List (Account (Indexed C) R)) (r : Rule s)
      → get_elem? s.views id ≡ some (view accounts None)
      → k ≤ length accounts → AtHome step starts i r.history s ⊎ Away step starts i r.history s → AtHome step starts i r.history s
  at_home s id i accounts r at enough (inl home) = home
  at_home s id i accounts r at enough (inr away) =
      let less = λ (j : ℕ) (v : ArrayView (Indexed C) R) (there : get_elem? s.views j ≡ some v). out_weighs i v (part i r.history) (λ out. away.holder j v there out) v.out refl in
      let over = sum_over (λ (v : ArrayView (Indexed C) R). cond (is_out i v.out) 1 0) weight s.views id (view accounts None) less at in
      absurd (omega (arith, away.one_out, r.weights))

  -- a seat that stands for k passes has one account for each number below k
  each_named : (s : State (Home S) (ArrayView (Indexed C) R)) (id : ℕ) (accounts : List (Account (Indexed C) R)) (r : Rule s)
      → get_elem? s.views id ≡ some (view accounts None)
      → k ≤ length accounts → (who : ℕ) → who < k → names_among who accounts ≡ 1
  each_named s id accounts r at enough who below =
      let less = λ (j : ℕ) (v : ArrayView (Indexed C) R) (there : get_elem? s.views j ≡ some v). names_within who v.accounts in
      let over = sum_over (names who) weight s.views id (view accounts None) less at in
      let most = sum_at (names who) s.views id (view accounts None) at in
      let one : ◌≡◌ {A = ℕ} (cond (ltb who k) 1 0) 1 = ap (λ (b : Bool). cond b 1 0) (lt-ltb who k below) in
      omega (arith, r.shared who, r.weights)

  -- if a seat stands for k passes and holds no object, its accounts and the objects in the slots close the array
  pub closes : (s : State (Home S) (ArrayView (Indexed C) R)) (id : ℕ) (accounts : List (Account (Indexed C) R)) (homes : List (Home S)) → Rule s → get_elem? s.views id ≡ some (view accounts None)
      → k ≤ length accounts → length homes ≡ length starts
      → ((i : ℕ) (home : Home S) → get_elem? s.homes i ≡ some (some home) → get_elem? homes i ≡ some home)
      → Closes step starts k accounts homes
  closes s id accounts homes r at enough count back = record {
    history = r.history;
    legal = r.legal;
    ends = record {
      count = count;
      each = λ i start home opens there.
          let h = at_home s id i accounts r at enough (r.places i (found_within starts i start opens)) in
          let same : h.home ≡ home = some-injective h.home home (sym (back i h.home h.here) ∙ there) in
          (ap (λ (h : Home S). h.object) (sym same) ∙ h.object start opens, ap (λ (h : Home S). h.count) (sym same) ∙ h.count);
    };
    all = let most = sum_at weight s.views id (view accounts None) at in omega (arith, r.weights);
    each_who = each_named s id accounts r at enough;
    known = r.known;
    within = r.within;
    fits = r.each id (view accounts None) at;
  }

  -- an array closes with the objects that its table returns
  pub last : (id : ℕ) (m : Me (Home S) (ArrayView (Indexed C) R)) (words : List ℕ) (slots homes : List (Home S))
      → Final (Seen Rule id m.0) words slots
      → ((i : ℕ) (home : Home S) → get_elem? slots i ≡ some home → get_elem? homes i ≡ some home) → length homes ≡ length starts
      → m ≡ (view m.0.accounts None, []) → k ≤ length m.0.accounts → Closes step starts k m.0.accounts homes
  last id m words slots homes final back count idle enough =
      let s : State (Home S) (ArrayView (Indexed C) R) = final.0 in
      let there : get_elem? s.views id ≡ some (view m.0.accounts None) = final.1.1 ∙ ap (λ m. some m.0) idle in
      closes s id m.0.accounts homes final.1.0 there enough count (λ i home at. back i home (final.4 i home at))

  -- passes settle if their accounts close
  pub settled : (passes : List (PassView (Indexed C) R)) (homes : List (Home S))
      → Closes step starts k (map account_of passes) homes → Settles step starts k passes homes
  settled passes homes outcome =
      let h : List (Entry (Indexed C) R) = outcome.history in
      let fits = fits_passes h passes outcome.fits in record {
        history = h;
        legal = outcome.legal;
        ends = outcome.ends;
        known = outcome.known;
        within = outcome.within;
        all = sym (length-map passes account_of) ∙ outcome.all;
        each_who = λ who below. named_passes who passes ∙ outcome.each_who who below;
        seen = All-weaker (λ (p : PassView (Indexed C) R). IsConsistent h (account_of p)) (λ (p : PassView (Indexed C) R). IsPrefix p.seen h) (λ p fit. fit.begins) passes fits;
        sound = All-weaker (λ (p : PassView (Indexed C) R). IsConsistent h (account_of p)) (λ (p : PassView (Indexed C) R). own p.who p.seen ≡ p.mine) (λ p fit. fit.sound) passes fits;
        mine = All-weaker (λ (p : PassView (Indexed C) R). IsConsistent h (account_of p)) (λ (p : PassView (Indexed C) R). own p.who h ≡ p.mine) (λ p fit. fit.complete) passes fits;
      }
