-- Defines the rule of an array, which holds between any two steps.
use Rattle.std.specs.Prelude.{ℕ, ◌*◌, ◌≡◌, ◌≢◌, ◌<◌, ◌⊎◌, cond, ltb, List, [], ◌∷◌, length, All, slice_index, Some}
use Rattle.std.specs.List.{sum_by}
use mathlib.Core.Option.{none, some}
use lib.ListN.{get_elem?}
use Rattle.atomic_table.specs.Table.{State}
use Rattle.vme_object.specs.declared.history.Entry.{Entry}
use Rattle.vme_object.specs.History.{replay}
use Rattle.vme_port.specs.declared.rule.Account.{Account}
use Rattle.vme_port.specs.declared.home.Home.{Home}
use Rattle.vme_port.specs.Rule.{IsConsistent}
use Rattle.vme_port_array.specs.declared.indexed.Indexed.{Indexed}
use Rattle.vme_port_array.specs.declared.rule.ArrayView.{ArrayView}
use Rattle.vme_port_array.specs.Parts.{word_of, part, AreLegal}
use Rattle.vme_port_array.specs.Views.{weight, names, holders}

module _ {S C R : Type 0} (step : S → C → S × R) (starts : List S) where
  -- the object at index i is in its slot, is the replay of its part of the history, and counts the entries of that part
  pub record AtHome (i : ℕ) (h : List (Entry (Indexed C) R)) (s : State (Home S) (ArrayView (Indexed C) R)) : Type 0 where
    pub free : slice_index s.words (word_of i) ≡ 0
    pub home : Home S
    pub here : get_elem? s.homes i ≡ some (some home)
    pub object : (start : S) → get_elem? starts i ≡ some start → home.object ≡ replay step start (part i h)
    pub count : home.count ≡ length (part i h)
    pub none_out : holders i s.views ≡ 0

  -- exactly one view holds the object at index i; it stands for one pass, which has seen the whole part of the object
  pub record Away (i : ℕ) (h : List (Entry (Indexed C) R)) (s : State (Home S) (ArrayView (Indexed C) R)) : Type 0 where
    pub taken : slice_index s.words (word_of i) ≢ 0
    pub gone : get_elem? s.homes i ≡ some none
    pub one_out : holders i s.views ≡ 1
    pub holder : (j : ℕ) (v : ArrayView (Indexed C) R) → get_elem? s.views j ≡ some v → v.out ≡ Some i
        → (a : Account (Indexed C) R) × (v.accounts ≡ a ∷ []) × (part i a.seen ≡ part i h)

  -- the rule: one history, of callers below k and of indexes of the array, has legal parts and fits all accounts.
  -- Exactly the numbers below k have an account, one each. Each object is in its slot, or one view holds it.
  pub record Kept (k : ℕ) (s : State (Home S) (ArrayView (Indexed C) R)) : Type 0 where
    pub history : List (Entry (Indexed C) R)
    pub legal : AreLegal step starts history
    pub word_count : length s.words ≡ length starts * 16
    pub each : (j : ℕ) (v : ArrayView (Indexed C) R) → get_elem? s.views j ≡ some v → All (IsConsistent history) v.accounts
    pub shared : (who : ℕ) → sum_by (names who) s.views ≡ cond (ltb who k) 1 0
    pub weights : sum_by weight s.views ≡ k
    pub known : All (λ e. e.who < k) history
    pub within : All (λ e. e.cmd.index < length starts) history
    pub places : (i : ℕ) → i < length starts → AtHome i history s ⊎ Away i history s
