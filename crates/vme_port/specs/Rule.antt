-- Defines the rule of a port, which holds between any two steps.
use Rattle.std.specs.Prelude.{ℕ, ◌≡◌, ◌≢◌, ◌<◌, ◌⊎◌, true, cond, ltb, List, [], ◌∷◌, length, All, slice_index}
use Rattle.std.specs.List.{sum_by}
use mathlib.Core.Option.{none, some}
use lib.ListN.{get_elem?}
use Rattle.atomic_table.specs.Table.{State}
use Rattle.vme_object.specs.declared.history.Entry.{Entry}
use Rattle.vme_object.specs.History.{replay, IsLegal, own, IsPrefix}
use Rattle.vme_port.specs.declared.rule.Account.{Account}
use Rattle.vme_port.specs.declared.rule.SeatView.{SeatView}
use Rattle.vme_port.specs.declared.home.Home.{Home}
use Rattle.vme_port.specs.Views.{weight, names, holders}

-- an account has seen a prefix of a history, and made and seen all its own entries there
pub record IsConsistent {C R : Type 0} (h : List (Entry C R)) (a : Account C R) : Type 0 where
  pub begins : IsPrefix a.seen h
  pub sound : own a.who a.seen ≡ a.mine
  pub complete : own a.who h ≡ a.mine

module _ {S C R : Type 0} (step : S → C → S × R) (start : S) where
  -- the object is in its slot, is the replay of the history, and counts its entries
  pub record AtHome (h : List (Entry C R)) (s : State (Home S) (SeatView C R)) : Type 0 where
    pub free : slice_index s.words 0 ≡ 0
    pub home : Home S
    pub here : s.homes ≡ some home ∷ []
    pub object : home.object ≡ replay step start h
    pub count : home.count ≡ length h
    pub none_out : holders s.views ≡ 0

  -- exactly one view holds the object; it represents one pass, which has seen the whole history
  pub record Away (h : List (Entry C R)) (s : State (Home S) (SeatView C R)) : Type 0 where
    pub taken : slice_index s.words 0 ≢ 0
    pub gone : s.homes ≡ none ∷ []
    pub one_out : holders s.views ≡ 1
    pub holder : (j : ℕ) (v : SeatView C R) → get_elem? s.views j ≡ some v → v.out ≡ true
        → (a : Account C R) × (v.accounts ≡ a ∷ []) × (a.seen ≡ h)

  -- the rule: one legal history, of callers below k, agrees with all accounts; each number below k has one account, and
  -- no other number has one; the object is in its slot, or one view holds it
  pub record Kept (k : ℕ) (s : State (Home S) (SeatView C R)) : Type 0 where
    pub history : List (Entry C R)
    pub legal : IsLegal step start history
    pub one_word : length s.words ≡ 1
    pub each : (j : ℕ) (v : SeatView C R) → get_elem? s.views j ≡ some v → All (IsConsistent history) v.accounts
    pub shared : (who : ℕ) → sum_by (names who) s.views ≡ cond (ltb who k) 1 0
    pub weights : sum_by weight s.views ≡ k
    pub known : All (λ e. e.who < k) history
    pub place : AtHome history s ⊎ Away history s
