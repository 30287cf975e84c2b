-- Defines what each kind of step does to the view of the seat that makes it.
use Rattle.std.specs.Prelude.{ℕ, ◌≡◌, ◌≢◌, ◌≤◌, Bool, MatchBool, Some, None, List, [], ◌∷◌, ◌++◌, length, take, drop, All}
use mathlib.Core.Option.{some}
use lib.ListN.{get_elem?}
use Rattle.atomic_table.specs.Table.{Me, Step}
use Rattle.vme_object.specs.declared.history.Entry.{Entry}
use Rattle.vme_object.specs.History.{replay, IsLegal, own}
use Rattle.vme_port.specs.declared.rule.Account.{Account}
use Rattle.vme_port.specs.declared.home.Home.{Home}
use Rattle.vme_port.specs.Views.{account}
use Rattle.vme_port_array.specs.declared.indexed.Indexed.{Indexed}
use Rattle.vme_port_array.specs.declared.rule.ArrayView.{ArrayView}
use Rattle.vme_port_array.specs.Parts.{word_of, part, AreLegal}
use Rattle.vme_port_array.specs.Views.{view}

module _ {C R : Type 0} where
  -- split: the accounts that remain after the first is split off
  abbrev pub all_but_first : ArrayView C R → ArrayView C R
  all_but_first v = view (drop 1 v.accounts) None

  -- split: the account that is split off
  abbrev pub first_alone : ArrayView C R → ArrayView C R
  first_alone v = view (take 1 v.accounts) None

  -- join: the accounts of both views
  abbrev pub joint_view : ArrayView C R → ArrayView C R → ArrayView C R
  joint_view v w = view (w.accounts ++ v.accounts) None

  -- join: the view of the seat that was joined, with no account
  abbrev pub empty_view : ArrayView C R
  empty_view = view [] None

-- mark wanted: the seat is unchanged, with its view and what it holds
abbrev pub mark_effect : {T C R : Type 0} → Step T → Me T (ArrayView C R) → ℕ → Me T (ArrayView C R) → Type 0
mark_effect st m n m' = m' ≡ m

module _ {S C R : Type 0} (step : S → C → S × R) (opened : List S → ℕ → Type 0) where
  -- a take that won: the account has seen the whole history, whose new entries are those of others; its seat holds the
  -- object at index i, which is the replay of its part
  pub record HasTaken (i : ℕ) (a : Account (Indexed C) R) (m : Me (Home S) (ArrayView (Indexed C) R)) : Type 0 where
    pub starts : List S
    pub passes : ℕ
    pub opens : opened starts passes
    pub others : List (Entry (Indexed C) R)
    pub home : Home S
    pub after : m ≡ (view (account a.who (a.seen ++ others) a.mine ∷ []) (Some i), (i, home) ∷ [])
    pub sound : own a.who a.seen ≡ a.mine
    pub apart : own a.who others ≡ []
    pub legal : AreLegal step starts (a.seen ++ others)
    pub object : (start : S) → get_elem? starts i ≡ some start → home.object ≡ replay step start (part i (a.seen ++ others))
    pub count : home.count ≡ length (part i (a.seen ++ others))

  -- a take that lost: nothing changed, and the array has two passes or more
  pub record HasLost (m m' : Me (Home S) (ArrayView (Indexed C) R)) : Type 0 where
    pub starts : List S
    pub passes : ℕ
    pub opens : opened starts passes
    pub same : m' ≡ m
    pub shared : 2 ≤ passes

  -- a take of the object whose word the step names wins if the exchange found the word free, and loses otherwise
  abbrev pub take_effect :
      Step (Home S) → Me (Home S) (ArrayView (Indexed C) R) → ℕ → Me (Home S) (ArrayView (Indexed C) R) → Type 0
  take_effect st m n m' = (i : ℕ) (a : Account (Indexed C) R) → st.word ≡ word_of i → m ≡ (view (a ∷ []) None, [])
      → (n ≡ 0 → HasTaken i a m') × (n ≢ 0 → HasLost m m')

  -- a take of the object at index i from a seat that stands for one pass, by whether it won
  abbrev pub HasTried : ℕ → Me (Home S) (ArrayView (Indexed C) R) → Bool → Me (Home S) (ArrayView (Indexed C) R) → Type 0
  HasTried i m won m' = (a : Account (Indexed C) R) → m ≡ (view (a ∷ []) None, [])
      → MatchBool won (HasTaken i a m') (HasLost m m')

  -- a put of the object at index i: others had added entries at other objects since the take, and then the entries `es`
  -- are appended; the whole is legal, and the seat no longer holds the object
  pub record IsPut (i : ℕ) (es : List (Entry (Indexed C) R)) (a : Account (Indexed C) R)
      (m' : Me (Home S) (ArrayView (Indexed C) R)) : Type 0 where
    pub starts : List S
    pub passes : ℕ
    pub opens : opened starts passes
    pub others : List (Entry (Indexed C) R)
    pub apart : own a.who others ≡ []
    pub elsewhere : part i others ≡ []
    pub legal : AreLegal step starts (a.seen ++ others ++ es)
    pub after : m' ≡ (view (account a.who (a.seen ++ others ++ es) (a.mine ++ es) ∷ []) None, [])

  -- a put of the object at index i from a seat that stands for one pass
  abbrev pub HasPut :
      ℕ → List (Entry (Indexed C) R) → Me (Home S) (ArrayView (Indexed C) R) → Me (Home S) (ArrayView (Indexed C) R) → Type 0
  HasPut i es m m' = (a : Account (Indexed C) R) → m.0 ≡ view (a ∷ []) (Some i) → IsPut i es a m'

  -- the effect of a put, with the entries `es`, of the object whose word the step names
  abbrev pub put_effect :
      List (Entry (Indexed C) R) → Step (Home S) → Me (Home S) (ArrayView (Indexed C) R) → ℕ
      → Me (Home S) (ArrayView (Indexed C) R) → Type 0
  put_effect es st m n m' = (i : ℕ) → st.word ≡ word_of i → HasPut i es m m'

-- the condition of a put: the seat holds the object at index i, which is the replay of what the holder has seen of its
-- part followed by the holder's entries `es`
pub record MayPut {S C R : Type 0} (step : S → C → S × R) (starts : List S) (i : ℕ) (es : List (Entry (Indexed C) R))
    (m : Me (Home S) (ArrayView (Indexed C) R)) : Type 0 where
  pub holder : Account (Indexed C) R
  pub home : Home S
  pub start : S
  pub opens : get_elem? starts i ≡ some start
  pub has : m ≡ (view (holder ∷ []) (Some i), (i, home) ∷ [])
  pub legal : IsLegal step (replay step start (part i holder.seen)) (part i es)
  pub whose : All (λ e. e.who ≡ holder.who) es
  pub indexes : All (λ e. e.cmd.index ≡ i) es
  pub object : home.object ≡ replay step start (part i holder.seen ++ part i es)
  pub count : home.count ≡ length (part i holder.seen ++ part i es)

-- between calls, a seat stands for one pass and holds no object
abbrev pub IsIdle : {S C R : Type 0} → Me (Home S) (ArrayView C R) → Type 0
IsIdle {S} {C} {R} m = (a : Account C R) × (m ≡ (view (a ∷ []) None, []))
