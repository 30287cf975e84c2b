-- Defines what each kind of step does to the view of the seat that makes it.
use Rattle.std.specs.Prelude.{ℕ, ◌+◌, ◌-◌, ◌^◌, ◌≡◌, ◌≢◌, ◌<◌, ◌≤◌, Bool, true, false, MatchBool}
use Rattle.std.specs.Prelude.{List, [], ◌∷◌, ◌++◌, length, take, drop, All}
use Rattle.atomic_table.specs.Table.{Me, Step}
use Rattle.vme_object.specs.declared.history.Entry.{Entry}
use Rattle.vme_object.specs.History.{replay, IsLegal, own}
use Rattle.vme_port.specs.declared.rule.Account.{Account}
use Rattle.vme_port.specs.declared.rule.SeatView.{SeatView}
use Rattle.vme_port.specs.declared.home.Home.{Home}
use Rattle.vme_port.specs.Views.{account, view}

module _ {C R : Type 0} where
  -- split: the accounts that remain after the first is split off
  abbrev pub all_but_first : SeatView C R → SeatView C R
  all_but_first v = view (drop 1 v.accounts) false

  -- split: the account that is split off
  abbrev pub first_alone : SeatView C R → SeatView C R
  first_alone v = view (take 1 v.accounts) false

  -- join: the accounts of both views
  abbrev pub joint_view : SeatView C R → SeatView C R → SeatView C R
  joint_view v w = view (w.accounts ++ v.accounts) false

  -- join: the view of the seat that was joined, with no account
  abbrev pub empty_view : SeatView C R
  empty_view = view [] false

-- mark wanted: the seat's view is unchanged
abbrev pub mark_effect : {T C R : Type 0} → Step T → Me T (SeatView C R) → ℕ → Me T (SeatView C R) → Type 0
mark_effect st m n m' = m' ≡ m

module _ {S C R : Type 0} (step : S → C → S × R) (opened : S → ℕ → Type 0) where
  -- a take that won: the account has seen the whole history, whose new entries are those of others; its seat holds the
  -- object, which is the history's replay
  pub record HasTaken (a : Account C R) (m : Me (Home S) (SeatView C R)) : Type 0 where
    pub start : S
    pub passes : ℕ
    pub opens : opened start passes
    pub others : List (Entry C R)
    pub home : Home S
    pub after : m ≡ (view (account a.who (a.seen ++ others) a.mine ∷ []) true, (0, home) ∷ [])
    pub sound : own a.who a.seen ≡ a.mine
    pub apart : own a.who others ≡ []
    pub legal : IsLegal step start (a.seen ++ others)
    pub object : home.object ≡ replay step start (a.seen ++ others)
    pub count : home.count ≡ length (a.seen ++ others)

  -- a take that lost: nothing changed, and the port has two passes or more
  pub record HasLost (m m' : Me (Home S) (SeatView C R)) : Type 0 where
    pub start : S
    pub passes : ℕ
    pub opens : opened start passes
    pub same : m' ≡ m
    pub shared : 2 ≤ passes

  -- a take wins if the exchange found the word free, and loses otherwise
  abbrev pub take_effect : Step (Home S) → Me (Home S) (SeatView C R) → ℕ → Me (Home S) (SeatView C R) → Type 0
  take_effect st m n m' = (a : Account C R) → m ≡ (view (a ∷ []) false, []) → (n ≡ 0 → HasTaken a m') × (n ≢ 0 → HasLost m m')

  -- a take from a seat that represents one pass, by whether it won
  abbrev pub HasTried : Me (Home S) (SeatView C R) → Bool → Me (Home S) (SeatView C R) → Type 0
  HasTried m won m' = (a : Account C R) → m ≡ (view (a ∷ []) false, []) → MatchBool won (HasTaken a m') (HasLost m m')

-- the condition of a put: the seat holds the object, which is the replay of what the holder has seen followed by its
-- entries `es`
pub record MayPut {S C R : Type 0} (step : S → C → S × R) (start : S) (es : List (Entry C R)) (m : Me (Home S) (SeatView C R)) :
    Type 0 where
  pub holder : Account C R
  pub home : Home S
  pub has : m ≡ (view (holder ∷ []) true, (0, home) ∷ [])
  pub legal : IsLegal step (replay step start holder.seen) es
  pub whose : All (λ e. e.who ≡ holder.who) es
  pub object : home.object ≡ replay step start (holder.seen ++ es)
  pub count : home.count ≡ length (holder.seen ++ es)

module _ {S C R : Type 0} where
  -- a put: the account has seen and made the entries `es` too, and the seat no longer holds the object
  abbrev pub HasPut : List (Entry C R) → Me (Home S) (SeatView C R) → Me (Home S) (SeatView C R) → Type 0
  HasPut es m m' = (a : Account C R) → m.0 ≡ view (a ∷ []) true
      → m' ≡ (view (account a.who (a.seen ++ es) (a.mine ++ es) ∷ []) false, [])

  -- the effect of a put with the entries `es`
  abbrev pub put_effect : List (Entry C R) → Step (Home S) → Me (Home S) (SeatView C R) → ℕ → Me (Home S) (SeatView C R) → Type 0
  put_effect es st m n m' = HasPut es m m'

  -- between calls, a seat represents one pass and does not hold the object
  abbrev pub IsIdle : Me (Home S) (SeatView C R) → Type 0
  IsIdle m = (a : Account C R) × (m ≡ (view (a ∷ []) false, []))

module _ {S V : Type 0} (i : ℕ) where
  -- the seat holds the object of slot i, and no other
  abbrev pub IsOut : Me (Home S) V → Type 0
  IsOut m = (home : Home S) × (m.1 ≡ (i, home) ∷ [])

  -- the history of the object that the seat holds has 2^64 - 1 entries, and nothing changed
  pub record IsFull (m m' : Me (Home S) V) : Type 0 where
    pub home : Home S
    pub out : m.1 ≡ (i, home) ∷ []
    pub last : home.count ≡ 2 ^ 64 - 1
    pub same : m' ≡ m

  -- the object that the seat holds performed a command, gave this reply, and counts one more entry
  pub record HasPerformed {C R : Type 0} (step : S → C → S × R) (cmd : C) (reply : R) (m m' : Me (Home S) V) : Type 0 where
    pub home : Home S
    pub out : m.1 ≡ (i, home) ∷ []
    pub capacity : home.count < 2 ^ 64 - 1
    pub answer : reply ≡ (step home.object cmd).1
    pub next : Home S
    pub object : next.object ≡ (step home.object cmd).0
    pub count : next.count ≡ home.count + 1
    pub after : m' ≡ (m.0, (i, next) ∷ [])
