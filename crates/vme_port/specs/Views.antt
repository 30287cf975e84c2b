-- Defines what the seats of a port know.
use Rattle.std.specs.Prelude.{ℕ, zero, suc, ◌+◌, ◌≡◌, ◌==◌, Bool, false, List, [], ◌∷◌, length}
use Rattle.std.specs.List.{count_by}
use Rattle.atomic_table.specs.Table.{Me}
use Rattle.vme_object.specs.declared.history.Entry.{Entry}
use Rattle.vme_port.specs.declared.rule.Account.{Account}
use Rattle.vme_port.specs.declared.rule.SeatView.{SeatView}
use Rattle.vme_port.specs.declared.home.Home.{Home}

module _ {C R : Type 0} where
  -- the account of caller `who`: the history that it has seen, and its own entries
  abbrev pub account : ℕ → List (Entry C R) → List (Entry C R) → Account C R
  account who seen mine = record { who = who; seen = seen; mine = mine }

  -- a view: the accounts that a seat represents, and whether the seat holds the object
  abbrev pub view : List (Account C R) → Bool → SeatView C R
  view accounts out = record { accounts = accounts; out = out }

  -- the number of passes that a view represents
  abbrev pub weight : SeatView C R → ℕ
  weight v = length v.accounts

  -- how many of these accounts are those of caller `who`
  abbrev pub names_among : ℕ → List (Account C R) → ℕ
  names_among who accounts = count_by (λ a. a.who == who) accounts

  -- how many accounts of a view are those of caller `who`
  abbrev pub names : ℕ → SeatView C R → ℕ
  names who v = names_among who v.accounts

  -- how many views hold the object
  abbrev pub holders : List (SeatView C R) → ℕ
  holders views = count_by (λ v. v.out) views

  -- n accounts, of the callers numbered from `first` on, which have seen nothing
  abbrev pub fresh_accounts : ℕ → ℕ → List (Account C R)
  fresh_accounts first zero = []
  fresh_accounts first (suc n) = account first [] [] ∷ fresh_accounts (suc first) n

  -- the view of the first seat of a port with k passes, which represents all of them
  abbrev pub opening_view : ℕ → SeatView C R
  opening_view k = view (fresh_accounts 0 k) false

  -- a seat represents the passes numbered from `who` up to k - 1, which have seen nothing
  abbrev pub Represents : {S : Type 0} → ℕ → ℕ → Me (Home S) (SeatView C R) → Type 0
  Represents k who m = (n : ℕ) × (who + n ≡ k) × (m ≡ (view (fresh_accounts who n) false, []))
