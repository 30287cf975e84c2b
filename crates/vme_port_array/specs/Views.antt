-- Defines what the seats of an array know.
use Rattle.std.specs.Prelude.{ℕ, ◌+◌, ◌≡◌, ◌==◌, Bool, false, List, [], length, Option, Some, None}
use Rattle.std.specs.List.{count_by}
use Rattle.atomic_table.specs.Table.{Me}
use Rattle.vme_port.specs.declared.rule.Account.{Account}
use Rattle.vme_port.specs.declared.home.Home.{Home}
use Rattle.vme_port.specs.Views.{names_among, fresh_accounts}
use Rattle.vme_port_array.specs.declared.rule.ArrayView.{ArrayView}

-- whether a seat that holds this object, if any, holds the one at index i
abbrev pub is_out : ℕ → Option ℕ → Bool
is_out i None = false
is_out i (Some index) = index == i

module _ {C R : Type 0} where
  -- a view: the accounts that a seat stands for, and the index of the object that the seat holds, if any
  abbrev pub view : List (Account C R) → Option ℕ → ArrayView C R
  view accounts out = record { accounts = accounts; out = out }

  -- the number of passes that a view stands for
  abbrev pub weight : ArrayView C R → ℕ
  weight v = length v.accounts

  -- how many accounts of a view are those of caller `who`
  abbrev pub names : ℕ → ArrayView C R → ℕ
  names who v = names_among who v.accounts

  -- how many views hold the object at index i
  abbrev pub holders : ℕ → List (ArrayView C R) → ℕ
  holders i views = count_by (λ v. is_out i v.out) views

  -- the view of the first seat of an array with k passes, which stands for all of them
  abbrev pub opening_view : ℕ → ArrayView C R
  opening_view k = view (fresh_accounts 0 k) None

  -- a seat stands for the passes numbered from `who` up to k - 1, which have seen nothing
  abbrev pub Represents : {S : Type 0} → ℕ → ℕ → Me (Home S) (ArrayView C R) → Type 0
  Represents k who m = (n : ℕ) × (who + n ≡ k) × (m ≡ (view (fresh_accounts who n) None, []))
