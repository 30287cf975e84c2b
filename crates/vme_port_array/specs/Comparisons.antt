-- Defines what two passes of one array have in common, and the step that finds it.
use Rattle.std.specs.Prelude.{ℕ, ◌≡◌, List, All}
use Rattle.atomic_table.specs.Table.{Me, Step}
use Rattle.vme_object.specs.declared.history.Entry.{Entry}
use Rattle.vme_port.specs.Rule.{IsConsistent}
use Rattle.vme_port.specs.Passes.{PassView, account_of}
use Rattle.vme_port_array.specs.declared.rule.ArrayView.{ArrayView}

-- two passes share a history: each has seen a prefix of it, and made and seen all its own entries there
pub record ShareHistory {C R : Type 0} (p q : PassView C R) : Type 0 where
  pub history : List (Entry C R)
  pub first : IsConsistent history (account_of p)
  pub second : IsConsistent history (account_of q)

-- a look: the seat is unchanged, and its accounts agree with one history
pub record HasLooked {T C R : Type 0} (m m' : Me T (ArrayView C R)) : Type 0 where
  pub same : m' ≡ m
  pub history : List (Entry C R)
  pub fits : All (IsConsistent history) m.0.accounts

-- the effect of a look
abbrev pub look_effect : {T C R : Type 0} → Step T → Me T (ArrayView C R) → ℕ → Me T (ArrayView C R) → Type 0
look_effect st m n m' = HasLooked m m'
