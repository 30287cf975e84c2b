-- Defines the state of a pass between calls. Contracts see a pass of an array as a `PassView` of `vme_port`, whose entries
-- have commands with an index.
use Rattle.std.specs.Prelude.{ℕ, ◌≡◌, [], ◌∷◌, None}
use Rattle.atomic_table.specs.Table.{Me}
use Rattle.vme_port.specs.declared.rule.Account.{Account}
use Rattle.vme_port.specs.declared.home.Home.{Home}
use Rattle.vme_port_array.specs.declared.rule.ArrayView.{ArrayView}
use Rattle.vme_port_array.specs.Views.{view}

-- between calls, a pass stands for one account, has its number, and holds no object
pub record IsAtRest {S C R : Type 0} (me : Me (Home S) (ArrayView C R)) (who : ℕ) : Type 0 where
  pub only : Account C R
  pub alone : me ≡ (view (only ∷ []) None, [])
  pub named : only.who ≡ who
