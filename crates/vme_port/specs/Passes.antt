-- Defines what contracts see of a pass.
use Rattle.std.specs.Prelude.{ℕ, ◌≡◌, false, List, [], ◌∷◌, length}
use Rattle.atomic_table.specs.Table.{Me}
use Rattle.atomic_table.specs.Seated.{TableId}
use Rattle.vme_object.specs.declared.history.Entry.{Entry}
use Rattle.vme_port.specs.declared.rule.Account.{Account}
use Rattle.vme_port.specs.declared.rule.SeatView.{SeatView}
use Rattle.vme_port.specs.declared.home.Home.{Home}
use Rattle.vme_port.specs.Views.{account, view}

-- a pass: the table of its port, its number, how many entries it made, the history that it has seen, and its own
-- entries there
pub record PassView (C R : Type 0) : Type 0 where
  pub port : TableId
  pub who : ℕ
  pub made : ℕ
  pub seen : List (Entry C R)
  pub mine : List (Entry C R)

-- the history that the first account has seen
abbrev pub seen_by : {C R : Type 0} → List (Account C R) → List (Entry C R)
seen_by [] = []
seen_by (a ∷ rest) = a.seen

-- the entries that the first account made
abbrev pub made_by : {C R : Type 0} → List (Account C R) → List (Entry C R)
made_by [] = []
made_by (a ∷ rest) = a.mine

-- between calls, a pass represents one account, has its number, counts its entries, and does not hold the object
pub record IsAtRest {S C R : Type 0} (me : Me (Home S) (SeatView C R)) (who made : ℕ) : Type 0 where
  pub only : Account C R
  pub alone : me ≡ (view (only ∷ []) false, [])
  pub named : only.who ≡ who
  pub counted : length only.mine ≡ made

module _ {C R : Type 0} where
  -- the pass of number `who_is` of a port, before its first call
  pub record IsUnused (port_is : TableId) (who_is : ℕ) (p : PassView C R) : Type 0 where
    pub port : p.port ≡ port_is
    pub who : p.who ≡ who_is
    pub made : p.made ≡ 0
    pub seen : p.seen ≡ []
    pub mine : p.mine ≡ []

  -- the account of a pass
  abbrev pub account_of : PassView C R → Account C R
  account_of p = account p.who p.seen p.mine

  -- the number `made` of a pass counts its entries
  abbrev pub IsCounted : PassView C R → Type 0
  IsCounted p = length p.mine ≡ p.made
