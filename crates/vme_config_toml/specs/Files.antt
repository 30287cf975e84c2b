-- The values of a configuration file, as plain data.
use Rattle.std.specs.Prelude.{ℕ, Bool, List}
use Rattle.vme_config_toml.specs.declared.file.ClassTable.{ClassTable}
use Rattle.vme_config_toml.specs.declared.file.MailboxTable.{MailboxTable}

-- the values of a board's range
pub record RangeValues : Type 0 where
  pub space : List ℕ
  pub base : ℕ
  pub size : ℕ
  pub supervisory : Bool

-- the values of a table `board`
pub record BoardValues : Type 0 where
  pub slot : ℕ
  pub level : ℕ
  pub range : RangeValues
  pub class : ClassTable
  pub script : List ℕ

-- the values of a file
pub record FileValues : Type 0 where
  pub arbiter : List ℕ
  pub tries : ℕ
  pub schedule : List (ℕ × ℕ)
  pub rounds : ℕ
  pub boards : List BoardValues
  pub mailboxes : List MailboxTable
