-- The declarations of a file, as a script in it sees them.
use Rattle.std.specs.Prelude.{ℕ, List}
use Rattle.vme_decode.specs.declared.entry.Entry.{Entry}
use Rattle.vme_shared.specs.declared.mailbox.Mailbox.{Mailbox}

-- the ranges of the boards, the mailboxes on them, and the index of the board whose processor has the script
pub record Declaration : Type 0 where
  pub entries : List Entry
  pub mailboxes : List Mailbox
  pub board : ℕ
