-- The numbers of a mailbox, and the boards that can contain one.
use Rattle.std.specs.Prelude.{ℕ, ◌≡◌, ◌≤◌, ◌%◌, nat_le, ◌==◌, ◌&&◌, Bool, true, [], ◌∷◌, Option, Some}
use Rattle.std.specs.List.{list_any}
use Rattle.vme_memory.specs.declared.class.Class.{Class}
use Rattle.vme_memory.specs.Classes.{answers_quads}
use Rattle.vme_config_toml.specs.declared.file.MailboxTable.{MailboxTable}
use Rattle.vme_config_toml.specs.Keys.{◌>>=◌, when}
use Rattle.vme_shared.specs.declared.mailbox.Mailbox.{Mailbox}

-- whether a code is one of data or short access (IEEE 1014-1987, 2.2.2 (address modifier lines))
abbrev pub is_mailbox_code : ℕ → Bool
is_mailbox_code am = list_any (λ code. code == am) (0x09 ∷ 0x0d ∷ 0x29 ∷ 0x2d ∷ 0x39 ∷ 0x3d ∷ [])

-- the mailbox that a table declares: its code is one of data or short access, its address a multiple of four, and it
-- has 1 to 64 slots
unfoldable pub mailbox_from_table : MailboxTable → Option Mailbox
mailbox_from_table table = do
  _ ← when (is_mailbox_code table.am)
  _ ← when (table.addr % 4 == 0)
  _ ← when (nat_le 1 table.slots && nat_le table.slots 64)
  Some (record { am = table.am; addr = table.addr; slots = table.slots })

-- a mailbox has lawful numbers
pub record HasNumbers (mailbox : Mailbox) : Type 0 where
  pub code : is_mailbox_code mailbox.am ≡ true
  pub aligned : mailbox.addr % 4 ≡ 0
  pub some_slot : 1 ≤ mailbox.slots
  pub few_slots : mailbox.slots ≤ 64

-- whether a board can contain mailboxes: it has quad bytes and read-modify-writes
abbrev pub supports_mailboxes : Class → Bool
supports_mailboxes class = answers_quads class.width && class.rmw
