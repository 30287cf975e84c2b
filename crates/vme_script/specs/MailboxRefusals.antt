-- The mailboxes of a configuration: those that a file declares, or their refusal.
use Rattle.std.specs.Prelude.{nat_lt, not, List, [], ◌∷◌, ◌++◌, length, slice_get, Result, Ok}
use Rattle.std.specs.List.{list_any}
use Rattle.std.specs.Option.{ok_or}
use Rattle.vme_config_toml.specs.declared.file.MailboxTable.{MailboxTable}
use Rattle.vme_shared.specs.declared.mailbox.Mailbox.{Mailbox}
use Rattle.vme_script.specs.declared.board_range.BoardRange.{BoardRange}
use Rattle.vme_script.specs.MailboxTables.{mailbox_from_table, supports_mailboxes}
use Rattle.vme_script.specs.BoardRanges.{range_of, is_within, share}
use Rattle.vme_script.specs.declared.board.BoardConfig.{BoardConfig}
use Rattle.vme_script.specs.declared.fault.ConfigFault.{ConfigFault}
use Rattle.vme_script.specs.declared.fault.ConfigFault.TheVariants.{BadMailbox}
use Rattle.vme_script.specs.Answers.{◌>>=◌, refuse}
use Rattle.vme_script.specs.Boards.{entries_of}

-- the mailbox that a table declares, and its bytes; it is refused for its numbers, for bytes that are not within one
-- board that supports mailboxes, and for a byte of an earlier mailbox
unfoldable pub declared_mailbox : List BoardConfig → List BoardRange → MailboxTable → Result (Mailbox × BoardRange) ConfigFault
declared_mailbox boards earlier table = do
  mailbox ← ok_or (mailbox_from_table table) BadMailbox
  place ← ok_or (range_of (entries_of boards) mailbox) BadMailbox
  board ← ok_or (slice_get boards place.board) BadMailbox
  _ ← refuse (not (is_within place board.entry.size)) BadMailbox
  _ ← refuse (not (supports_mailboxes board.class)) BadMailbox
  _ ← refuse (list_any (share place) earlier) BadMailbox
  Ok (mailbox, place)

-- the mailboxes that tables declare, each checked against those before it
abbrev pub mailboxes_after : List BoardConfig → List BoardRange → List MailboxTable → Result (List Mailbox) ConfigFault
mailboxes_after boards earlier [] = Ok []
mailboxes_after boards earlier (table ∷ more) = do
  first ← declared_mailbox boards earlier table
  others ← mailboxes_after boards (earlier ++ first.1 ∷ []) more
  Ok (first.0 ∷ others)

-- the mailboxes of a file, at most sixteen
unfoldable pub mailboxes_of : List BoardConfig → List MailboxTable → Result (List Mailbox) ConfigFault
mailboxes_of boards tables = do
  _ ← refuse (nat_lt 16 (length tables)) BadMailbox
  mailboxes_after boards [] tables
