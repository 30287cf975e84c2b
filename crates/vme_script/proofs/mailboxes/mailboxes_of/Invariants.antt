use Rattle.std.proofs.Common.{◌≡◌, [], length, drop}
use Rattle.vme_script.specs.MailboxRefusals.{mailboxes_after}
use Rattle.vme_script.proofs.Lists.{with_answers}
use Rattle.vme_script.proofs.mailboxes.mailboxes_of.Given as goal

-- the mailboxes so far, followed by those of the remaining tables, are those of all tables
abbrev pub invariant-loop-table : goal.invariant-loop-table
invariant-loop-table l = record {
  mailboxes : with_answers l.mailboxes.items (mailboxes_after l.boards l.places.items (drop l.table-index l.tables)) ≡ mailboxes_after l.fn.boards [] l.fn.tables;
  count : length l.mailboxes.items ≡ l.table-index;
}
