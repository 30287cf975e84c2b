-- Defines a declared mailbox in a report.
use Rattle.std.specs.Prelude.{ℕ, ◌≡◌, ◌+◌, List, slice_get, Some}
use Rattle.vme_object.specs.declared.history.Entry.{Entry}
use Rattle.vme_memory.specs.declared.command.BoardCmd.{BoardCmd}
use Rattle.vme_memory.specs.declared.reply.Reply.{Reply}
use Rattle.vme_shared.specs.MailboxSteps.{BoardMailbox}
use Rattle.vme_shared.specs.declared.mailbox.Mailbox.{Mailbox}
use Rattle.vme_script.specs.declared.board_range.BoardRange.{BoardRange}
use Rattle.vme_script.specs.BoardRanges.{range_of}
use Rattle.vme_core.specs.Runs.{board_part}
use Rattle.vme_script.specs.Boards.{entries_of}
use Rattle.vme_script.specs.Configurations.{Configuration}
use Rattle.vme_mailbox_laws.specs.Places.{on_board}
use Rattle.vme_threads.specs.declared.report.Report.{Report}
use Rattle.vme_threads.specs.OneOrder.{IsReportOfOneOrder}

-- the mailbox with this number, from 1 on in the order of declaration, is declared and has these bytes on its board, and
-- `h` is the part of that board in the one order of the report
pub record IsDeclaredIn (config : Configuration) (report : Report) (is : IsReportOfOneOrder config report) (box : ℕ)
    (m : BoardMailbox) (h : List (Entry BoardCmd Reply)) : Type 0 where
  pub index : ℕ
  pub number : box ≡ index + 1
  pub mailbox : Mailbox
  pub declared : slice_get config.mailboxes index ≡ Some mailbox
  pub place : BoardRange
  pub placed : range_of (entries_of config.boards) mailbox ≡ Some place
  pub bytes : m ≡ on_board mailbox place
  pub history : h ≡ board_part place.board is.run
