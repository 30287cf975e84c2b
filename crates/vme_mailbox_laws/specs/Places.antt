-- Defines where a declared mailbox lies in its board.
use Rattle.vme_shared.specs.MailboxSteps.{BoardMailbox}
use Rattle.vme_shared.specs.declared.mailbox.Mailbox.{Mailbox}
use Rattle.vme_script.specs.declared.board_range.BoardRange.{BoardRange}

-- a mailbox in the memory of its board, at the offset of the range of its bytes
abbrev pub on_board : Mailbox → BoardRange → BoardMailbox
on_board mailbox place = record { offset = place.offset; slots = mailbox.slots }
