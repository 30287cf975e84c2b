-- The refusal that the cause of a fault stands for.
use Rattle.std.specs.Prelude.{Result, Ok, Err}
use Rattle.vme_script.specs.declared.fault.ConfigFault.{ConfigFault}
use Rattle.vme_script.specs.declared.fault.ConfigFault.TheVariants as config
use Rattle.vme_script.specs.declared.cause.board.BoardCause.{BoardCause}
use Rattle.vme_script.specs.declared.cause.board.BoardCause.TheVariants as boards
use Rattle.vme_script.specs.declared.cause.schedule.ScheduleCause.{ScheduleCause}
use Rattle.vme_script.specs.declared.cause.schedule.ScheduleCause.TheVariants as schedules
use Rattle.vme_script.specs.declared.cause.mailbox.MailboxCause.{MailboxCause}

-- the refusal for a fault of a board
abbrev pub board_refusal : BoardCause → ConfigFault
board_refusal (boards.SlotRange slot) = config.BadSlot
board_refusal (boards.SlotTaken slot other) = config.BadSlot
board_refusal (boards.SlotOrder slot before other) = config.BadSlot
board_refusal (boards.LevelRange level) = config.BadLevel
board_refusal boards.NoSpace = config.BadWord
board_refusal (boards.NoWidth width) = config.BadWord
board_refusal (boards.UnalignedWidth width) = config.BadWord
board_refusal (boards.SizeRange size) = config.BadSize
board_refusal (boards.SizeNotAligned size) = config.BadSize
board_refusal (boards.BaseNotAligned base) = config.Misaligned
board_refusal (boards.OutsideSpace space last) = config.OutsideSpace
board_refusal (boards.Overlap board other_board other space low high other_low other_high) = config.Overlap

-- the refusal for a fault of the arbiter or of the turns
abbrev pub schedule_refusal : ScheduleCause → ConfigFault
schedule_refusal schedules.NoArbiter = config.BadWord
schedule_refusal (schedules.TriesRange tries) = config.BadSchedule
schedule_refusal (schedules.RoundsRange rounds) = config.BadSchedule
schedule_refusal (schedules.NoBoardInSlot slot more slots) = config.BadSchedule
schedule_refusal (schedules.TooManyTurns turns) = config.BadSchedule

-- the refusal for a fault of a mailbox
abbrev pub mailbox_refusal : MailboxCause → ConfigFault
mailbox_refusal cause = config.BadMailbox

-- a result of which a fault is given by the refusal that its cause stands for
abbrev pub refused_as : {A C : Type 0} → (C → ConfigFault) → Result A C → Result A ConfigFault
refused_as refusal (Ok x) = Ok x
refused_as refusal (Err cause) = Err (refusal cause)
