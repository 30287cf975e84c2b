-- The commands of both ports of a board, as callers give them.
use Rattle.std.specs.Prelude.{Bool, true, false, Option, Some, None}
use Rattle.vme_memory.specs.declared.reply.Reply.{Reply}
use Rattle.vme_memory.specs.declared.command.BoardCmd.{BoardCmd}
use Rattle.vme_memory.specs.declared.command.BoardCmd.TheVariants as given
use Rattle.vme_memory.specs.Boards.{Board}
use Rattle.vme_memory.specs.Steps.{Command, LocalRead, LocalWrite, LocalModify, command_of, answer}

-- the command of the step for a caller's command; none for a cycle whose signals have no command
abbrev pub command_given : BoardCmd → Option Command
command_given (given.LocalRead offset n) = Some (LocalRead offset n)
command_given (given.LocalWrite offset bytes) = Some (LocalWrite offset bytes.items)
command_given (given.LocalModify offset n f) = Some (LocalModify offset n f)
command_given (given.Cycle signals at f) = command_of signals at f

-- the reply and the new memory of a board for a caller's command
unfoldable pub answer_given : Board → BoardCmd → Reply × Board
answer_given board command = answer board (command_given command)

-- the step of a board as an object: the new memory and the reply for a caller's command
abbrev pub board_step : Board → BoardCmd → Board × Reply
board_step board command = ((answer_given board command).1, (answer_given board command).0)

-- whether a command is a read by either port, without a function
abbrev pub only_reads : BoardCmd → Bool
only_reads (given.LocalRead offset n) = true
only_reads (given.LocalWrite offset bytes) = false
only_reads (given.LocalModify offset n f) = false
only_reads (given.Cycle signals at None) = signals.write
only_reads (given.Cycle signals at (Some f)) = false
