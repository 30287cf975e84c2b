-- The call of an event, without the lines of a cycle, and its effect on the machine.
use Rattle.std.specs.Prelude.{ℕ, ◌+◌, Option, Some, None, slice_get, slice_set, slice_index_or}
use Rattle.vme_memory.specs.declared.reply.Reply.{Reply}
use Rattle.vme_memory.specs.declared.reply.Reply.TheVariants.{Berr}
use Rattle.vme_memory.specs.Boards.{Board}
use Rattle.vme_memory.specs.Steps.{Command, answer}
use Rattle.vme_memory.specs.Locals.{command_given}
use Rattle.vme_arbiter.specs.declared.command.ArbCmd.{ArbCmd}
use Rattle.vme_arbiter.specs.Arbitration.{arbiter_step}
use Rattle.vme_core.specs.declared.event.Event.{Event}
use Rattle.vme_core.specs.declared.event.Event.TheVariants as events
use Rattle.vme_core.specs.declared.event.EventReply.{EventReply}
use Rattle.vme_core.specs.declared.event.EventReply.TheVariants as replies
use Rattle.vme_core.specs.CountedStates.{CountedState}
use Rattle.vme_core.specs.Runs.{Machine}

-- a command to the memory of the board with an index, or none for a cycle without a command; or a command to the arbiter
pub data Call : Type 0 where
  OnBoard : ℕ → Option Command → Call
  OnBus : ArbCmd → Call

-- the call of an event
abbrev pub call_of : Event → Call
call_of (events.Board board cmd) = OnBoard board (command_given cmd)
call_of (events.Bus cmd) = OnBus cmd

-- the step of a board's memory on a command, if any; without one, the reply is a bus error
abbrev pub command_step : Board → Option Command → Board × Reply
command_step board command = ((answer board command).1, (answer board command).0)

-- an object takes a command of the processor who, counted once in all and once for who
abbrev pub counted_step : {S C R : Type 0} → (S → C → S × R) → CountedState S → ℕ → C → CountedState S × R
counted_step step t who cmd = (
  record {
    object = (step t.object cmd).0;
    steps = t.steps + 1;
    made = slice_set t.made who (slice_index_or t.made who 0 + 1);
  },
  (step t.object cmd).1,
)

-- the machine after a command to a board, and the reply; a board that does not exist replies with a bus error
abbrev pub board_after : Machine → ℕ → ℕ → Option Command → Option (CountedState Board) → Machine × EventReply
board_after machine who x command None = (machine, replies.Board Berr)
board_after machine who x command (Some board) = (
  record machine { boards = slice_set machine.boards x (counted_step command_step board who command).0 },
  replies.Board (counted_step command_step board who command).1,
)

-- the machine after a command to the arbiter, and the reply
abbrev pub bus_after : Machine → ℕ → ArbCmd → Machine × EventReply
bus_after machine who cmd = (
  record machine { bus = (counted_step arbiter_step machine.bus who cmd).0 },
  replies.Bus (counted_step arbiter_step machine.bus who cmd).1,
)

-- the machine after a call of the processor who, and the reply
abbrev pub machine_step : Machine → ℕ → Call → Machine × EventReply
machine_step machine who (OnBoard x command) = board_after machine who x command (slice_get machine.boards x)
machine_step machine who (OnBus cmd) = bus_after machine who cmd
