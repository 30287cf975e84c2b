-- The step of an object of the bus.
use Rattle.vme_memory.specs.declared.reply.Reply.TheVariants.{Berr}
use Rattle.vme_memory.specs.Locals.{board_step}
use Rattle.vme_arbiter.specs.Arbitration.{arbiter_step}
use Rattle.vme_core.specs.declared.event.EventReply.{EventReply}
use Rattle.vme_core.specs.declared.event.EventReply.TheVariants as replies
use Rattle.vme_bus_objects.specs.declared.object.BusObject.{BusObject}
use Rattle.vme_bus_objects.specs.declared.object.BusObject.TheVariants as objects
use Rattle.vme_bus_objects.specs.declared.command.BusCommand.{BusCommand}
use Rattle.vme_bus_objects.specs.declared.command.BusCommand.TheVariants as commands

-- the step of the board or of the arbiter for a command of its kind; no change and a bus error for another command
abbrev pub bus_object_step : BusObject → BusCommand → BusObject × EventReply
bus_object_step (objects.Board memory) (commands.Board cmd) =
    (objects.Board (board_step memory cmd).0, replies.Board (board_step memory cmd).1)
bus_object_step (objects.Board memory) (commands.Arbiter cmd) = (objects.Board memory, replies.Board Berr)
bus_object_step (objects.Arbiter bus) (commands.Board cmd) = (objects.Arbiter bus, replies.Board Berr)
bus_object_step (objects.Arbiter bus) (commands.Arbiter cmd) =
    (objects.Arbiter (arbiter_step bus cmd).0, replies.Bus (arbiter_step bus cmd).1)
