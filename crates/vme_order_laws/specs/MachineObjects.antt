-- The machine as the objects of a port array: its boards in order, and the arbiter after them, each with its counts.
use Rattle.std.specs.Prelude.{List, [], ◌∷◌, ◌++◌, map}
use Rattle.vme_memory.specs.Boards.{Board}
use Rattle.vme_arbiter.specs.Arbitration.{Arbitration}
use Rattle.vme_core.specs.CountedStates.{CountedState}
use Rattle.vme_core.specs.Runs.{Machine}
use Rattle.vme_core.specs.Calls.{Call, call_of}
use Rattle.vme_port_array.specs.declared.indexed.Indexed.{Indexed}
use Rattle.vme_bus_objects.specs.declared.object.BusObject.{BusObject}
use Rattle.vme_bus_objects.specs.declared.object.BusObject.TheVariants as objects
use Rattle.vme_bus_objects.specs.declared.command.BusCommand.{BusCommand}
use Rattle.vme_bus_objects.specs.Runs.{event_at}

-- a board as an object, with its counts
abbrev pub board_object : CountedState Board → CountedState BusObject
board_object b = record { object = objects.Board b.object; steps = b.steps; made = b.made }

-- the arbiter as an object, with its counts
abbrev pub arbiter_object : CountedState Arbitration → CountedState BusObject
arbiter_object a = record { object = objects.Arbiter a.object; steps = a.steps; made = a.made }

-- the objects of a machine
abbrev pub machine_objects : Machine → List (CountedState BusObject)
machine_objects machine = map board_object machine.boards ++ arbiter_object machine.bus ∷ []

-- what a processor asked for by a command to an object: the call of the command's event
abbrev pub call_asked : Indexed BusCommand → Call
call_asked c = call_of (event_at c.index c.cmd)
