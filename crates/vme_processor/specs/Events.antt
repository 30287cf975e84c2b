-- Defines one event of a processor over the bus.
use Rattle.std.specs.Prelude.{ℕ, ◌≡◌, ◌+◌, ◌≤◌, [], ◌∷◌}
use Rattle.std.specs.Arc.{arc_value}
use Rattle.vme_object.specs.History.{entry}
use Rattle.vme_memory.specs.declared.command.BoardCmd.{BoardCmd}
use Rattle.vme_memory.specs.Locals.{command_given}
use Rattle.vme_core.specs.declared.event.EventReply.{EventReply}
use Rattle.vme_core.specs.Calls.{Call, OnBoard, OnBus}
use Rattle.vme_bus_objects.specs.declared.command.BusCommand.{BusCommand}
use Rattle.vme_bus_objects.specs.declared.command.BusCommand.TheVariants as commands
use Rattle.vme_bus_objects.specs.declared.object.BusObject.{BusObject}
use Rattle.vme_bus_objects.specs.Objects.{bus_object_step}
use Rattle.vme_port_array.specs.Arrays.{opening, passes_of, objects_of}
use Rattle.vme_port_array.specs.Calls.{Adds}
use Rattle.vme_port_array.specs.Parts.{indexed}
use Rattle.vme_machine.specs.declared.member.Member.{Member}

-- one event: a member adds one entry of a command to the object at an index, with the reply
abbrev pub AddsEntry : ℕ → BusCommand → EventReply → Member BusObject BusCommand EventReply
    → Member BusObject BusCommand EventReply → Type 0
AddsEntry index cmd reply m n =
    Adds bus_object_step (opening (arc_value m.array)) (entry m.pass.who (indexed index cmd) reply ∷ []) m.pass n.pass

-- one call: the entry is of a command for it to the board, or of the command to the arbiter, the last object
abbrev pub AddsCall : Call → EventReply → Member BusObject BusCommand EventReply
    → Member BusObject BusCommand EventReply → Type 0
AddsCall (OnBoard board command) reply m n =
    (cmd : BoardCmd) × (command_given cmd ≡ command) × AddsEntry board (commands.Board cmd) reply m n
AddsCall (OnBus cmd) reply m n =
    (boards : ℕ) × (objects_of (arc_value m.array) ≡ boards + 1) × AddsEntry boards (commands.Arbiter cmd) reply m n

-- no event, since another processor holds the object
pub record WasBusy (m n : Member BusObject BusCommand EventReply) : Type 0 where
  pub pass : n.pass ≡ m.pass
  pub shared : 2 ≤ passes_of (arc_value m.array)
