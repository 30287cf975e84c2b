-- An object keeps its kind, so the reply to a command of that kind is of that kind, whatever calls other passes made.
use Rattle.std.proofs.Common.{◌≡◌, ℕ, List, [], ◌∷◌, ◌++◌, refl, ap, ◌∙◌}
use mathlib.Core.Option.{some}
use lib.ListN.{get_elem?}
use Rattle.vme_object.specs.declared.history.Entry.{Entry}
use Rattle.vme_object.specs.History.{replay, entry}
use Rattle.vme_object.proofs.lemmas.Histories.{reply_at}
use Rattle.vme_memory.specs.declared.command.BoardCmd.{BoardCmd}
use Rattle.vme_memory.specs.Boards.{Board}
use Rattle.vme_memory.specs.Locals.{board_step}
use Rattle.vme_arbiter.specs.declared.command.ArbCmd.{ArbCmd}
use Rattle.vme_arbiter.specs.Arbitration.{Arbitration, arbiter_step}
use Rattle.vme_core.specs.declared.event.EventReply.{EventReply}
use Rattle.vme_port_array.specs.declared.indexed.Indexed.{Indexed}
use Rattle.vme_port_array.specs.Parts.{indexed, part}
use Rattle.vme_port.specs.Passes.{PassView}
use Rattle.vme_port_array.specs.Calls.{Adds}
use Rattle.vme_port_array.proofs.lemmas.Parts.{part-append, part_first}
use Rattle.vme_bus_objects.specs.declared.object.BusObject.{BusObject}
use Rattle.vme_bus_objects.specs.declared.object.BusObject.TheVariants as objects
use Rattle.vme_bus_objects.specs.declared.command.BusCommand.{BusCommand}
use Rattle.vme_bus_objects.specs.declared.command.BusCommand.TheVariants as commands
use Rattle.vme_bus_objects.specs.Objects.{bus_object_step}
use Rattle.vme_bus_objects.specs.Runs.{IsBoardReply, IsArbiterReply}

-- after one command, the arbiter is still an arbiter
arbiter_after_command : (cmd : BusCommand) (bus : Arbitration)
    → (b : Arbitration) × ((bus_object_step (objects.Arbiter bus) cmd).0 ≡ objects.Arbiter b)
arbiter_after_command (commands.Board cmd) bus = (bus, refl)
arbiter_after_command (commands.Arbiter cmd) bus = ((arbiter_step bus cmd).0, refl)

-- after one command, a board is still a board
board_after_command : (cmd : BusCommand) (memory : Board)
    → (m : Board) × ((bus_object_step (objects.Board memory) cmd).0 ≡ objects.Board m)
board_after_command (commands.Board cmd) memory = ((board_step memory cmd).0, refl)
board_after_command (commands.Arbiter cmd) memory = (memory, refl)

-- after any history, the arbiter is still an arbiter
arbiter_after_history : (bus : Arbitration) (h : List (Entry BusCommand EventReply))
    → (b : Arbitration) × (replay bus_object_step (objects.Arbiter bus) h ≡ objects.Arbiter b)
arbiter_after_history bus [] = (bus, refl)
arbiter_after_history bus (e ∷ h) =
    let one = arbiter_after_command e.cmd bus in
    let more = arbiter_after_history one.0 h in (more.0, ap (λ s. replay bus_object_step s h) one.1 ∙ more.1)

-- after any history, a board is still a board
board_after_history : (memory : Board) (h : List (Entry BusCommand EventReply))
    → (m : Board) × (replay bus_object_step (objects.Board memory) h ≡ objects.Board m)
board_after_history memory [] = (memory, refl)
board_after_history memory (e ∷ h) =
    let one = board_after_command e.cmd memory in
    let more = board_after_history one.0 h in (more.0, ap (λ s. replay bus_object_step s h) one.1 ∙ more.1)

module _ (starts : List BusObject) (who index : ℕ) (cmd : BusCommand) (reply : EventReply)
    (p q : PassView (Indexed BusCommand) EventReply)
    (added : Adds bus_object_step starts (entry who (indexed index cmd) reply ∷ []) p q) where
  -- the part of the called object before the call
  abbrev before : List (Entry BusCommand EventReply)
  before = part index (p.seen ++ added.others)

  -- the reply is that of the step at the replay of the object's part before the call
  reply_is : (start : BusObject) → get_elem? starts index ≡ some start
      → reply ≡ (bus_object_step (replay bus_object_step start before) cmd).1
  reply_is start there =
      let whole : part index q.seen ≡ before ++ entry who cmd reply ∷ [] =
      ap (part index) added.seen ∙ part-append index (p.seen ++ added.others) (entry who (indexed index cmd) reply ∷ [])
      ∙ ap (λ l. before ++ l) (part_first (entry who (indexed index cmd) reply) []) in
      reply_at bus_object_step start (part index q.seen) before [] (entry who cmd reply) (added.legal index start there) whole

-- the reply to a board's command is that of a board
pub board_replies :
    (starts : List BusObject) (who index : ℕ) (cmd : BoardCmd) (reply : EventReply)
    (p q : PassView (Indexed BusCommand) EventReply) (memory : Board)
    → get_elem? starts index ≡ some (objects.Board memory)
    → Adds bus_object_step starts (entry who (indexed index (commands.Board cmd)) reply ∷ []) p q → IsBoardReply reply
board_replies starts who index cmd reply p q memory there added =
    let kept = board_after_history memory (before starts who index (commands.Board cmd) reply p q added) in (
      (board_step kept.0 cmd).1,
      reply_is starts who index (commands.Board cmd) reply p q added (objects.Board memory) there
          ∙ ap (λ s. (bus_object_step s (commands.Board cmd)).1) kept.1,
    )

-- the reply to a command of the arbiter is that of the arbiter
pub arbiter_replies :
    (starts : List BusObject) (who index : ℕ) (cmd : ArbCmd) (reply : EventReply) (p q : PassView (Indexed BusCommand) EventReply)
    (bus : Arbitration)
    → get_elem? starts index ≡ some (objects.Arbiter bus)
    → Adds bus_object_step starts (entry who (indexed index (commands.Arbiter cmd)) reply ∷ []) p q → IsArbiterReply reply
arbiter_replies starts who index cmd reply p q bus there added =
    let kept = arbiter_after_history bus (before starts who index (commands.Arbiter cmd) reply p q added) in (
      (arbiter_step kept.0 cmd).1,
      reply_is starts who index (commands.Arbiter cmd) reply p q added (objects.Arbiter bus) there
          ∙ ap (λ s. (bus_object_step s (commands.Arbiter cmd)).1) kept.1,
    )
