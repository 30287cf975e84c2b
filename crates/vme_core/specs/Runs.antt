-- A run of events over boards and the arbiter of their bus, and each object's part of it.
use Rattle.std.specs.Prelude.{ℕ, ◌==◌, if◌then◌else◌, Option, Some, None, List, map, filter_map, All}
use Rattle.vme_object.specs.declared.history.Entry.{Entry}
use Rattle.vme_object.specs.History.{entry}
use Rattle.vme_object.specs.Each.{AllAt}
use Rattle.vme_memory.specs.declared.command.BoardCmd.{BoardCmd}
use Rattle.vme_memory.specs.declared.reply.Reply.{Reply}
use Rattle.vme_memory.specs.Boards.{Board}
use Rattle.vme_memory.specs.Locals.{board_step}
use Rattle.vme_arbiter.specs.declared.command.ArbCmd.{ArbCmd}
use Rattle.vme_arbiter.specs.declared.command.ArbReply.{ArbReply}
use Rattle.vme_arbiter.specs.Arbitration.{Arbitration, arbiter_step}
use Rattle.vme_core.specs.declared.event.Event.{Event}
use Rattle.vme_core.specs.declared.event.Event.TheVariants as events
use Rattle.vme_core.specs.declared.event.EventReply.{EventReply}
use Rattle.vme_core.specs.declared.event.EventReply.TheVariants as replies
use Rattle.vme_core.specs.declared.event.Target.{Target}
use Rattle.vme_core.specs.declared.event.Target.TheVariants as at
use Rattle.vme_core.specs.CountedStates.{CountedState, IsObjectRun}

-- the boards and the arbiter, each with its counts
pub record Machine : Type 0 where
  pub boards : List (CountedState Board)
  pub bus : CountedState Arbitration

-- a transition of a run: the processor, the event and the reply
pub record Transition : Type 0 where
  pub who : ℕ
  pub event : Event
  pub reply : EventReply

-- a transition from its parts
abbrev pub move : ℕ → Event → EventReply → Transition
move who event reply = record { who = who; event = event; reply = reply }

-- the object that takes an event
abbrev pub target_of : Event → Target
target_of (events.Board board cmd) = at.Board board
target_of (events.Bus cmd) = at.Bus

-- a reply matches its event: it is a board's, or the arbiter's
abbrev pub IsReplyTo : Event → EventReply → Type 0
IsReplyTo (events.Board board cmd) (replies.Board reply) = Unit {0}
IsReplyTo (events.Board board cmd) (replies.Bus reply) = ⊥
IsReplyTo (events.Bus cmd) (replies.Board reply) = ⊥
IsReplyTo (events.Bus cmd) (replies.Bus reply) = Unit {0}

-- the entry that a transition adds to the history of a board, if any
abbrev pub board_entry : ℕ → ℕ → Event → EventReply → Option (Entry BoardCmd Reply)
board_entry x who (events.Board board cmd) (replies.Board reply) = if board == x then Some (entry who cmd reply) else None
board_entry x who (events.Board board cmd) (replies.Bus reply) = None
board_entry x who (events.Bus cmd) reply = None

-- the entry that a transition adds to the history of the arbiter, if any
abbrev pub bus_entry : ℕ → Event → EventReply → Option (Entry ArbCmd ArbReply)
bus_entry who (events.Board board cmd) reply = None
bus_entry who (events.Bus cmd) (replies.Board reply) = None
bus_entry who (events.Bus cmd) (replies.Bus reply) = Some (entry who cmd reply)

-- the history of a board in a run
abbrev pub board_part : ℕ → List Transition → List (Entry BoardCmd Reply)
board_part x run = filter_map (λ m. board_entry x m.who m.event m.reply) run

-- the history of the arbiter in a run
abbrev pub bus_part : List Transition → List (Entry ArbCmd ArbReply)
bus_part run = filter_map (λ m. bus_entry m.who m.event m.reply) run

-- the events of a run, each with its processor
abbrev pub events_in : List Transition → List (ℕ × Event)
events_in run = map (λ m. (m.who, m.event)) run

-- the replies of a run
abbrev pub replies_in : List Transition → List EventReply
replies_in run = map (λ m. m.reply) run

-- the machine made a run: each reply matches its event, and each board and the arbiter went through its own part
pub record IsRun (run : List Transition) (before after : Machine) : Type 0 where
  pub fitting : All (λ m. IsReplyTo m.event m.reply) run
  pub boards : AllAt (λ x b a. IsObjectRun board_step (board_part x run) b a) before.boards after.boards
  pub bus : IsObjectRun arbiter_step (bus_part run) before.bus after.bus
