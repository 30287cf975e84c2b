-- Histories of a port array of boards and their arbiter as runs of transitions.
use Rattle.std.specs.Prelude.{ℕ, ◌≡◌, ◌<◌, ◌==◌, List, length, map}
use Rattle.std.specs.List.{filter}
use Rattle.vme_object.specs.declared.history.Entry.{Entry}
use Rattle.vme_object.specs.History.{replay, IsLegal}
use Rattle.vme_memory.specs.declared.reply.Reply.{Reply}
use Rattle.vme_memory.specs.Boards.{Board}
use Rattle.vme_memory.specs.Locals.{board_step}
use Rattle.vme_arbiter.specs.declared.command.ArbReply.{ArbReply}
use Rattle.vme_arbiter.specs.Arbitration.{Arbitration, arbiter_step}
use Rattle.vme_core.specs.declared.event.Event.{Event}
use Rattle.vme_core.specs.declared.event.Event.TheVariants as events
use Rattle.vme_core.specs.declared.event.EventReply.{EventReply}
use Rattle.vme_core.specs.declared.event.EventReply.TheVariants as replies
use Rattle.vme_core.specs.Runs.{Transition, move, board_part, bus_part}
use Rattle.vme_port_array.specs.declared.indexed.Indexed.{Indexed}
use Rattle.vme_port_array.specs.Parts.{part}
use Rattle.vme_bus_objects.specs.declared.object.BusObject.TheVariants as objects
use Rattle.vme_bus_objects.specs.declared.command.BusCommand.{BusCommand}
use Rattle.vme_bus_objects.specs.declared.command.BusCommand.TheVariants as commands
use Rattle.vme_bus_objects.specs.Objects.{bus_object_step}

-- an entry in the history of a port array of boards and their arbiter
abbrev pub BusEntry : Type 0
BusEntry = Entry (Indexed BusCommand) EventReply

-- the event of a command to the object at an index; the arbiter needs no index
abbrev pub event_at : ℕ → BusCommand → Event
event_at index (commands.Board cmd) = events.Board index cmd
event_at index (commands.Arbiter cmd) = events.Bus cmd

-- the transition of an entry: its caller, its event and its reply
abbrev pub transition_of : BusEntry → Transition
transition_of e = move e.who (event_at e.cmd.index e.cmd.cmd) e.reply

-- the run of a history: the transitions of its entries, in order
abbrev pub run_of : List BusEntry → List Transition
run_of h = map transition_of h

-- the transitions of one processor in a run, in order
abbrev pub transitions_of : ℕ → List Transition → List Transition
transitions_of who run = filter (λ m. m.who == who) run

-- a command to the object at an index and its reply are of that object's kind: boards below n, and the arbiter at n
abbrev pub MatchesKindAt : ℕ → ℕ → BusCommand → EventReply → Type 0
MatchesKindAt n index (commands.Board cmd) (replies.Board reply) = index < n
MatchesKindAt n index (commands.Board cmd) (replies.Bus reply) = ⊥
MatchesKindAt n index (commands.Arbiter cmd) (replies.Board reply) = ⊥
MatchesKindAt n index (commands.Arbiter cmd) (replies.Bus reply) = index ≡ n

-- the command and the reply of an entry are of its object's kind: boards below n, and the arbiter at n
abbrev pub MatchesKind : ℕ → BusEntry → Type 0
MatchesKind n e = MatchesKindAt n e.cmd.index e.cmd.cmd e.reply

-- the part of board x in a history is its part of the run: that part is legal from the memory, leads to the same state
-- and has as many entries
pub record IsBoardHistory (x : ℕ) (memory : Board) (h : List BusEntry) : Type 0 where
  pub legal : IsLegal board_step memory (board_part x (run_of h))
  pub object :
      replay bus_object_step (objects.Board memory) (part x h)
      ≡ objects.Board (replay board_step memory (board_part x (run_of h)))
  pub count : length (part x h) ≡ length (board_part x (run_of h))

-- the part of the arbiter, which is object n, in a history is its part of the run: that part is legal from the arbiter's
-- state, leads to the same state and has as many entries
pub record IsArbiterHistory (n : ℕ) (bus : Arbitration) (h : List BusEntry) : Type 0 where
  pub legal : IsLegal arbiter_step bus (bus_part (run_of h))
  pub object :
      replay bus_object_step (objects.Arbiter bus) (part n h) ≡ objects.Arbiter (replay arbiter_step bus (bus_part (run_of h)))
  pub count : length (part n h) ≡ length (bus_part (run_of h))

-- a reply is that of a board
abbrev pub IsBoardReply : EventReply → Type 0
IsBoardReply reply = (r : Reply) × (reply ≡ replies.Board r)

-- a reply is that of the arbiter
abbrev pub IsArbiterReply : EventReply → Type 0
IsArbiterReply reply = (r : ArbReply) × (reply ≡ replies.Bus r)
