-- Defines what a call of C adds to the history of the machine.
use Rattle.std.specs.Prelude.{ℕ, ◌≡◌, ◌-◌, ◌^◌, ◌≤◌, [], ◌∷◌, length}
use Rattle.std.specs.Arc.{arc_value}
use Rattle.vme_object.specs.History.{entry}
use Rattle.vme_core.specs.declared.event.EventReply.{EventReply}
use Rattle.vme_core.specs.declared.event.EventReply.TheVariants as replies
use Rattle.vme_memory.specs.declared.reply.Reply.TheVariants.{Bytes, Done, Berr}
use Rattle.vme_arbiter.specs.declared.command.ArbReply.TheVariants.{Granted, Waiting, Denied, Freed}
use Rattle.vme_bus_objects.specs.declared.command.BusCommand.{BusCommand}
use Rattle.vme_bus_objects.specs.Objects.{bus_object_step}
use Rattle.vme_port_array.specs.Arrays.{opening, passes_of}
use Rattle.vme_port_array.specs.Calls.{Adds}
use Rattle.vme_port_array.specs.Parts.{indexed, part}
use Rattle.vme_processor.specs.declared.processor.Processor.{Processor}
use Rattle.vme_processor.specs.Processors.{KeepsPlace}
use Rattle.vme_machine_ffi.specs.declared.calls.Called.{Called}
use Rattle.vme_machine_ffi.specs.declared.calls.Called.TheVariants as called
use Rattle.vme_c_types.specs.declared.datum.VmeDatum.{VmeDatum}
use Rattle.vme_c_types.specs.Data.{datum_of, datum_struct}
use Rattle.vme_c_types.specs.Results as numbers
use Rattle.vme_machine_ffi.specs.Results as results

-- the number that a call returns
abbrev pub number_of : Called → ℕ
number_of (called.Reply (replies.Board (Bytes datum))) = numbers.ok
number_of (called.Reply (replies.Board Done)) = numbers.ok
number_of (called.Reply (replies.Board Berr)) = numbers.bus_error
number_of (called.Reply (replies.Bus Granted)) = 0x30
number_of (called.Reply (replies.Bus Waiting)) = 0x31
number_of (called.Reply (replies.Bus Denied)) = 0x32
number_of (called.Reply (replies.Bus Freed)) = 0x33
number_of called.Busy = results.busy
number_of called.Spent = results.spent
number_of called.Closed = results.closed

-- what a call writes: the bytes that a reply has, and otherwise nothing
abbrev pub Writes : Called → VmeDatum → VmeDatum → Type 0
Writes (called.Reply (replies.Board (Bytes datum))) old new =
    (datum_of new ≡ datum.items) × (new ≡ datum_struct datum.items)
Writes (called.Reply (replies.Board Done)) old new = new ≡ old
Writes (called.Reply (replies.Board Berr)) old new = new ≡ old
Writes (called.Reply (replies.Bus reply)) old new = new ≡ old
Writes called.Busy old new = new ≡ old
Writes called.Spent old new = new ≡ old
Writes called.Closed old new = new ≡ old

-- a processor after a call: it is of the same machine and board, and so is what it does over the bus
pub record IsSame (p q : Processor) : Type 0 where
  pub machine : arc_value q.member.array ≡ arc_value p.member.array
  pub boards : q.boards ≡ p.boards
  pub index : q.index ≡ p.index
  pub place : KeepsPlace p q
  pub task : q.task ≡ p.task

-- one event: the call adds one entry of this command to the processor's board, with the reply, after all that the
-- processor had seen
pub record MadeEvent (cmd : BusCommand) (reply : EventReply) (p q : Processor) : Type 0 where
  pub adds : Adds bus_object_step (opening (arc_value p.member.array))
      (entry p.member.pass.who (indexed p.index cmd) reply ∷ []) p.member.pass q.member.pass
  pub same : IsSame p q

-- no event, since another processor holds the board: the pass is as it was, and the machine has other processors
pub record WasBusy (p q : Processor) : Type 0 where
  pub shared : 2 ≤ passes_of (arc_value p.member.array)
  pub pass : q.member.pass ≡ p.member.pass
  pub same : IsSame p q

-- no event, since the board has made as many steps as can be counted
pub record WasSpent (p q : Processor) : Type 0 where
  pub full : length (part p.index q.member.pass.seen) ≡ 2 ^ 64 - 1
  pub adds : Adds bus_object_step (opening (arc_value p.member.array)) [] p.member.pass q.member.pass
  pub same : IsSame p q

-- what a call did with an open processor
abbrev pub Does : BusCommand → Called → Processor → Processor → Type 0
Does cmd (called.Reply reply) p q = MadeEvent cmd reply p q
Does cmd called.Busy p q = WasBusy p q
Does cmd called.Spent p q = WasSpent p q
Does cmd called.Closed p q = ⊥

-- the number and the bytes that C gets of a call of an open processor
pub record Answers (cmd : BusCommand) (result : ℕ) (old new : VmeDatum) (p q : Processor) : Type 0 where
  pub called : Called
  pub number : result ≡ number_of called
  pub bytes : Writes called old new
  pub did : Does cmd called p q

-- the number that C gets of a call of an open processor that writes no bytes
pub record AnswersDone (cmd : BusCommand) (result : ℕ) (p q : Processor) : Type 0 where
  pub called : Called
  pub number : result ≡ number_of called
  pub did : Does cmd called p q
