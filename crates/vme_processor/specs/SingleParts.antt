-- Defines the parts of a transfer that is started and run in one, for this crate's own functions.
use Rattle.std.specs.Prelude.{ℕ, ◌≡◌, Bool, true, false, List, Option, Some, None, Result, Ok, Err}
use Rattle.std.specs.Arc.{arc_value}
use Rattle.vme_cycle.specs.declared.request.Request.{Request}
use Rattle.vme_cycle.specs.Lawful.{Transfer}
use Rattle.vme_decode.specs.declared.entry.Entry.{Entry}
use Rattle.vme_memory.specs.declared.reply.Reply.{Reply}
use Rattle.vme_memory.specs.Data.{datum_command, datum_reply_len, has_form}
use Rattle.vme_arbiter.specs.declared.command.ArbReply.TheVariants.{Granted, Waiting, Denied, Freed}
use Rattle.vme_core.specs.declared.event.EventReply.{EventReply}
use Rattle.vme_core.specs.declared.event.EventReply.TheVariants as replies
use Rattle.vme_core.specs.Calls.{Call, OnBoard}
use Rattle.vme_master.specs.Jobs.{bus_job}
use Rattle.vme_master.specs.Machine.{TaskView, fresh_task, advance}
use Rattle.vme_processor.specs.declared.opening.Place.{Place}
use Rattle.vme_processor.specs.declared.processor.Processor.{Processor}
use Rattle.vme_processor.specs.declared.transfer.StepFault.{StepFault}
use Rattle.vme_processor.specs.declared.transfer.StepFault.TheVariants.{Busy, Spent, NoBoard}
use Rattle.vme_processor.specs.declared.run.Met.{Met}
use Rattle.vme_processor.specs.declared.run.Met.TheVariants as met
use Rattle.vme_processor.specs.Processors.{KeepsPlace}
use Rattle.vme_processor.specs.Events.{AddsCall, WasBusy}
use Rattle.vme_processor.specs.Runs.{met_of}

-- a call that a processor made, or tried to make
abbrev pub Tried : Call → Result EventReply StepFault → Processor → Processor → Type 0
Tried call (Ok reply) p q = AddsCall call reply p.member q.member
Tried call (Err Busy) p q = WasBusy p.member q.member
Tried call (Err Spent) p q = Unit {0}
Tried call (Err NoBoard) p q = Unit {0}

-- the same, and all else of the processor stays
pub record Calls (call : Call) (got : Result EventReply StepFault) (p q : Processor) : Type 0 where
  pub tried : Tried call got p q
  pub machine : arc_value q.member.array ≡ arc_value p.member.array
  pub place : KeepsPlace p q
  pub task : q.task ≡ p.task

-- whether a call came to the grant of the bus
abbrev pub is_granted : Result EventReply StepFault → Bool
is_granted (Ok (replies.Bus Granted)) = true
is_granted got = false

-- whether a call came to the release of the bus
abbrev pub is_freed : Result EventReply StepFault → Bool
is_freed (Ok (replies.Bus Freed)) = true
is_freed got = false

-- whether a call came to a board's reply of the form that a datum of the request expects
abbrev pub is_fitting : Request → Result EventReply StepFault → Bool
is_fitting request (Ok (replies.Board reply)) = has_form (datum_reply_len request) reply
is_fitting request got = false

-- the call of a request's datum on the selected board, by its index and the offset there
abbrev pub first_datum : Request → ℕ × ℕ → Call
first_datum request at = OnBoard at.0 (Some (datum_command request 0 at.1))

-- the selected board, if there is one, took the datum of a request, with this reply of the expected form
abbrev pub Reaches : Request → Option (ℕ × ℕ) → Option Reply → Processor → Processor → Type 0
Reaches request (Some at) (Some reply) p q =
    (has_form (datum_reply_len request) reply ≡ true) × Calls (first_datum request at) (Ok (replies.Board reply)) p q
Reaches request (Some at) None p q = ⊥
Reaches request None (Some reply) p q = ⊥
Reaches request None None p q = q ≡ p

-- the call of the selected board came to something else
abbrev pub FailsToReach : Request → Option (ℕ × ℕ) → Result EventReply StepFault → Processor → Processor → Type 0
FailsToReach request (Some at) moved p q = (is_fitting request moved ≡ false) × Calls (first_datum request at) moved p q
FailsToReach request None moved p q = ⊥

-- the task of a transfer at a place of the bus, with its first call made
abbrev pub begun : List Entry → Place → Transfer → TaskView
begun map place t = advance (fresh_task (bus_job map place.slot place.level t)) None

-- the same after the arbiter has granted the bus
abbrev pub granted : List Entry → Place → Transfer → TaskView
granted map place t = advance (begun map place t) (Some (replies.Bus Granted))

-- a task after the reply of the board that responds, if one does
abbrev pub moved_by : TaskView → Option Reply → TaskView
moved_by task (Some reply) = advance task (Some (replies.Board reply))
moved_by task None = task

-- a task after what a call came to: a fault leaves it unchanged
abbrev pub task_by : TaskView → Result EventReply StepFault → TaskView
task_by task (Ok reply) = advance task (Some reply)
task_by task (Err fault) = task

-- what steps came to, the last of which ended a task by a denial, was not granted the bus, or made no event
abbrev pub kept_met : Result EventReply StepFault → Met
kept_met (Ok (replies.Board reply)) = met.Nothing
kept_met (Ok (replies.Bus Granted)) = met.Nothing
kept_met (Ok (replies.Bus Denied)) = met.Nothing
kept_met (Ok (replies.Bus Waiting)) = met.Waiting
kept_met (Ok (replies.Bus Freed)) = met.Freed
kept_met (Err fault) = met_of (Err fault)
