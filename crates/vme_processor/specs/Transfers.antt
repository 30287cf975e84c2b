-- Defines the transfers of a processor over the bus.
use Rattle.std.specs.Prelude.{◌≡◌, ◌<◌, true, Option, Some, None, Ok, Err}
use Rattle.std.specs.Arc.{arc_value}
use Rattle.vme_cycle.specs.BlockBuffers.{inline_capacity}
use Rattle.vme_cycle.specs.declared.request.Request.{Request}
use Rattle.vme_cycle.specs.Requests.{read_len}
use Rattle.vme_cycle.specs.Lawful.{Transfer, transfer_of}
use Rattle.vme_core.specs.declared.event.EventReply.{EventReply}
use Rattle.vme_core.specs.Calls.{Call}
use Rattle.vme_core.specs.NextSteps.{call_in, result_in}
use Rattle.vme_master.specs.declared.outcome.Outcome.{Outcome}
use Rattle.vme_master.specs.Jobs.{bus_job}
use Rattle.vme_master.specs.Machine.{TaskView, fresh_task, advance, to_do}
use Rattle.vme_bus_objects.specs.declared.command.BusCommand.{BusCommand}
use Rattle.vme_bus_objects.specs.declared.object.BusObject.{BusObject}
use Rattle.vme_machine.specs.declared.member.Member.{Member}
use Rattle.vme_processor.specs.declared.work.Work.{Work}
use Rattle.vme_processor.specs.declared.work.Work.TheVariants as works
use Rattle.vme_processor.specs.declared.processor.Processor.{Processor}
use Rattle.vme_processor.specs.declared.transfer.StartFault.{StartFault}
use Rattle.vme_processor.specs.declared.transfer.StartFault.TheVariants.{Running, OutOfMemory, Refused}
use Rattle.vme_processor.specs.Events.{AddsCall}
use Rattle.vme_processor.specs.Works.{is_running}

-- a processor starts the transfer of a lawful request
pub record Starts (request : Request) (p q : Processor) : Type 0 where
  pub transfer : Transfer
  pub lawful : transfer_of request ≡ Ok transfer
  pub task : q.task
      ≡ Some (works.Transfer (advance (fresh_task (bus_job (arc_value p.map) p.slot p.level transfer)) None))
  pub member : q.member ≡ p.member

-- a request reads more bytes than a buffer holds inline
pub record ReadsLong (request : Request) : Type 0 where
  pub transfer : Transfer
  pub lawful : transfer_of request ≡ Ok transfer
  pub long : inline_capacity < read_len transfer.request

-- why a processor starts no transfer of a request
abbrev pub IsWhy : Request → Processor → StartFault → Type 0
IsWhy request p Running = is_running p ≡ true
IsWhy request p OutOfMemory = ReadsLong request
IsWhy request p (Refused fault) = transfer_of request ≡ Err fault

-- why a request gets no buffer for the bytes that it reads
abbrev pub IsWhyNoBuffer : Request → StartFault → Type 0
IsWhyNoBuffer request Running = ⊥
IsWhyNoBuffer request OutOfMemory = ReadsLong request
IsWhyNoBuffer request (Refused fault) = transfer_of request ≡ Err fault

-- one event of a transfer: the member makes the next call, and the transfer advances by the reply
pub record StepsTask (reply : EventReply) (m n : Member BusObject BusCommand EventReply)
    (before after : TaskView) : Type 0 where
  pub call : Call
  pub next : call_in (to_do before) ≡ Some call
  pub adds : AddsCall call reply m n
  pub task : after ≡ advance before (Some reply)

-- the outcome of a transfer, if it has ended
abbrev pub outcome_of_work : Option Work → Option Outcome
outcome_of_work None = None
outcome_of_work (Some (works.Transfer task)) = result_in (to_do task)
outcome_of_work (Some (works.Shared work)) = None

-- the outcome of the processor's last transfer, if it has ended and nothing else was started after it
abbrev pub outcome_of : Processor → Option Outcome
outcome_of p = outcome_of_work p.task
