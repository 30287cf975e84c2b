-- Defines the locks and mailboxes of a processor over the bus.
use Rattle.std.specs.Prelude.{◌≡◌, true, List, Option, Some, None}
use Rattle.std.specs.Arc.{arc_value}
use Rattle.vme_decode.specs.declared.entry.Entry.{Entry}
use Rattle.vme_core.specs.declared.event.EventReply.{EventReply}
use Rattle.vme_core.specs.Calls.{Call}
use Rattle.vme_core.specs.NextSteps.{call_in, result_in}
use Rattle.vme_master.specs.CurrentData.{DatumAt}
use Rattle.vme_shared.specs.declared.outcome.SharedOutcome.{SharedOutcome}
use Rattle.vme_shared.specs.declared.request.SharedRequest.{SharedRequest}
use Rattle.vme_shared.specs.declared.current.CurrentTransfer.{CurrentTransfer}
use Rattle.vme_shared.specs.CurrentData.{transfer_datum}
use Rattle.vme_shared.specs.Mailboxes.{shared_refusal}
use Rattle.vme_shared.specs.Tables.{SharedJob}
use Rattle.vme_shared.specs.Machine.{shared_fresh, shared_advance, current_after, current_to_do}
use Rattle.vme_bus_objects.specs.declared.command.BusCommand.{BusCommand}
use Rattle.vme_bus_objects.specs.declared.object.BusObject.{BusObject}
use Rattle.vme_machine.specs.declared.member.Member.{Member}
use Rattle.vme_processor.specs.declared.opening.Place.{Place}
use Rattle.vme_processor.specs.Progress.{SharedProgress}
use Rattle.vme_processor.specs.declared.work.Work.{Work}
use Rattle.vme_processor.specs.declared.work.Work.TheVariants as works
use Rattle.vme_processor.specs.declared.processor.Processor.{Processor}
use Rattle.vme_processor.specs.declared.transfer.StartFault.{StartFault}
use Rattle.vme_processor.specs.declared.transfer.StartFault.TheVariants.{Running, OutOfMemory, Refused}
use Rattle.vme_processor.specs.Processors.{place_of}
use Rattle.vme_processor.specs.Events.{AddsCall}
use Rattle.vme_processor.specs.Works.{job_at, work_of, is_running}

-- the work of a request at a place of the bus, with its first call made
abbrev pub begun_work : List Entry → Place → SharedRequest → SharedProgress
begun_work map place request = work_of (shared_advance (shared_fresh (job_at map place request)) None)

-- a processor starts a lock, an unlock, a put or a take
pub record StartsShared (request : SharedRequest) (p q : Processor) : Type 0 where
  pub accepted : shared_refusal request ≡ None
  pub task : q.task ≡ Some (works.Shared (begun_work (arc_value p.map) (place_of p) request))
  pub member : q.member ≡ p.member

-- why a processor starts none
abbrev pub IsSharedWhy : SharedRequest → Processor → StartFault → Type 0
IsSharedWhy request p Running = is_running p ≡ true
IsSharedWhy request p OutOfMemory = ⊥
IsSharedWhy request p (Refused fault) = shared_refusal request ≡ Some fault

-- one event of a current transfer: the member makes the next call, and the reply advances the transfer, or what follows it
pub record StepsCurrent (job : SharedJob) (reply : EventReply) (m n : Member BusObject BusCommand EventReply)
    (before after : CurrentTransfer) : Type 0 where
  pub call : Call
  pub next : call_in (current_to_do before) ≡ Some call
  pub adds : AddsCall call reply m n
  pub current : after ≡ current_after job before (Some reply)

-- the outcome of a lock, an unlock, a put or a take, if it has ended
abbrev pub shared_outcome_of_work : Option Work → Option SharedOutcome
shared_outcome_of_work None = None
shared_outcome_of_work (Some (works.Transfer task)) = None
shared_outcome_of_work (Some (works.Shared work)) = result_in (current_to_do work.current)

-- the outcome of the processor's last one, if it has ended and no transfer was started after it
abbrev pub shared_outcome_of : Processor → Option SharedOutcome
shared_outcome_of p = shared_outcome_of_work p.task

-- the datum of a lock, an unlock, a put or a take, if it has not ended
abbrev pub shared_datum_of_work : Option Work → Option DatumAt
shared_datum_of_work None = None
shared_datum_of_work (Some (works.Transfer task)) = None
shared_datum_of_work (Some (works.Shared work)) = transfer_datum work.current

-- the same, by the processor
abbrev pub shared_datum_of : Processor → Option DatumAt
shared_datum_of p = shared_datum_of_work p.task
