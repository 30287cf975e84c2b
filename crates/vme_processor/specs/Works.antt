-- Defines what a processor does over the bus: a transfer, or a lock, an unlock, a put or a take.
use Rattle.std.specs.Prelude.{◌≡◌, Bool, false, not, List, Option, Some, None, is_some}
use Rattle.std.specs.Arc.{arc_value}
use Rattle.vme_decode.specs.declared.entry.Entry.{Entry}
use Rattle.vme_core.specs.declared.event.EventReply.{EventReply}
use Rattle.vme_core.specs.Calls.{Call}
use Rattle.vme_core.specs.NextSteps.{call_in, result_in}
use Rattle.vme_master.specs.Machine.{advance, to_do}
use Rattle.vme_shared.specs.declared.request.SharedRequest.{SharedRequest}
use Rattle.vme_shared.specs.Tables.{SharedJob}
use Rattle.vme_shared.specs.Machine.{SharedView, shared_advance, current_to_do}
use Rattle.vme_bus_objects.specs.declared.command.BusCommand.{BusCommand}
use Rattle.vme_bus_objects.specs.declared.object.BusObject.{BusObject}
use Rattle.vme_machine.specs.declared.member.Member.{Member}
use Rattle.vme_processor.specs.declared.opening.Place.{Place}
use Rattle.vme_processor.specs.Progress.{SharedProgress}
use Rattle.vme_processor.specs.declared.work.Work.{Work}
use Rattle.vme_processor.specs.declared.work.Work.TheVariants.{Transfer, Shared}
use Rattle.vme_processor.specs.declared.processor.Processor.{Processor}
use Rattle.vme_processor.specs.Processors.{place_of}
use Rattle.vme_processor.specs.Events.{AddsCall}

-- the job of a request to a lock or a mailbox, at a place of the bus
abbrev pub job_at : List Entry → Place → SharedRequest → SharedJob
job_at map place request = record { map = map; slot = place.slot; level = place.level; request = request }

-- the task of a lock, an unlock, a put or a take, at a place of the bus
abbrev pub view_at : List Entry → Place → SharedProgress → SharedView
view_at map place work = record { job = job_at map place work.request; current = work.current }

-- the same without the place
abbrev pub work_of : SharedView → SharedProgress
work_of v = record { request = v.job.request; current = v.current }

-- the call that comes next
abbrev pub next_call : Work → Option Call
next_call (Transfer task) = call_in (to_do task)
next_call (Shared work) = call_in (current_to_do work.current)

-- the work after the reply to its call, at a place of the bus
abbrev pub work_after : List Entry → Place → EventReply → Work → Work
work_after map place reply (Transfer task) = Transfer (advance task (Some reply))
work_after map place reply (Shared work) = Shared (work_of (shared_advance (view_at map place work) (Some reply)))

-- whether a work has not ended
abbrev pub runs : Option Work → Bool
runs None = false
runs (Some (Transfer task)) = not (is_some (result_in (to_do task)))
runs (Some (Shared work)) = not (is_some (result_in (current_to_do work.current)))

-- whether what the processor does has not ended
abbrev pub is_running : Processor → Bool
is_running p = runs p.task

-- one event of a work: the member makes the next call, and the work advances by the reply
pub record StepsWork (map : List Entry) (place : Place) (reply : EventReply)
    (m n : Member BusObject BusCommand EventReply) (before after : Work) : Type 0 where
  pub call : Call
  pub next : next_call before ≡ Some call
  pub adds : AddsCall call reply m n
  pub work : after ≡ work_after map place reply before

-- one event of what the processor does
pub record Steps (reply : EventReply) (p q : Processor) : Type 0 where
  pub before : Work
  pub after : Work
  pub was : p.task ≡ Some before
  pub is : q.task ≡ Some after
  pub did : StepsWork (arc_value p.map) (place_of p) reply p.member q.member before after
