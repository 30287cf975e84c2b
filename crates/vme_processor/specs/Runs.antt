-- Defines what a step of a processor over the bus did, and steps that are made one after another.
use Rattle.std.specs.Prelude.{◌≡◌, List, [], ◌∷◌, Option, Some, None, Result, Ok, Err}
use Rattle.std.specs.Arc.{arc_value}
use Rattle.vme_arbiter.specs.declared.command.ArbReply.TheVariants.{Granted, Waiting, Denied, Freed}
use Rattle.vme_core.specs.declared.event.EventReply.{EventReply}
use Rattle.vme_core.specs.declared.event.EventReply.TheVariants as replies
use Rattle.vme_processor.specs.declared.processor.Processor.{Processor}
use Rattle.vme_processor.specs.declared.run.Met.{Met}
use Rattle.vme_processor.specs.declared.run.Met.TheVariants as met
use Rattle.vme_processor.specs.declared.transfer.StepFault.{StepFault}
use Rattle.vme_processor.specs.declared.transfer.StepFault.TheVariants.{Busy, Spent, NoBoard}
use Rattle.vme_processor.specs.Processors.{KeepsPlace}
use Rattle.vme_processor.specs.Events.{WasBusy}
use Rattle.vme_processor.specs.Works.{Steps}

-- what a step did: one event, or none; after a fault the task is unchanged
abbrev pub Did : Result (Option EventReply) StepFault → Processor → Processor → Type 0
Did (Ok (Some reply)) p q = Steps reply p q
Did (Ok None) p q = (q.member ≡ p.member) × (q.task ≡ p.task)
Did (Err Busy) p q = WasBusy p.member q.member × (q.task ≡ p.task)
Did (Err Spent) p q = q.task ≡ p.task
Did (Err NoBoard) p q = q.task ≡ p.task

-- one step that came to this
pub record Stepped (stepped : Result (Option EventReply) StepFault) (p q : Processor) : Type 0 where
  pub did : Did stepped p q
  pub machine : arc_value q.member.array ≡ arc_value p.member.array
  pub place : KeepsPlace p q

-- what a step came to, without the reply to its event
abbrev pub met_of : Result (Option EventReply) StepFault → Met
met_of (Ok (Some (replies.Board reply))) = met.Event
met_of (Ok (Some (replies.Bus Granted))) = met.Event
met_of (Ok (Some (replies.Bus Denied))) = met.Event
met_of (Ok (Some (replies.Bus Waiting))) = met.Waiting
met_of (Ok (Some (replies.Bus Freed))) = met.Freed
met_of (Ok None) = met.Nothing
met_of (Err Busy) = met.Busy
met_of (Err Spent) = met.Spent
met_of (Err NoBoard) = met.NoBoard

-- steps with one event each, one after another, the last reply first
abbrev pub Follows : List EventReply → Processor → Processor → Type 0
Follows [] p q = q ≡ p
Follows (reply ∷ before) p q = (mid : Processor) × Follows before p mid × Stepped (Ok (Some reply)) mid q

-- steps with one event each, and after them one step, which came to this
pub record Runs (what : Met) (p q : Processor) : Type 0 where
  pub replies : List EventReply
  pub mid : Processor
  pub before : Follows replies p mid
  pub stepped : Result (Option EventReply) StepFault
  pub last : Stepped stepped mid q
  pub met : what ≡ met_of stepped
