-- Defines transfers of one datum that a processor starts and runs in one.
use Rattle.std.specs.Prelude.{◌≡◌, [], Bool, true, Option, Some, None, IfSome}
use Rattle.vme_cycle.specs.declared.request.Request.{Request}
use Rattle.vme_memory.specs.declared.reply.Reply.{Reply}
use Rattle.vme_memory.specs.declared.reply.Reply.TheVariants.{Bytes, Done, Berr}
use Rattle.vme_memory.specs.Data.{datum_reply_len, has_form}
use Rattle.vme_master.specs.declared.outcome.Outcome.{Outcome}
use Rattle.vme_master.specs.declared.outcome.Outcome.TheVariants as outcomes
use Rattle.vme_master.specs.Jobs.{request_expected, expected_outcome, error_outcome}
use Rattle.vme_master.specs.Machine.{TaskView}
use Rattle.vme_processor.specs.declared.work.Work.{Work}
use Rattle.vme_processor.specs.declared.work.Work.TheVariants as works
use Rattle.vme_processor.specs.declared.processor.Processor.{Processor}
use Rattle.vme_processor.specs.declared.run.Met.{Met}
use Rattle.vme_processor.specs.declared.run.Met.TheVariants as met
use Rattle.vme_processor.specs.declared.single.Transferred.{Transferred}
use Rattle.vme_processor.specs.declared.single.Transferred.TheVariants.{Ended, Kept}
use Rattle.vme_processor.specs.Processors.{KeepsPlace}
use Rattle.vme_processor.specs.Runs.{Runs}
use Rattle.vme_processor.specs.Transfers.{Starts, outcome_of}

-- a processor with this in place of what it does over the bus
abbrev pub with_work : Option Work → Processor → Processor
with_work work p = record p { task = work }

-- a processor with this transfer in place of what it does over the bus
abbrev pub with_task : TaskView → Processor → Processor
with_task task p = with_work (Some (works.Transfer task)) p

-- a start of the transfer of a request, and steps after it, the last of which came to this
pub record StartsAndRuns (request : Request) (what : Met) (p q : Processor) : Type 0 where
  pub started : Processor
  pub starts : Starts request p started
  pub place : KeepsPlace p started
  pub runs : Runs what started q

-- the outcome of a transfer of one datum, by the reply of the board that responds, if one does
abbrev pub outcome_by : Request → Option Reply → Outcome
outcome_by request (Some (Bytes datum)) = expected_outcome (request_expected request) datum.items
outcome_by request (Some Done) = expected_outcome (request_expected request) []
outcome_by request (Some Berr) = error_outcome 0 []
outcome_by request None = error_outcome 0 []

-- whether the reply of the board that responds has the form that a datum of the request expects
abbrev pub has_datum_form : Request → Option Reply → Bool
has_datum_form request (Some reply) = has_form (datum_reply_len request) reply
has_datum_form request None = true

-- a transfer of one datum was started and run until it ended, with this reply of the board that responds, if one does;
-- the processor keeps nothing of it
pub record EndsTransfer (request : Request) (reply : Option Reply) (p q : Processor) : Type 0 where
  pub ended : Processor
  pub runs : StartsAndRuns request met.Freed p ended
  pub outcome : outcome_of ended ≡ Some (outcome_by request reply)
  pub form : has_datum_form request reply ≡ true
  pub after : q ≡ with_work None ended

-- a transfer was started and run, and the processor has it: it has not ended, or a command was denied
pub record KeepsTransfer (request : Request) (what : Met) (p q : Processor) : Type 0 where
  pub runs : StartsAndRuns request what p q
  pub denied : IfSome (outcome_of q) (λ outcome. outcome ≡ outcomes.Denied)

-- a transfer of one datum that is started and run in one
abbrev pub Transfers : Request → Transferred → Processor → Processor → Type 0
Transfers request (Ended reply) p q = EndsTransfer request reply p q
Transfers request (Kept what) p q = KeepsTransfer request what p q
