-- A transfer of one datum that is started and run in one does what a start and steps do.
use Rattle.std.proofs.Common.{arith, ◌≡◌, ◌∙◌, ℕ, ◌≤◌, true, false, List, [], Option, Some, None, Result, Ok, refl, ap, sym, subst}
use Rattle.std.specs.Arc.{arc_value}
use Rattle.vme_cycle.specs.declared.request.Request.{Request}
use Rattle.vme_cycle.specs.declared.request.Request.TheVariants.{Read, Write, BlockRead, BlockWrite, BlockFill, Modify}
use Rattle.vme_cycle.specs.BlockBuffers.{inline_capacity}
use Rattle.vme_cycle.specs.Requests.{addr_of, count_of, datum_len, is_block_request, read_len}
use Rattle.vme_cycle.specs.Lawful.{Transfer, transfer_of}
use Rattle.vme_cycle.proofs.lemmas.Transfers.{comes_from}
use Rattle.vme_decode.specs.Select.{selection_at}
use Rattle.vme_memory.specs.declared.reply.Reply.{Reply}
use Rattle.vme_memory.specs.Data.{has_form}
use Rattle.vme_arbiter.specs.declared.command.ArbCmd.TheVariants as arb_commands
use Rattle.vme_arbiter.specs.declared.command.ArbReply.TheVariants.{Granted, Freed}
use Rattle.vme_core.specs.declared.event.EventReply.{EventReply}
use Rattle.vme_core.specs.declared.event.EventReply.TheVariants as replies
use Rattle.vme_core.specs.Calls.{OnBus}
use Rattle.vme_master.specs.declared.job.BusJob.{BusJob}
use Rattle.vme_master.specs.declared.phase.Phase.TheVariants as phases
use Rattle.vme_master.specs.Jobs.{request_expected}
use Rattle.vme_master.specs.Machine.{TaskView, advance, expected_len, end_outcome, bytes_of}
use Rattle.vme_processor.specs.declared.opening.Place.{Place}
use Rattle.vme_processor.specs.declared.processor.Processor.{Processor}
use Rattle.vme_processor.specs.declared.transfer.StepFault.{StepFault}
use Rattle.vme_processor.specs.declared.run.Met.{Met}
use Rattle.vme_processor.specs.declared.run.Met.TheVariants as met
use Rattle.vme_processor.specs.Processors.{KeepsPlace, place_of}
use Rattle.vme_processor.specs.Runs.{Stepped, Runs}
use Rattle.vme_processor.specs.Singles.{with_task, with_work, StartsAndRuns, outcome_by, has_datum_form, EndsTransfer, KeepsTransfer}
use Rattle.vme_processor.specs.SingleParts.{Calls, begun, granted, moved_by, task_by, kept_met, is_granted, is_freed, first_datum, Reaches, FailsToReach}
use Rattle.vme_processor.proofs.SingleSteps.{made, one_step, kept, runs_on, one_datum, same_form, in_phase, datum_next, granted_at, granted_nowhere, berr_of, moved_at, ends_by, open_asked, open_moved, open_released}

-- ---- The transfer ----

-- the job of a transfer of a processor
abbrev job_of : Processor → Transfer → BusJob
job_of p t = record { slot = p.slot; level = p.level; transfer = t; place = selection_at (arc_value p.map) t.am (addr_of t.request) }

-- a place is kept by two calls
pub both_keep : (p m q : Processor) → KeepsPlace p m → KeepsPlace m q → KeepsPlace p q
both_keep p m q first second = record { map = second.map ∙ first.map; place = second.place ∙ first.place }

-- the task begins alike at the same place
same_begun : (p q : Processor) (t : Transfer) → KeepsPlace p q
    → begun (arc_value q.map) (place_of q) t ≡ in_phase (job_of p t) phases.Requesting []
same_begun p q t keeps = ap (λ map. begun map (place_of q) t) keeps.map ∙ ap (λ place. begun (arc_value p.map) place t) keeps.place

-- a start, and steps after it
begins : (request : Request) (what : Met) (p q : Processor) (t : Transfer) → transfer_of request ≡ Ok t
    → Runs what (with_task (in_phase (job_of p t) phases.Requesting []) p) q → StartsAndRuns request what p q
begins request what p q t lawful runs = record {
  started = with_task (in_phase (job_of p t) phases.Requesting []) p;
  starts = record { transfer = t; lawful = lawful; task = refl; member = refl };
  place = record { map = refl; place = refl };
  runs = runs;
}

-- the request of a transfer is no block
pub one_of : (request : Request) (t : Transfer) → transfer_of request ≡ Ok t → is_block_request request ≡ false → count_of t.request ≡ 1
one_of request t lawful single = one_datum t.request (ap is_block_request (comes_from request t lawful).same ∙ single)

-- the transfer is kept after its request for the bus
pub keeps_asked : (request : Request) (p q r : Processor) (t : Transfer) (asked : Result EventReply StepFault) → transfer_of request ≡ Ok t
    → is_granted asked ≡ false → Calls (OnBus (arb_commands.Ask p.slot p.level)) asked p q
    → r ≡ with_task (task_by (begun (arc_value q.map) (place_of q) t) asked) q → KeepsTransfer request (kept_met asked) p r
keeps_asked request p q r t asked lawful other calls same =
    let task = in_phase (job_of p t) phases.Requesting [] in
    let is : r ≡ with_task (task_by task asked) q = same ∙ ap (λ began. with_task (task_by began asked) q) (same_begun p q t calls.place) in
    subst (λ x. KeepsTransfer request (kept_met asked) p x) (sym is) (record {
      runs = begins request (kept_met asked) p _ t lawful (kept (OnBus (arb_commands.Ask p.slot p.level)) asked task p q refl calls);
      denied = open_asked (job_of p t) asked other;
    })

-- the grant is a step
grant_step : (p q : Processor) (t : Transfer) → Calls (OnBus (arb_commands.Ask p.slot p.level)) (Ok (replies.Bus Granted)) p q
    → Stepped (Ok (Some (replies.Bus Granted))) (with_task (in_phase (job_of p t) phases.Requesting []) p)
    (with_task (advance (in_phase (job_of p t) phases.Requesting []) (Some (replies.Bus Granted))) q)
grant_step p q t calls =
    made (OnBus (arb_commands.Ask p.slot p.level)) (replies.Bus Granted) (in_phase (job_of p t) phases.Requesting []) p q refl calls

-- the transfer is kept after its call of the board
pub keeps_moved : (request : Request) (p m q r : Processor) (t : Transfer) (place : Option (ℕ × ℕ)) (moved : Result EventReply StepFault)
    → transfer_of request ≡ Ok t → is_block_request request ≡ false → place ≡ selection_at (arc_value p.map) t.am (addr_of t.request)
    → Calls (OnBus (arb_commands.Ask p.slot p.level)) (Ok (replies.Bus Granted)) p m → FailsToReach t.request place moved m q
    → r ≡ with_task (task_by (granted (arc_value q.map) (place_of q) t) moved) q → KeepsTransfer request (kept_met moved) p r
keeps_moved request p m q r t None moved lawful single there asked fails same = absurd fails
keeps_moved request p m q r t (Some at) moved lawful single there asked fails same =
    let job = job_of p t in
    let task = in_phase job (phases.Transferring 0) [] in
    let held : advance (in_phase job phases.Requesting []) (Some (replies.Bus Granted)) ≡ task =
    granted_at job at (one_of request t lawful single) (sym there) in
    let step = subst (λ g. Stepped (Ok (Some (replies.Bus Granted))) (with_task (in_phase job phases.Requesting []) p) (with_task g m)) held (grant_step p m t asked) in
    let is : r ≡ with_task (task_by task moved) q =
    same
    ∙ ap (λ began. with_task (task_by (advance began (Some (replies.Bus Granted))) moved) q) (same_begun p q t (both_keep p m q asked.place fails.1.place))
    ∙ ap (λ g. with_task (task_by g moved) q) held in
    subst (λ x. KeepsTransfer request (kept_met moved) p x) (sym is) (record {
      runs = begins request (kept_met moved) p _ t lawful
          (runs_on (kept_met moved) (replies.Bus Granted) _ _ _ step
          (kept (first_datum t.request at) moved task m q (datum_next job at (sym there)) fails.1));
      denied = open_moved job moved fails.0;
    })

-- the bus was granted, and the board that responds has replied, if one does: the release comes next
record Reached (job : BusJob) (reply : Option Reply) (p q : Processor) : Type 0 where
  berr : Option ℕ
  read : List ℕ
  task : moved_by (advance (in_phase job phases.Requesting []) (Some (replies.Bus Granted))) reply ≡ in_phase job (phases.Releasing berr) read
  place : KeepsPlace p q
  runs : (what : Met) (r : Processor) → Runs what (with_task (in_phase job (phases.Releasing berr) read) q) r
      → Runs what (with_task (advance (in_phase job phases.Requesting []) (Some (replies.Bus Granted))) p) r
  outcome : end_outcome (request_expected job.transfer.request) berr read ≡ outcome_by job.transfer.request reply
  form : has_datum_form job.transfer.request reply ≡ true

reached : (job : BusJob) (place : Option (ℕ × ℕ)) (reply : Option Reply) (p q : Processor) → count_of job.transfer.request ≡ 1
    → job.place ≡ place → Reaches job.transfer.request place reply p q → Reached job reply p q
reached job None None p q one there same =
    let held = granted_nowhere job there in
    record {
      berr = Some 0;
      read = [];
      task = held;
      place = subst (λ x. KeepsPlace p x) (sym same) (record { map = refl; place = refl });
      runs = λ what r runs.
          subst (λ x. Runs what x r)
          (ap (λ x. with_task (in_phase job (phases.Releasing (Some 0)) []) x) same ∙ ap (λ g. with_task g p) (sym held)) runs;
      outcome = refl;
      form = refl;
    }
reached job None (Some reply) p q one there reaches = absurd reaches
reached job (Some at) None p q one there reaches = absurd reaches
reached job (Some at) (Some reply) p q one there reaches =
    let held = granted_at job at one there in
    let form : has_form (expected_len (request_expected job.transfer.request)) reply ≡ true =
    ap (λ len. has_form len reply) (same_form job.transfer.request) ∙ reaches.0 in
    let next = moved_at job at reply one there form in
    let step = subst (λ m. Stepped (Ok (Some (replies.Board reply))) (with_task (in_phase job (phases.Transferring 0) []) p) (with_task m q)) next
    (made (first_datum job.transfer.request at) (replies.Board reply) (in_phase job (phases.Transferring 0) []) p q (datum_next job at there) reaches.1) in
    record {
      berr = berr_of reply;
      read = bytes_of reply;
      task = ap (λ g. advance g (Some (replies.Board reply))) held ∙ next;
      place = reaches.1.place;
      runs = λ what r runs.
          subst (λ g. Runs what (with_task g p) r) (sym held) (runs_on what (replies.Board reply) _ _ r step runs);
      outcome = ends_by job reply;
      form = reaches.0;
    }

-- a call of the release, by the slot of the transfer
of_slot : (p q r : Processor) (released : Result EventReply StepFault) → KeepsPlace p q → Calls (OnBus (arb_commands.Done q.slot)) released q r
    → Calls (OnBus (arb_commands.Done p.slot)) released q r
of_slot p q r released keeps calls =
    subst (λ slot. Calls (OnBus (arb_commands.Done slot)) released q r) (ap (λ (place : Place). place.slot) keeps.place) calls

-- the transfer is kept after its release of the bus
pub keeps_released : (request : Request) (p m n q r : Processor) (t : Transfer) (place : Option (ℕ × ℕ)) (reply : Option Reply)
    (released : Result EventReply StepFault) → transfer_of request ≡ Ok t → is_block_request request ≡ false
    → place ≡ selection_at (arc_value p.map) t.am (addr_of t.request)
    → Calls (OnBus (arb_commands.Ask p.slot p.level)) (Ok (replies.Bus Granted)) p m → Reaches t.request place reply m n
    → is_freed released ≡ false → Calls (OnBus (arb_commands.Done n.slot)) released n q
    → r ≡ with_task (task_by (moved_by (granted (arc_value q.map) (place_of q) t) reply) released) q
    → KeepsTransfer request (kept_met released) p r
keeps_released request p m n q r t place reply released lawful single there asked reaches other calls same =
    let job = job_of p t in
    let at = reached job place reply m n (one_of request t lawful single) (sym there) reaches in
    let task = in_phase job (phases.Releasing at.berr) at.read in
    let keeps = both_keep p m n asked.place at.place in
    let is : r ≡ with_task (task_by task released) q =
    same
    ∙ ap (λ began. with_task (task_by (moved_by (advance began (Some (replies.Bus Granted))) reply) released) q)
    (same_begun p q t (both_keep p n q keeps calls.place))
    ∙ ap (λ g. with_task (task_by g released) q) at.task in
    subst (λ x. KeepsTransfer request (kept_met released) p x) (sym is) (record {
      runs = begins request (kept_met released) p _ t lawful
          (runs_on (kept_met released) (replies.Bus Granted) _ _ _ (grant_step p m t asked)
          (at.runs (kept_met released) _
          (kept (OnBus (arb_commands.Done p.slot)) released task n q refl (of_slot p n q released keeps calls))));
      denied = open_released job at.berr at.read released other;
    })

-- the transfer has ended by its release of the bus
pub ends : (request : Request) (p m n q r : Processor) (t : Transfer) (place : Option (ℕ × ℕ)) (reply : Option Reply)
    → transfer_of request ≡ Ok t → is_block_request request ≡ false → place ≡ selection_at (arc_value p.map) t.am (addr_of t.request)
    → Calls (OnBus (arb_commands.Ask p.slot p.level)) (Ok (replies.Bus Granted)) p m → Reaches t.request place reply m n
    → Calls (OnBus (arb_commands.Done n.slot)) (Ok (replies.Bus Freed)) n q → r ≡ with_work None q → EndsTransfer request reply p r
ends request p m n q r t place reply lawful single there asked reaches calls forgets =
    let job = job_of p t in
    let at = reached job place reply m n (one_of request t lawful single) (sym there) reaches in
    let task = in_phase job (phases.Releasing at.berr) at.read in
    let keeps = both_keep p m n asked.place at.place in
    let same = (comes_from request t lawful).same in
    let ended = with_task (advance task (Some (replies.Bus Freed))) q in
    record {
      ended = ended;
      runs = begins request met.Freed p ended t lawful
          (runs_on met.Freed (replies.Bus Granted) _ _ _ (grant_step p m t asked)
          (at.runs met.Freed _
          (one_step (Ok (Some (replies.Bus Freed))) _ _
          (made (OnBus (arb_commands.Done p.slot)) (replies.Bus Freed) task n q refl (of_slot p n q (Ok (replies.Bus Freed)) keeps calls)))));
      outcome = ap Some at.outcome ∙ ap (λ it. Some (outcome_by it reply)) same;
      form = ap (λ it. has_datum_form it reply) (sym same) ∙ at.form;
      after = forgets;
    }

-- ---- The place, and the bytes that are read ----

-- a request of one datum reads as few bytes as a buffer holds inline
short : (request : Request) → is_block_request request ≡ false → datum_len request ≤ 8 → read_len request ≤ inline_capacity
short (Read am addr n) single less = omega (arith, less)
short (Write am addr bytes) single less = omega arith
short (BlockRead am addr n count) single less = absurd cc
short (BlockWrite am addr n bytes) single less = absurd cc
short (BlockFill am addr n count bytes) single less = absurd cc
short (Modify am addr n f) single less = omega (arith, less)

pub short_of : (request : Request) (t : Transfer) (n : ℕ) → transfer_of request ≡ Ok t → is_block_request request ≡ false
    → n ≡ datum_len t.request → n ≤ 8 → read_len request ≤ inline_capacity
short_of request t n lawful single same less =
    short request single (subst (λ k. k ≤ 8) (same ∙ ap datum_len (comes_from request t lawful).same) less)

-- a processor with another task keeps its place
pub placed : (p q r : Processor) (task : TaskView) → r ≡ with_task task q → KeepsPlace p q → KeepsPlace p r
placed p q r task same keeps = subst (λ x. KeepsPlace p x) (sym same) (record { map = keeps.map; place = keeps.place })

-- the call of the board keeps the place
pub failing_place : (request : Request) (place : Option (ℕ × ℕ)) (moved : Result EventReply StepFault) (p q : Processor)
    → FailsToReach request place moved p q → KeepsPlace p q
failing_place request None moved p q fails = absurd fails
failing_place request (Some at) moved p q fails = fails.1.place

pub reaching_place : (request : Request) (place : Option (ℕ × ℕ)) (reply : Option Reply) (p q : Processor)
    → Reaches request place reply p q → KeepsPlace p q
reaching_place request None None p q same = subst (λ x. KeepsPlace p x) (sym same) (record { map = refl; place = refl })
reaching_place request None (Some reply) p q reaches = absurd reaches
reaching_place request (Some at) None p q reaches = absurd reaches
reaching_place request (Some at) (Some reply) p q reaches = reaches.1.place
