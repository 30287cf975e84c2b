-- The steps of a transfer of one datum, and what its task is after each of them.
use Rattle.std.proofs.Common.{arith, ◌≡◌, ◌∙◌, ℕ, ◌+◌, ◌*◌, Bool, true, false, List, [], ◌∷◌, ◌++◌, Option, Some, None, Result, Ok, Err, refl, ap, sym, subst, IfSome}
use Rattle.std.specs.Prelude.{nat_lt, if◌then◌else◌}
use Rattle.vme_cycle.specs.declared.request.Request.{Request}
use Rattle.vme_cycle.specs.declared.request.Request.TheVariants.{Read, Write, BlockRead, BlockWrite, BlockFill, Modify}
use Rattle.vme_cycle.specs.Requests.{count_of, datum_len, is_block_request}
use Rattle.vme_memory.specs.declared.reply.Reply.{Reply}
use Rattle.vme_memory.specs.declared.reply.Reply.TheVariants.{Bytes, Done, Berr}
use Rattle.vme_memory.specs.Data.{datum_command, datum_reply_len, has_form}
use Rattle.vme_arbiter.specs.declared.command.ArbReply.TheVariants.{Granted, Waiting, Denied, Freed}
use Rattle.vme_core.specs.declared.event.EventReply.{EventReply}
use Rattle.vme_core.specs.declared.event.EventReply.TheVariants as replies
use Rattle.vme_core.specs.Calls.{Call, OnBoard}
use Rattle.vme_core.specs.NextSteps.{call_in, result_in}
use Rattle.vme_master.specs.declared.job.BusJob.{BusJob}
use Rattle.vme_master.specs.declared.job.Job.TheVariants.{Bus}
use Rattle.vme_master.specs.declared.phase.Phase.{Phase}
use Rattle.vme_master.specs.declared.phase.Phase.TheVariants as phases
use Rattle.vme_master.specs.declared.outcome.Outcome.TheVariants as outcomes
use Rattle.vme_master.specs.Jobs.{datum_call, request_expected}
use Rattle.vme_master.specs.Machine.{TaskView, advance, to_do, datum_phase, phase_replied, expected_len, end_outcome, bytes_of}
use Rattle.vme_processor.specs.declared.work.Work.TheVariants as works
use Rattle.vme_processor.specs.declared.processor.Processor.{Processor}
use Rattle.vme_processor.specs.declared.transfer.StepFault.{StepFault}
use Rattle.vme_processor.specs.declared.transfer.StepFault.TheVariants.{Busy, Spent, NoBoard}
use Rattle.vme_processor.specs.declared.run.Met.{Met}
use Rattle.vme_processor.specs.declared.run.Met.TheVariants as met
use Rattle.vme_processor.specs.Runs.{Stepped, Follows, Runs, met_of}
use Rattle.vme_processor.specs.Singles.{with_task, outcome_by}
use Rattle.vme_processor.specs.SingleParts.{Calls, task_by, kept_met, is_granted, is_freed, is_fitting, first_datum}

-- ---- Steps ----

-- a call with a reply is a step of the transfer whose call it is
pub made : (call : Call) (reply : EventReply) (t : TaskView) (p q : Processor) → call_in (to_do t) ≡ Some call → Calls call (Ok reply) p q
    → Stepped (Ok (Some reply)) (with_task t p) (with_task (advance t (Some reply)) q)
made call reply t p q next calls = record {
  did = record {
    before = works.Transfer t;
    after = works.Transfer (advance t (Some reply));
    was = refl;
    is = refl;
    did = record { call = call; next = next; adds = calls.tried; work = refl };
  };
  machine = calls.machine;
  place = record { map = calls.place.map; place = calls.place.place };
}

-- a call without a reply is a step with this fault
failed : (call : Call) (fault : StepFault) (t : TaskView) (p q : Processor) → Calls call (Err fault) p q
    → Stepped (Err fault) (with_task t p) (with_task t q)
failed call Busy t p q calls = record {
  did = (calls.tried, refl);
  machine = calls.machine;
  place = record { map = calls.place.map; place = calls.place.place };
}
failed call Spent t p q calls = record {
  did = refl;
  machine = calls.machine;
  place = record { map = calls.place.map; place = calls.place.place };
}
failed call NoBoard t p q calls = record {
  did = refl;
  machine = calls.machine;
  place = record { map = calls.place.map; place = calls.place.place };
}

-- one step, and no other
pub one_step : (stepped : Result (Option EventReply) StepFault) (p q : Processor) → Stepped stepped p q → Runs (met_of stepped) p q
one_step stepped p q last = record { replies = []; mid = p; before = refl; stepped = stepped; last = last; met = refl }

-- a step with an event, and one without
then_nothing : (reply : EventReply) (p q : Processor) → Stepped (Ok (Some reply)) p q → Runs met.Nothing p q
then_nothing reply p q step = record {
  replies = reply ∷ [];
  mid = q;
  before = (p, refl, step);
  stepped = Ok None;
  last = record { did = (refl, refl); machine = refl; place = record { map = refl; place = refl } };
  met = refl;
}

-- a call that is the last one of a transfer that is kept
pub kept : (call : Call) (last : Result EventReply StepFault) (t : TaskView) (p q : Processor) → call_in (to_do t) ≡ Some call → Calls call last p q
    → Runs (kept_met last) (with_task t p) (with_task (task_by t last) q)
kept call (Ok (replies.Board reply)) t p q next calls =
    then_nothing (replies.Board reply) _ _ (made call (replies.Board reply) t p q next calls)
kept call (Ok (replies.Bus Granted)) t p q next calls = then_nothing (replies.Bus Granted) _ _ (made call (replies.Bus Granted) t p q next calls)
kept call (Ok (replies.Bus Denied)) t p q next calls = then_nothing (replies.Bus Denied) _ _ (made call (replies.Bus Denied) t p q next calls)
kept call (Ok (replies.Bus Waiting)) t p q next calls =
    one_step (Ok (Some (replies.Bus Waiting))) _ _ (made call (replies.Bus Waiting) t p q next calls)
kept call (Ok (replies.Bus Freed)) t p q next calls = one_step (Ok (Some (replies.Bus Freed))) _ _ (made call (replies.Bus Freed) t p q next calls)
kept call (Err fault) t p q next calls = one_step (Err fault) _ _ (failed call fault t p q calls)

-- a step before others
follows_on : (others : List EventReply) (reply : EventReply) (p m q : Processor) → Stepped (Ok (Some reply)) p m → Follows others m q
    → Follows (others ++ reply ∷ []) p q
follows_on [] reply p m q step same = (p, refl, subst (λ x. Stepped (Ok (Some reply)) p x) (sym same) step)
follows_on (last ∷ others) reply p m q step follows = (follows.0, follows_on others reply p m follows.0 step follows.1, follows.2)

pub runs_on : (what : Met) (reply : EventReply) (p m q : Processor) → Stepped (Ok (Some reply)) p m → Runs what m q → Runs what p q
runs_on what reply p m q step runs = record {
  replies = runs.replies ++ reply ∷ [];
  mid = runs.mid;
  before = follows_on runs.replies reply p m runs.mid step runs.before;
  stepped = runs.stepped;
  last = runs.last;
  met = runs.met;
}

-- ---- The task ----

-- a request that is no block has one datum
pub one_datum : (request : Request) → is_block_request request ≡ false → count_of request ≡ 1
one_datum (Read am addr n) single = refl
one_datum (Write am addr bytes) single = refl
one_datum (BlockRead am addr n count) single = absurd cc
one_datum (BlockWrite am addr n bytes) single = absurd cc
one_datum (BlockFill am addr n count bytes) single = absurd cc
one_datum (Modify am addr n f) single = refl

-- the form that a task expects is that of a datum
pub same_form : (request : Request) → expected_len (request_expected request) ≡ datum_reply_len request
same_form (Read am addr n) = refl
same_form (Write am addr bytes) = refl
same_form (BlockRead am addr n count) = refl
same_form (BlockWrite am addr n bytes) = refl
same_form (BlockFill am addr n count bytes) = refl
same_form (Modify am addr n f) = refl

-- a transfer in a phase, with these bytes
abbrev pub in_phase : BusJob → Phase → List ℕ → TaskView
in_phase job phase read = record { job = Bus job; phase = phase; read = read }

-- the call of the datum
pub datum_next : (job : BusJob) (at : ℕ × ℕ) → job.place ≡ Some at
    → call_in (to_do (in_phase job (phases.Transferring 0) [])) ≡ Some (first_datum job.transfer.request at)
datum_next job at there =
    let offset : at.1 + 0 * datum_len job.transfer.request ≡ at.1 = omega arith in
    ap (λ place. Some (datum_call job place 0)) there
    ∙ ap (λ n. Some (OnBoard at.0 (Some (datum_command job.transfer.request 0 n)))) offset

-- where a board is selected, the datum follows the grant
pub granted_at : (job : BusJob) (at : ℕ × ℕ) → count_of job.transfer.request ≡ 1 → job.place ≡ Some at
    → advance (in_phase job phases.Requesting []) (Some (replies.Bus Granted)) ≡ in_phase job (phases.Transferring 0) []
granted_at job at one there =
    ap (λ place. in_phase job (datum_phase job place 0) []) there
    ∙ ap (λ n. in_phase job (if nat_lt 0 n then phases.Transferring 0 else phases.Releasing None) []) one

-- where none is selected, the release follows the grant
pub granted_nowhere : (job : BusJob) → job.place ≡ None
    → advance (in_phase job phases.Requesting []) (Some (replies.Bus Granted)) ≡ in_phase job (phases.Releasing (Some 0)) []
granted_nowhere job there = ap (λ place. in_phase job (datum_phase job place 0) []) there

-- the number of data before a bus error, by the reply of the board
abbrev pub berr_of : Reply → Option ℕ
berr_of (Bytes datum) = None
berr_of Done = None
berr_of Berr = Some 0

-- the task after the reply of the board, by whether it has the form that is expected
by_form : (job : BusJob) (reply : Reply) (form : Bool) → has_form (expected_len (request_expected job.transfer.request)) reply ≡ form
    → advance (in_phase job (phases.Transferring 0) []) (Some (replies.Board reply))
    ≡ (if form then in_phase job (phase_replied (Bus job) 0 reply) (bytes_of reply) else in_phase job phases.Denied [])
by_form job reply form same =
    ap (λ (b : Bool). if b then in_phase job (phase_replied (Bus job) 0 reply) (bytes_of reply) else in_phase job phases.Denied []) same

-- after the one datum the release comes next
past_one : (job : BusJob) (at : ℕ × ℕ) (read : List ℕ) → count_of job.transfer.request ≡ 1 → job.place ≡ Some at
    → in_phase job (datum_phase job job.place 1) read ≡ in_phase job (phases.Releasing None) read
past_one job at read one there =
    ap (λ place. in_phase job (datum_phase job place 1) read) there
    ∙ ap (λ n. in_phase job (if nat_lt 1 n then phases.Transferring 1 else phases.Releasing None) read) one

-- the release follows the datum
pub moved_at : (job : BusJob) (at : ℕ × ℕ) (reply : Reply) → count_of job.transfer.request ≡ 1 → job.place ≡ Some at
    → has_form (expected_len (request_expected job.transfer.request)) reply ≡ true
    → advance (in_phase job (phases.Transferring 0) []) (Some (replies.Board reply))
    ≡ in_phase job (phases.Releasing (berr_of reply)) (bytes_of reply)
moved_at job at (Bytes datum) one there form = by_form job (Bytes datum) true form ∙ past_one job at datum.items one there
moved_at job at Done one there form = by_form job Done true form ∙ past_one job at [] one there
moved_at job at Berr one there form = by_form job Berr true form

-- a reply of another form is a denial
misfits : (job : BusJob) (reply : Reply) → has_form (expected_len (request_expected job.transfer.request)) reply ≡ false
    → advance (in_phase job (phases.Transferring 0) []) (Some (replies.Board reply)) ≡ in_phase job phases.Denied []
misfits job reply form = by_form job reply false form

-- the outcome by the reply of the board
pub ends_by : (job : BusJob) (reply : Reply)
    → end_outcome (request_expected job.transfer.request) (berr_of reply) (bytes_of reply) ≡ outcome_by job.transfer.request (Some reply)
ends_by job (Bytes datum) = refl
ends_by job Done = refl
ends_by job Berr = refl

-- a transfer has not ended, or by a denial
abbrev IsOpen : TaskView → Type 0
IsOpen task = IfSome (result_in (to_do task)) (λ outcome. outcome ≡ outcomes.Denied)

pub open_asked : (job : BusJob) (asked : Result EventReply StepFault) → is_granted asked ≡ false
    → IsOpen (task_by (in_phase job phases.Requesting []) asked)
open_asked job (Ok (replies.Board reply)) other = refl
open_asked job (Ok (replies.Bus Granted)) other = absurd cc
open_asked job (Ok (replies.Bus Waiting)) other = tt
open_asked job (Ok (replies.Bus Denied)) other = refl
open_asked job (Ok (replies.Bus Freed)) other = refl
open_asked job (Err fault) other = tt

pub open_moved : (job : BusJob) (moved : Result EventReply StepFault) → is_fitting job.transfer.request moved ≡ false
    → IsOpen (task_by (in_phase job (phases.Transferring 0) []) moved)
open_moved job (Ok (replies.Board reply)) other =
    let form : has_form (expected_len (request_expected job.transfer.request)) reply ≡ false =
    ap (λ len. has_form len reply) (same_form job.transfer.request) ∙ other in
    subst IsOpen (sym (misfits job reply form)) refl
open_moved job (Ok (replies.Bus reply)) other = refl
open_moved job (Err fault) other = tt

pub open_released : (job : BusJob) (berr : Option ℕ) (read : List ℕ) (released : Result EventReply StepFault) → is_freed released ≡ false
    → IsOpen (task_by (in_phase job (phases.Releasing berr) read) released)
open_released job berr read (Ok (replies.Board reply)) other = refl
open_released job berr read (Ok (replies.Bus Granted)) other = refl
open_released job berr read (Ok (replies.Bus Waiting)) other = refl
open_released job berr read (Ok (replies.Bus Denied)) other = refl
open_released job berr read (Ok (replies.Bus Freed)) other = absurd cc
open_released job berr read (Err fault) other = tt
