-- The phase of a transfer after a reply of the arbiter, and that of a local command.
use Rattle.std.proofs.Common.{◌≡◌, ℕ, Bool, true, false, if◌then◌else◌, List, Option, Some, None, refl}
use Rattle.std.specs.Prelude.{nat_lt}
use Rattle.vme_cycle.specs.Requests.{count_of}
use Rattle.vme_arbiter.specs.declared.command.ArbReply.{ArbReply}
use Rattle.vme_arbiter.specs.declared.command.ArbReply.TheVariants as arb_replies
use Rattle.vme_core.specs.declared.event.EventReply.{EventReply}
use Rattle.vme_core.specs.declared.event.EventReply.TheVariants as replies
use Rattle.vme_master.specs.declared.job.BusJob.{BusJob}
use Rattle.vme_master.specs.declared.job.LocalJob.{LocalJob}
use Rattle.vme_master.specs.declared.job.Job.{Job}
use Rattle.vme_master.specs.declared.job.Job.TheVariants.{Bus, Local}
use Rattle.vme_master.specs.declared.phase.Phase.{Phase}
use Rattle.vme_master.specs.declared.phase.Phase.TheVariants as phases
use Rattle.vme_master.specs.Machine.{TaskView, phase_answered, datum_phase, advance}
use Rattle.vme_master.proofs.lemmas.Stands.{job_stays}
use Rattle.vme_trace_laws.proofs.turns.Views.{holding, amid, is_holding, is_amid}
use Rattle.vme_trace_laws.proofs.turns.Arbiter.{grants}

-- a task by its parts
abbrev pub task_of : Job → Phase → List ℕ → TaskView
task_of job phase read = record { job = job; phase = phase; read = read }

-- a transfer holds the bus after an answer only if that is a grant
pub answered_grants : (job : BusJob) (reply : ArbReply) → is_holding (phase_answered (Bus job) reply) ≡ true → grants reply ≡ true
answered_grants job arb_replies.Granted is = refl
answered_grants job arb_replies.Waiting is = is
answered_grants job arb_replies.Freed is = is
answered_grants job arb_replies.Denied is = is

-- the first datum, or the release, is not amid the transfer
start_by : (more : Bool) → is_amid (if more then phases.Transferring 0 else phases.Releasing None) ≡ false
start_by true = refl
start_by false = refl

-- the same, by the board that is selected
start_amid : (job : BusJob) (place : Option (ℕ × ℕ)) → is_amid (datum_phase job place 0) ≡ false
start_amid job None = refl
start_amid job (Some p) = start_by (nat_lt 0 (count_of job.transfer.request))

-- a transfer after an answer is not amid its data
pub answered_amid : (job : BusJob) (reply : ArbReply) → is_amid (phase_answered (Bus job) reply) ≡ false
answered_amid job arb_replies.Granted = start_amid job job.place
answered_amid job arb_replies.Waiting = refl
answered_amid job arb_replies.Freed = refl
answered_amid job arb_replies.Denied = refl

-- a transfer after its release does not hold the bus
pub released_holds : (job : BusJob) (berr : Option ℕ) (read : List ℕ) (reply : ArbReply)
    → holding (Some (advance (task_of (Bus job) (phases.Releasing berr) read) (Some (replies.Bus reply)))) ≡ false
released_holds job berr read arb_replies.Granted = refl
released_holds job berr read arb_replies.Waiting = refl
released_holds job berr read arb_replies.Freed = refl
released_holds job berr read arb_replies.Denied = refl

-- and is not amid its data
pub released_amid : (job : BusJob) (berr : Option ℕ) (read : List ℕ) (reply : ArbReply)
    → amid (Some (advance (task_of (Bus job) (phases.Releasing berr) read) (Some (replies.Bus reply)))) ≡ false
released_amid job berr read arb_replies.Granted = refl
released_amid job berr read arb_replies.Waiting = refl
released_amid job berr read arb_replies.Freed = refl
released_amid job berr read arb_replies.Denied = refl

-- a local command never holds the bus
pub local_holds : (job : LocalJob) (phase : Phase) (read : List ℕ) (given : Option EventReply)
    → holding (Some (advance (task_of (Local job) phase read) given)) ≡ false
local_holds job phase read given = rw (job_stays (task_of (Local job) phase read) phase given) refl

-- and is never amid data
pub local_amid : (job : LocalJob) (phase : Phase) (read : List ℕ) (given : Option EventReply)
    → amid (Some (advance (task_of (Local job) phase read) given)) ≡ false
local_amid job phase read given = rw (job_stays (task_of (Local job) phase read) phase given) refl
