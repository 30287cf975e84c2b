-- The transfer or the local command that a line's task is at.
use Rattle.std.proofs.Common.{◌≡◌, ℕ, ◌==◌, Bool, true, false, not, if◌then◌else◌, Option, Some, None, refl, sym, ◌∙◌, inl, inr}
use Rattle.std.specs.Prelude.{option_map}
use Rattle.std.proofs.lemmas.Bool.{cases_Bool, false≢true}
use Rattle.vme_cycle.specs.Lawful.{Transfer}
use Rattle.vme_arbiter.specs.declared.command.ArbReply.{ArbReply}
use Rattle.vme_arbiter.specs.declared.command.ArbReply.TheVariants as arb_replies
use Rattle.vme_core.specs.declared.event.EventReply.{EventReply}
use Rattle.vme_master.specs.declared.job.BusJob.{BusJob}
use Rattle.vme_master.specs.declared.job.Job.{Job}
use Rattle.vme_master.specs.declared.job.Job.TheVariants.{Bus, Local}
use Rattle.vme_master.specs.declared.phase.Phase.{Phase}
use Rattle.vme_master.specs.declared.phase.Phase.TheVariants as phases
use Rattle.vme_master.specs.Machine.{TaskView, advance}
use Rattle.vme_shared.specs.declared.current.CurrentTransfer.{CurrentTransfer}
use Rattle.vme_shared.specs.declared.current.CurrentTransfer.TheVariants as currents
use Rattle.vme_line_task.specs.declared.task.LineTask.{LineTask}
use Rattle.vme_line_task.specs.declared.task.LineTask.TheVariants.{Refused, Running}
use Rattle.vme_line_task.specs.declared.attempt.AttemptTask.{AttemptTask}
use Rattle.vme_line_task.specs.declared.attempt.AttemptTask.TheVariants as tasks

-- the task of the current transfer of a lock or a mailbox, if there is one
abbrev pub current_view : CurrentTransfer → Option TaskView
current_view (currents.Running stage task) = Some task
current_view (currents.Finished end) = None

-- the task of an attempt
abbrev pub attempt_view : AttemptTask → Option TaskView
attempt_view (tasks.Transfer t) = Some t
attempt_view (tasks.Await w) = Some w.task
attempt_view (tasks.Shared v) = current_view v.current

-- the transfer or the local command that a line's task is at, if there is one
abbrev pub line_view : LineTask → Option TaskView
line_view (Refused fault) = None
line_view (Running a) = attempt_view a.attempt

-- the same after a reply, or an absent one
abbrev pub view_after : Option EventReply → Option TaskView → Option TaskView
view_after given v = option_map (λ t. advance t given) v

-- whether the slot of a transfer holds the bus in a phase
abbrev pub is_holding : Phase → Bool
is_holding (phases.Transferring i) = true
is_holding (phases.Releasing berr) = true
is_holding phase = false

-- whether a transfer is between two of its data in a phase
abbrev pub is_amid : Phase → Bool
is_amid (phases.Transferring i) = not (i == 0)
is_amid phase = false

-- whether the slot of a job holds the bus
abbrev pub job_holds : Job → Phase → Bool
job_holds (Bus job) phase = is_holding phase
job_holds (Local job) phase = false

-- whether a job is between two of its data
abbrev pub job_amid : Job → Phase → Bool
job_amid (Bus job) phase = is_amid phase
job_amid (Local job) phase = false

-- whether a processor holds the bus
abbrev pub holding : Option TaskView → Bool
holding None = false
holding (Some t) = job_holds t.job t.phase

-- whether a processor is between two data of a transfer
abbrev pub amid : Option TaskView → Bool
amid None = false
amid (Some t) = job_amid t.job t.phase

-- between two data of a transfer its slot holds the bus
job_amid_holds : (job : Job) (phase : Phase) → job_amid job phase ≡ true → job_holds job phase ≡ true
job_amid_holds (Bus job) (phases.Transferring i) is = refl
job_amid_holds (Bus job) (phases.Releasing berr) is = refl
job_amid_holds (Bus job) phases.New is = is
job_amid_holds (Bus job) phases.Requesting is = is
job_amid_holds (Bus job) phases.Polling is = is
job_amid_holds (Bus job) (phases.Finished berr) is = is
job_amid_holds (Bus job) phases.Denied is = is
job_amid_holds (Local job) phase is = is

-- between two data of a transfer the processor holds the bus
pub amid_holds : (v : Option TaskView) → amid v ≡ true → holding v ≡ true
amid_holds None is = is
amid_holds (Some t) is = job_amid_holds t.job t.phase is

-- a processor that does not hold the bus is not between two data
pub amid_none : (v : Option TaskView) → holding v ≡ false → amid v ≡ false
amid_none v none =
    elim (cases_Bool (amid v)) [
      | inl is ↦ absurd (false≢true (sym none ∙ amid_holds v is))
      | inr is ↦ is
    ]

-- the transfer and the number of its next datum, if a transfer is between two of its data in a phase
abbrev pub phase_current : BusJob → Phase → Option (Transfer × ℕ)
phase_current job (phases.Transferring i) = if i == 0 then None else Some (job.transfer, i)
phase_current job phase = None

-- that of a job
abbrev pub job_current : Job → Phase → Option (Transfer × ℕ)
job_current (Bus job) phase = phase_current job phase
job_current (Local job) phase = None

-- that of a processor
abbrev pub current : Option TaskView → Option (Transfer × ℕ)
current None = None
current (Some t) = job_current t.job t.phase

-- a job that does not hold the bus is between no data
job_current_none : (job : Job) (phase : Phase) → job_holds job phase ≡ false → job_current job phase ≡ None
job_current_none (Bus job) (phases.Transferring i) none = absurd (false≢true (sym none))
job_current_none (Bus job) (phases.Releasing berr) none = refl
job_current_none (Bus job) phases.New none = refl
job_current_none (Bus job) phases.Requesting none = refl
job_current_none (Bus job) phases.Polling none = refl
job_current_none (Bus job) (phases.Finished berr) none = refl
job_current_none (Bus job) phases.Denied none = refl
job_current_none (Local job) phase none = refl

-- a processor that does not hold the bus is between no data
pub current_none : (v : Option TaskView) → holding v ≡ false → current v ≡ None
current_none None none = refl
current_none (Some t) none = job_current_none t.job t.phase none

-- the arbiter's last reply to a transfer in a phase; none before the first, and after the bus is released
abbrev pub phase_reply : Phase → Option ArbReply
phase_reply phases.Polling = Some arb_replies.Waiting
phase_reply (phases.Transferring i) = Some arb_replies.Granted
phase_reply (phases.Releasing berr) = Some arb_replies.Granted
phase_reply phase = None

-- that of a job
abbrev pub job_reply : Job → Phase → Option ArbReply
job_reply (Bus job) phase = phase_reply phase
job_reply (Local job) phase = None

-- that of a processor
abbrev pub last_reply : Option TaskView → Option ArbReply
last_reply None = None
last_reply (Some t) = job_reply t.job t.phase

-- a job without a reply does not hold the bus
job_reply_none : (job : Job) (phase : Phase) → job_reply job phase ≡ None → job_holds job phase ≡ false
job_reply_none (Bus job) (phases.Transferring i) none = absurd (cc none)
job_reply_none (Bus job) (phases.Releasing berr) none = absurd (cc none)
job_reply_none (Bus job) phases.New none = refl
job_reply_none (Bus job) phases.Requesting none = refl
job_reply_none (Bus job) phases.Polling none = refl
job_reply_none (Bus job) (phases.Finished berr) none = refl
job_reply_none (Bus job) phases.Denied none = refl
job_reply_none (Local job) phase none = refl

-- a processor without a reply does not hold the bus
reply_none : (v : Option TaskView) → last_reply v ≡ None → holding v ≡ false
reply_none None none = refl
reply_none (Some t) none = job_reply_none t.job t.phase none

-- two processors are alike: both hold the bus or neither, both are between the same two data or between none, and the
-- arbiter's last reply to both is the same
pub record IsLike (v w : Option TaskView) : Type 0 where
  pub held : holding v ≡ holding w
  pub between : amid v ≡ amid w
  pub datum : current v ≡ current w
  pub reply : last_reply v ≡ last_reply w

-- a processor is like itself
pub like_same : (v : Option TaskView) → IsLike v v
like_same v = record { held = refl; between = refl; datum = refl; reply = refl }

-- the other way round
pub like_back : (v w : Option TaskView) → IsLike v w → IsLike w v
like_back v w like = record { held = sym like.held; between = sym like.between; datum = sym like.datum; reply = sym like.reply }

-- one after another
pub like_on : (u v w : Option TaskView) → IsLike u v → IsLike v w → IsLike u w
like_on u v w first second = record {
  held = first.held ∙ second.held;
  between = first.between ∙ second.between;
  datum = first.datum ∙ second.datum;
  reply = first.reply ∙ second.reply;
}

-- processors without a reply are alike
pub like_idle : (v w : Option TaskView) → last_reply v ≡ None → last_reply w ≡ None → IsLike v w
like_idle v w first second =
    let one = reply_none v first in
    let two = reply_none w second in
    record {
      held = one ∙ sym two;
      between = amid_none v one ∙ sym (amid_none w two);
      datum = current_none v one ∙ sym (current_none w two);
      reply = first ∙ sym second;
    }
