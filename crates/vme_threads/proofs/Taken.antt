-- The bytes of a reply that was taken, behind those that were read before.
use Rattle.std.proofs.Common.{◌≡◌, ℕ, true, false, List, ◌++◌, Bool, ap, ◌∙◌}
use Rattle.std.specs.Prelude.{if◌then◌else◌}
use Rattle.std.proofs.lemmas.List.{append_assoc}
use Rattle.vme_memory.specs.Data.{has_form}
use Rattle.vme_memory.specs.declared.reply.Reply.{Reply}
use Rattle.vme_master.specs.Jobs.{request_expected}
use Rattle.vme_master.specs.declared.expected.ExpectedReply.TheVariants as expected_replies
use Rattle.vme_master.specs.declared.job.BusJob.{BusJob}
use Rattle.vme_master.specs.declared.job.Job.{Job}
use Rattle.vme_master.specs.declared.job.Job.TheVariants.{Bus}
use Rattle.vme_master.specs.declared.phase.Phase.{Phase}
use Rattle.vme_master.specs.declared.phase.Phase.TheVariants.{Transferring, Denied}
use Rattle.vme_master.specs.Machine.{TaskView, phase_replied, bytes_of, job_expected, expected_len, task_replied}
use Rattle.vme_threads.specs.declared.take.Taken.{Taken}
use Rattle.vme_threads.specs.Reads.{read_task, phase_taken, IsTaken}

-- the state of a task
abbrev the_task : Job → Phase → List ℕ → TaskView
the_task job phase read = record { job = job; phase = phase; read = read }

-- a task after a reply: the bytes are appended if it fits, and else it is denied
abbrev after_reply : Bool → Job → Phase → List ℕ → List ℕ → TaskView
after_reply fits job next old more = if fits then the_task job next (old ++ more) else the_task job Denied old

-- a reply that leads from some bytes to others leads from them behind other bytes to those behind the same
behind :
    (fits : Bool) (job : Job) (next phase : Phase) (before old more new : List ℕ)
    → after_reply fits job next old more ≡ the_task job phase new
    → after_reply fits job next (before ++ old) more ≡ the_task job phase (before ++ new)
behind true job next phase before old more new is =
    ap (λ (p : Phase). the_task job p (before ++ old ++ more)) (ap (λ (t : TaskView). t.phase) is)
    ∙ ap (λ (read : List ℕ). the_task job phase read)
    (append_assoc before old more ∙ ap (λ (read : List ℕ). before ++ read) (ap (λ (t : TaskView). t.read) is))
behind false job next phase before old more new is =
    ap (λ (p : Phase). the_task job p (before ++ old)) (ap (λ (t : TaskView). t.phase) is)
    ∙ ap (λ (read : List ℕ). the_task job phase (before ++ read)) (ap (λ (t : TaskView). t.read) is)

-- the bytes of a reply that was taken come behind those that were read before
pub taken_behind :
    (job : BusJob) (i n : ℕ) (reply : Reply) (before old new : List ℕ) (taken : Taken)
    → request_expected job.transfer.request ≡ expected_replies.Read n → IsTaken n reply old new taken
    → task_replied (read_task job (Transferring i) (before ++ old)) i reply
    ≡ read_task job (phase_taken job i taken) (before ++ new)
taken_behind job i n reply before old new taken expected took =
    behind (has_form (expected_len (job_expected (Bus job))) reply) (Bus job) (phase_replied (Bus job) i reply)
    (phase_taken job i taken) before old (bytes_of reply) new (took.task job i expected)
