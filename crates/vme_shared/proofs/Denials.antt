-- A reply that does not fit, is absent or comes early is a denial.
use Rattle.std.proofs.Common.{◌≡◌, false, [], ◌∷◌, Option, Some, None, refl, ap, ◌∙◌}
use Rattle.vme_core.specs.declared.event.EventReply.{EventReply}
use Rattle.vme_core.specs.Calls.{Call}
use Rattle.vme_core.specs.NextSteps.{Invokes, Returns}
use Rattle.vme_master.specs.declared.job.Job.{Job}
use Rattle.vme_master.specs.declared.outcome.Outcome.TheVariants as outcomes
use Rattle.vme_master.specs.Jobs.{bus_job, fits_call}
use Rattle.vme_master.specs.Tables.{Inputs, next_of}
use Rattle.vme_shared.specs.declared.outcome.SharedOutcome.TheVariants as shared
use Rattle.vme_shared.specs.declared.request.SharedRequest.{SharedRequest}
use Rattle.vme_shared.specs.declared.request.SharedRequest.TheVariants.{Lock, Unlock, Put, Take}
use Rattle.vme_shared.specs.declared.stage.Stage.{Stage}
use Rattle.vme_shared.specs.declared.stage.Stage.TheVariants.{Locks, ReadsPutCount, ReadsTakeCount, WritesWord, RaisesPutCount, ReadsWord, RaisesTakeCount, Unlocks}
use Rattle.vme_shared.specs.declared.stage.StageResult.TheVariants.{Finish}
use Rattle.vme_shared.specs.Mailboxes.{shared_refusal}
use Rattle.vme_shared.specs.Steps.{first_stage, mailbox_step, step_after}
use Rattle.vme_shared.specs.Tables.{SharedJob, Progress, At, Over, checked_job, stage_begun, step_begun, progress_by, progress_given, progress_of, next_at, shared_next}
use Rattle.vme_shared.proofs.lemmas.Starts.{first_lawful}
use Rattle.vme_shared.proofs.lemmas.Tenures.{shown_makes}

-- a denial ends a put or a take at any stage
mailbox_denied : (request : SharedRequest) (stage : Stage) → mailbox_step request stage outcomes.Denied ≡ Finish shared.Denied
mailbox_denied request Locks = refl
mailbox_denied request ReadsPutCount = refl
mailbox_denied request (ReadsTakeCount p) = refl
mailbox_denied request (WritesWord p word) = refl
mailbox_denied request (RaisesPutCount p) = refl
mailbox_denied request (ReadsWord t) = refl
mailbox_denied request (RaisesTakeCount t word) = refl
mailbox_denied request (Unlocks end) = refl

-- a denied outcome of a stage's transfer ends the task with a denial
step_denied : (request : SharedRequest) (stage : Stage) → step_after request stage outcomes.Denied ≡ Finish shared.Denied
step_denied (Lock am addr) stage = refl
step_denied (Unlock am addr) stage = refl
step_denied (Put mailbox word) stage = mailbox_denied (Put mailbox word) stage
step_denied (Take mailbox) stage = mailbox_denied (Take mailbox) stage

-- a denied bus job ends the task with a denial
task_denied : (s : SharedJob) (stage : Stage) (job : Job) (given : Inputs) (last : Option EventReply)
    → next_of job (last ∷ given) ≡ Returns outcomes.Denied → next_at (progress_given s last (At stage job given)) ≡ Returns shared.Denied
task_denied s stage job given last ends =
    ap (λ next. next_at (progress_by s stage job (last ∷ given) next)) ends ∙ ap (λ step. next_at (step_begun s step)) (step_denied s.request stage)

-- at each progress a reply that does not fit the call ends the task with a denial
misfit_at : (s : SharedJob) (p : Progress) (call : Call) (reply : EventReply) → next_at p ≡ Invokes call → fits_call call reply ≡ false
    → next_at (progress_given s (Some reply) p) ≡ Returns shared.Denied
misfit_at s (At stage job given) call reply made misfit =
    let task : next_of job given ≡ Invokes call = shown_makes (next_of job given) call made in
    task_denied s stage job given (Some reply) (rw (task, misfit) refl)
misfit_at s (Over end) call reply made misfit = absurd cc

-- a reply that does not fit the call ends the task with a denial
pub misfit_denied : (s : SharedJob) (g : Inputs) (call : Call) (reply : EventReply) → shared_next s g ≡ Invokes call → fits_call call reply ≡ false
    → shared_next s (Some reply ∷ g) ≡ Returns shared.Denied
misfit_denied s g call reply made misfit = misfit_at s (progress_of s g) call reply made misfit

-- at each progress an absent reply to a call ends the task with a denial
absent_at : (s : SharedJob) (p : Progress) (call : Call) → next_at p ≡ Invokes call → next_at (progress_given s None p) ≡ Returns shared.Denied
absent_at s (At stage job given) call made =
    let task : next_of job given ≡ Invokes call = shown_makes (next_of job given) call made in
    task_denied s stage job given None (rw task refl)
absent_at s (Over end) call made = absurd cc

-- an absent reply to a call ends the task with a denial
pub absent_denied : (s : SharedJob) (g : Inputs) (call : Call) → shared_next s g ≡ Invokes call → shared_next s (None ∷ g) ≡ Returns shared.Denied
absent_denied s g call made = absent_at s (progress_of s g) call made

-- a reply before the first call ends the task with a denial
pub early_denied : (s : SharedJob) (reply : EventReply) → shared_refusal s.request ≡ None → shared_next s (Some reply ∷ []) ≡ Returns shared.Denied
early_denied s reply none =
    let one = first_lawful s.request none in
    ap (λ job. next_at (progress_given s (Some reply) (stage_begun (first_stage s.request) [] job))) (ap (checked_job s) one.1)
    ∙ task_denied s (first_stage s.request) (bus_job s.map s.slot s.level one.0) [] (Some reply) refl
