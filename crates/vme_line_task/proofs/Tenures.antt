-- A transfer keeps its tenure of the bus: what follows replies that fit and are no denials.
use Rattle.std.proofs.Common.{◌≡◌, ◌≢◌, ℕ, true, [], ◌∷◌, Some, None, refl, ap, sym, subst, ◌∙◌}
use Rattle.vme_memory.specs.declared.reply.Reply.{Reply}
use Rattle.vme_memory.specs.declared.reply.Reply.TheVariants.{Bytes, Done, Berr}
use Rattle.vme_arbiter.specs.declared.command.ArbCmd.{ArbCmd}
use Rattle.vme_arbiter.specs.declared.command.ArbReply.{ArbReply}
use Rattle.vme_arbiter.specs.declared.command.ArbReply.TheVariants as arb_replies
use Rattle.vme_arbiter.specs.Arbitration.{Arbitration}
use Rattle.vme_arbiter.specs.Masters.{MatchesReply}
use Rattle.vme_core.specs.declared.event.EventReply.{EventReply}
use Rattle.vme_core.specs.declared.event.EventReply.TheVariants as replies
use Rattle.vme_core.specs.Calls.{Call, OnBus}
use Rattle.vme_core.specs.NextSteps.{NextStep, Invokes, Returns}
use Rattle.vme_master.specs.declared.job.LocalJob.{LocalJob}
use Rattle.vme_master.specs.declared.job.Job.{Job}
use Rattle.vme_master.specs.declared.job.Job.TheVariants.{Bus, Local}
use Rattle.vme_master.specs.declared.outcome.Outcome.{Outcome}
use Rattle.vme_master.specs.declared.outcome.Outcome.TheVariants as outcomes
use Rattle.vme_master.specs.Jobs.{local_call, fits_call}
use Rattle.vme_master.specs.Tables.{Inputs, next_of, outcome_by, row_of_reply}
use Rattle.vme_master.proofs.lemmas.Tenures.{ends_freed}
use Rattle.vme_master.proofs.lemmas.Locals.{local_calls}
use Rattle.vme_shared.proofs.lemmas.Granted.{expected_granted, outcome_granted}
use Rattle.vme_line_task.specs.Tenures.{job_arb_reply, IsUndeniedReply}

-- an end that is a denial
abbrev IsDenial : NextStep Outcome → Type 0
IsDenial (Returns outcomes.Denied) = Unit {0}
IsDenial next = ⊥

-- an end whose outcome is no denial is no denial
end_granted : (outcome : Outcome) → outcome ≢ outcomes.Denied → IsDenial (Returns outcome) → ⊥
end_granted outcomes.Denied good denial = good refl
end_granted (outcomes.Read bytes) good denial = denial
end_granted outcomes.Done good denial = denial
end_granted (outcomes.Old bytes) good denial = denial
end_granted (outcomes.Berr count bytes) good denial = denial

-- what follows a reply that fits and is no denial is no denial
row_granted : (job : Job) (g : Inputs) (call : Call) (reply : EventReply) → next_of job g ≡ Invokes call → IsUndeniedReply call reply
    → IsDenial (row_of_reply job reply g) → ⊥
row_granted (Bus j) g call (replies.Bus arb_replies.Waiting) made good denial = denial
row_granted (Bus j) g call (replies.Bus arb_replies.Granted) made good denial = denial
row_granted (Bus j) g call (replies.Board (Bytes datum)) made good denial = denial
row_granted (Bus j) g call (replies.Board Done) made good denial = denial
row_granted (Bus j) g call (replies.Board Berr) made good denial = denial
row_granted (Bus j) g call (replies.Bus arb_replies.Freed) made good denial = end_granted (outcome_by j j.place g) (outcome_granted j j.place g) denial
row_granted (Bus j) g call (replies.Bus arb_replies.Denied) made good denial = good.granted refl
row_granted (Local j) g call (replies.Board (Bytes datum)) made good denial = end_granted _ (expected_granted _ datum.items) denial
row_granted (Local j) g call (replies.Board Done) made good denial = end_granted _ (expected_granted _ []) denial
row_granted (Local j) g call (replies.Board Berr) made good denial = denial
row_granted (Local j) g call (replies.Bus reply) made good denial =
    let own : call ≡ local_call j = local_calls j g call made in
    let fit : fits_call (local_call j) (replies.Bus reply) ≡ true = subst (λ c. fits_call c (replies.Bus reply) ≡ true) own good.fit in
    absurd cc

-- after a reply that fits, the next step of a task is that of its table
good_row : (job : Job) (g : Inputs) (call : Call) (reply : EventReply) → next_of job g ≡ Invokes call → IsUndeniedReply call reply
    → next_of job (Some reply ∷ g) ≡ row_of_reply job reply g
good_row job g call reply made good = rw (made, good.fit) refl

-- an outcome after a reply that fits and is no denial is no denial
pub good_end : (job : Job) (g : Inputs) (call : Call) (reply : EventReply) (outcome : Outcome) → next_of job g ≡ Invokes call
    → IsUndeniedReply call reply → next_of job (Some reply ∷ g) ≡ Returns outcome → outcome ≢ outcomes.Denied
good_end job g call reply outcome made good ends = λ denied.
    row_granted job g call reply made good
    (subst IsDenial (sym (ap Returns denied) ∙ sym ends ∙ good_row job g call reply made good) tt)

-- the reply that ends a transfer over the bus is `Freed`; a local command may end with any reply
abbrev pub FreedBy : Job → EventReply → Type 0
FreedBy (Bus j) reply = reply ≡ replies.Bus arb_replies.Freed
FreedBy (Local j) reply = Unit {0}

-- if a reply that fits and is no denial ends a transfer over the bus, the reply is `Freed`
pub good_freed : (job : Job) (g : Inputs) (call : Call) (reply : EventReply) (outcome : Outcome) → next_of job g ≡ Invokes call
    → IsUndeniedReply call reply → next_of job (Some reply ∷ g) ≡ Returns outcome → FreedBy job reply
good_freed (Bus j) g call reply outcome made good ends =
    ends_freed j g call reply outcome made ends (good_end (Bus j) g call reply outcome made good ends)
good_freed (Local j) g call reply outcome made good ends = tt

-- after `Freed`, the state of a slot is that of a slot without a reply of the arbiter
pub freed_stands : (job : Job) (g : Inputs) (reply : EventReply) (bus : Arbitration) (slot : ℕ) → FreedBy job reply
    → MatchesReply bus slot (job_arb_reply job (Some reply ∷ g)) → MatchesReply bus slot None
freed_stands (Bus j) g reply bus slot freed stands = subst (λ r. MatchesReply bus slot (job_arb_reply (Bus j) (Some r ∷ g))) freed stands
freed_stands (Local j) g reply bus slot freed stands = stands

-- a local command makes no call to the arbiter
pub local_never : (j : LocalJob) (g : Inputs) (cmd : ArbCmd) → next_of (Local j) g ≡ Invokes (OnBus cmd) → ⊥
local_never j g cmd made = let own : OnBus cmd ≡ local_call j = local_calls j g (OnBus cmd) made in absurd cc

-- after a reply of the arbiter, that reply is its last reply to the task
pub turn_reported : (job : Job) (g : Inputs) (cmd : ArbCmd) (reply : ArbReply) (bus : Arbitration) (slot : ℕ)
    → next_of job g ≡ Invokes (OnBus cmd) → MatchesReply bus slot (Some reply)
    → MatchesReply bus slot (job_arb_reply job (Some (replies.Bus reply) ∷ g))
turn_reported (Bus j) g cmd reply bus slot made stands = stands
turn_reported (Local j) g cmd reply bus slot made stands = absurd (local_never j g cmd made)

-- a board's reply leaves the arbiter's last reply unchanged
pub datum_reported : (job : Job) (g : Inputs) (reply : Reply) → job_arb_reply job (Some (replies.Board reply) ∷ g) ≡ job_arb_reply job g
datum_reported (Bus j) g reply = refl
datum_reported (Local j) g reply = refl

-- a job begins without a reply of the arbiter
pub begin_reported : (job : Job) → job_arb_reply job (None ∷ []) ≡ None
begin_reported (Bus j) = refl
begin_reported (Local j) = refl

-- a transfer is that of a slot, which requests the bus on a level
abbrev pub IsOwnJob : ℕ → ℕ → Job → Type 0
IsOwnJob slot level (Bus j) = (j.slot ≡ slot) × (j.level ≡ level)
IsOwnJob slot level (Local j) = Unit {0}
