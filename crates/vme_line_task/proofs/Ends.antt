-- A line's reply is final.
use Rattle.std.proofs.Common.{◌≡◌, ℕ, false, List, [], ◌∷◌, Option, None, Result, Ok, Err, refl, ap, subst, ◌∙◌, inl, inr}
use Rattle.std.specs.Prelude.{nat_lt, ◌&&◌}
use Rattle.std.proofs.lemmas.Bool.{cases_Bool}
use Rattle.vme_cycle.specs.declared.fault.CycleFault.{CycleFault}
use Rattle.vme_core.specs.declared.event.EventReply.{EventReply}
use Rattle.vme_core.specs.NextSteps.{NextStep, NotStarted, Invokes, Returns}
use Rattle.vme_shared.specs.declared.outcome.SharedOutcome.{SharedOutcome}
use Rattle.vme_master.specs.declared.job.Job.{Job}
use Rattle.vme_master.specs.declared.outcome.Outcome.{Outcome}
use Rattle.vme_master.specs.Tables.{Inputs, next_of, next_after}
use Rattle.vme_shared.specs.declared.reply.LineReply.{LineReply}
use Rattle.vme_shared.specs.declared.reply.LineReply.TheVariants as replies
use Rattle.vme_shared.specs.declared.reply.LineReply.TheVariants.{Shared}
use Rattle.vme_shared.specs.declared.outcome.SharedOutcome.TheVariants as shared
use Rattle.vme_shared.specs.declared.stage.Stage.{Stage}
use Rattle.vme_shared.specs.Steps.{first_stage}
use Rattle.vme_shared.specs.Tables.{SharedJob, stage_job, stage_begun, progress_given, next_at, shared_next}
use Rattle.vme_shared.proofs.lemmas.Tenures.{end_stays}
use Rattle.vme_grammar.specs.declared.line.Line.{Line}
use Rattle.vme_script.specs.Configurations.{Configuration}
use Rattle.vme_line_task.specs.Scripts.{Attempt, Transferring, Awaiting, Sharing, line_attempt}
use Rattle.vme_line_task.specs.Tenures.{IsGranted}
use Rattle.vme_line_task.specs.Tables.{transferring_next, awaiting_next, sharing_next, attempt_next, asks_again, next_wants_retry, AttemptsGiven, next_attempt, attempts_of, lawful_next, next_given}

-- a task's outcome is final
task_stays : (job : Job) (given : Inputs) (last : Option EventReply) (outcome : Outcome) → next_of job given ≡ Returns outcome
    → next_of job (last ∷ given) ≡ Returns outcome
task_stays job given last outcome ended = ap (λ next. next_after job next last given) ended

-- the reply of a transfer or a local command is final
transferring_stays : (job : Job) (given : Inputs) (last : Option EventReply) (answer : LineReply) (next : NextStep Outcome) → next_of job given ≡ next
    → transferring_next next ≡ Returns answer → transferring_next (next_of job (last ∷ given)) ≡ Returns answer
transferring_stays job given last answer NotStarted is ends = absurd cc
transferring_stays job given last answer (Invokes call) is ends = absurd cc
transferring_stays job given last answer (Returns outcome) is ends = ap transferring_next (task_stays job given last outcome is) ∙ ends

-- the reply of a read that waits for bytes is final
waits_stays : (job : Job) (want : List ℕ) (given : Inputs) (last : Option EventReply) (answer : LineReply) (next : NextStep Outcome) → next_of job given ≡ next
    → awaiting_next want next ≡ Returns answer → awaiting_next want (next_of job (last ∷ given)) ≡ Returns answer
waits_stays job want given last answer NotStarted is ends = absurd cc
waits_stays job want given last answer (Invokes call) is ends = absurd cc
waits_stays job want given last answer (Returns outcome) is ends = ap (awaiting_next want) (task_stays job given last outcome is) ∙ ends

-- the reply of a request to a lock or a mailbox is final
shares_stays : (s : SharedJob) (given : Inputs) (last : Option EventReply) (answer : LineReply) (next : NextStep SharedOutcome) → shared_next s given ≡ next
    → sharing_next next ≡ Returns answer → sharing_next (shared_next s (last ∷ given)) ≡ Returns answer
shares_stays s given last answer NotStarted is ends = absurd cc
shares_stays s given last answer (Invokes call) is ends = absurd cc
shares_stays s given last answer (Returns outcome) is ends = ap sharing_next (end_stays s given outcome last is) ∙ ends

-- an attempt's reply is final
attempt_stays : (a : Attempt) (given : Inputs) (last : Option EventReply) (answer : LineReply) → attempt_next a given ≡ Returns answer
    → attempt_next a (last ∷ given) ≡ Returns answer
attempt_stays (Transferring job) given last answer ends = transferring_stays job given last answer (next_of job given) refl ends
attempt_stays (Awaiting job want) given last answer ends = waits_stays job want given last answer (next_of job given) refl ends
attempt_stays (Sharing s) given last answer ends = shares_stays s given last answer (shared_next s given) refl ends

-- the reply of an attempt that ends at or before its first call is no denial and asks for no other attempt
pub record EndsAtOnce (answer : LineReply) : Type 0 where
  pub granted : IsGranted answer
  pub last : asks_again answer ≡ false

-- the reply `Berr` to a lock or a mailbox is no denial and asks for no other attempt
at_once : (answer : LineReply) → Returns (Shared shared.Berr) ≡ Returns answer → EndsAtOnce answer
at_once answer ends =
    let is : replies.Shared shared.Berr ≡ answer = cc in
    subst EndsAtOnce is (record { granted = (λ denied. absurd cc, λ denied. absurd cc); last = refl })

-- a stage that has ended before its first call has ended at once
stage_not_begun : (stage : Stage) (job : Result Job CycleFault) (answer : LineReply)
    → sharing_next (next_at (stage_begun stage [] job)) ≡ Returns answer → EndsAtOnce answer
stage_not_begun stage (Ok job) answer ends = absurd cc
stage_not_begun stage (Err fault) answer ends = at_once answer ends

-- a stage that has ended at its first call has ended at once
stage_just_begun : (s : SharedJob) (stage : Stage) (job : Result Job CycleFault) (answer : LineReply)
    → sharing_next (next_at (progress_given s None (stage_begun stage [] job))) ≡ Returns answer → EndsAtOnce answer
stage_just_begun s stage (Ok job) answer ends = absurd cc
stage_just_begun s stage (Err fault) answer ends = at_once answer ends

-- an attempt that has ended before its first call has ended at once
not_begun : (a : Attempt) (answer : LineReply) → attempt_next a [] ≡ Returns answer → EndsAtOnce answer
not_begun (Transferring job) answer ends = absurd cc
not_begun (Awaiting job want) answer ends = absurd cc
not_begun (Sharing s) answer ends = stage_not_begun (first_stage s.request) (stage_job s (first_stage s.request)) answer ends

-- an attempt that ends at its first call ends at once
pub just_begun : (a : Attempt) (answer : LineReply) → attempt_next a (None ∷ []) ≡ Returns answer → EndsAtOnce answer
just_begun (Transferring job) answer ends = absurd cc
just_begun (Awaiting job want) answer ends = absurd cc
just_begun (Sharing s) answer ends = stage_just_begun s (first_stage s.request) (stage_job s (first_stage s.request)) answer ends

-- an attempt that has ended is the last one
abbrev IsLast : Attempt → AttemptsGiven → Type 0
IsLast a made = (answer : LineReply) → attempt_next a made.given ≡ Returns answer → (asks_again answer && nat_lt 1 made.left) ≡ false

-- after the next attempt has begun, if one is due, a current attempt that has ended is the last one
last_attempt : (a : Attempt) (made : AttemptsGiven) → IsLast a (next_attempt made (attempt_next a made.given))
last_attempt a made =
    elim (cases_Bool (next_wants_retry (attempt_next a made.given) && nat_lt 1 made.left)) [
      | inl more ↦ rw more (λ answer ends. rw (just_begun a answer ends).last refl)
      | inr last ↦ rw last (λ answer ends. subst (λ next. (next_wants_retry next && nat_lt 1 made.left) ≡ false) ends last)
    ]

-- an attempt of a line that has ended, after all that the line was given, is the last one
all_last : (a : Attempt) (tries : ℕ) (given : Inputs) → IsLast a (attempts_of a tries given)
all_last a tries [] = λ answer ends. rw (not_begun a answer ends).last refl
all_last a tries (last ∷ before) =
    let made = attempts_of a tries before in
    last_attempt a (record { given = last ∷ made.given; left = made.left })

-- the reply of a line's attempts is final
lawful_stays : (tries : ℕ) (attempt : Result Attempt CycleFault) (given : Inputs) (last : Option EventReply) (answer : LineReply)
    → lawful_next tries attempt given ≡ Returns answer → lawful_next tries attempt (last ∷ given) ≡ Returns answer
lawful_stays tries (Err fault) given last answer ends = ends
lawful_stays tries (Ok a) given last answer ends =
    let made = attempts_of a tries given in
    let stays : attempt_next a (last ∷ made.given) ≡ Returns answer = attempt_stays a made.given last answer ends in
    let over : (asks_again answer && nat_lt 1 made.left) ≡ false = all_last a tries given answer ends in
    ap (λ (next : NextStep LineReply). attempt_next a (next_attempt (record { given = last ∷ made.given; left = made.left }) next).given) stays
    ∙ rw over stays

-- the reply of a line is final
pub answer_stays : (config : Configuration) (board : ℕ) (line : Line) (given : Inputs) (last : Option EventReply) (answer : LineReply)
    → next_given config board line given ≡ Returns answer → next_given config board line (last ∷ given) ≡ Returns answer
unfolding next_given
answer_stays config board line given last answer ends = lawful_stays config.tries (line_attempt config board line) given last answer ends
