-- A line follows the table: its task follows from all that it was given.
use Rattle.std.proofs.Common.{◌≡◌, ℕ, ◌-◌, List, [], ◌∷◌, Option, None, Result, Ok, Err, refl, ap, ◌∙◌, inl, inr}
use Rattle.std.specs.Prelude.{nat_lt, ◌&&◌}
use Rattle.std.proofs.lemmas.Bool.{cases_Bool}
use Rattle.vme_cycle.specs.declared.fault.CycleFault.{CycleFault}
use Rattle.vme_core.specs.declared.event.EventReply.{EventReply}
use Rattle.vme_core.specs.NextSteps.{NextStep}
use Rattle.vme_shared.specs.declared.reply.LineReply.{LineReply}
use Rattle.vme_master.specs.declared.job.Job.{Job}
use Rattle.vme_master.specs.Tables.{Inputs}
use Rattle.vme_master.specs.Machine.{fresh_task, task_given}
use Rattle.vme_master.proofs.lemmas.Stands.{by_the_table, given_job}
use Rattle.vme_shared.specs.Tables.{SharedJob}
use Rattle.vme_shared.specs.Machine.{shared_fresh, shared_given}
use Rattle.vme_shared.proofs.lemmas.Stands.{by_the_given as by_the_steps, given_job as shared_given_job}
use Rattle.vme_grammar.specs.declared.line.Line.{Line}
use Rattle.vme_script.specs.Configurations.{Configuration}
use Rattle.vme_line_task.specs.declared.task.LineTask.{LineTask}
use Rattle.vme_line_task.specs.declared.task.LineTask.TheVariants.{Refused, Running}
use Rattle.vme_line_task.specs.declared.attempt.Attempts.{Attempts}
use Rattle.vme_line_task.specs.declared.attempt.AttemptTask.{AttemptTask}
use Rattle.vme_line_task.specs.declared.attempt.AttemptTask.TheVariants as tasks
use Rattle.vme_line_task.specs.Scripts.{Attempt, Transferring, Awaiting, Sharing, line_attempt}
use Rattle.vme_line_task.specs.Tables as table
use Rattle.vme_line_task.specs.Tables.{transferring_next, awaiting_next, sharing_next, attempt_next, next_wants_retry, next_attempt, attempts_of, lawful_next, next_given_with, next_given, line_next, given_of}
use Rattle.vme_line_task.specs.Machine.{attempt_fresh, attempt_anew, attempt_advance, attempt_to_do, attempts_again, attempts_advance, line_fresh, line_started, line_advance, line_to_do, line_advanced, line_given_with, line_given, line_after}

-- the task of an attempt after all that it was given
abbrev attempt_task : Attempt → Inputs → AttemptTask
attempt_task (Transferring job) given = tasks.Transfer (task_given job given)
attempt_task (Awaiting job want) given = tasks.Await (record { task = task_given job given; want = record { items = want } })
attempt_task (Sharing s) given = tasks.Shared (shared_given s given)

-- the task of an attempt that was given nothing is that before its first call
task_fresh : (a : Attempt) → attempt_fresh a ≡ attempt_task a []
task_fresh (Transferring job) = refl
task_fresh (Awaiting job want) = refl
task_fresh (Sharing s) = refl

-- an attempt that is given one more reply has the task after all these replies
task_advance : (a : Attempt) (given : Inputs) (last : Option EventReply)
    → attempt_advance (attempt_task a given) last ≡ attempt_task a (last ∷ given)
task_advance (Transferring job) given last = refl
task_advance (Awaiting job want) given last = refl
task_advance (Sharing s) given last = refl

-- an attempt that is put back has the task before its first call
task_anew : (a : Attempt) (given : Inputs) → attempt_anew (attempt_task a given) ≡ attempt_task a []
task_anew (Transferring job) given = ap (λ (one : Job). tasks.Transfer (fresh_task one)) (given_job job given)
task_anew (Awaiting job want) given =
    ap (λ (one : Job). tasks.Await (record { task = fresh_task one; want = record { items = want } })) (given_job job given)
task_anew (Sharing s) given = ap (λ (one : SharedJob). tasks.Shared (shared_fresh one)) (shared_given_job s given)

-- an attempt does next what its table says
task_next : (a : Attempt) (given : Inputs) → attempt_to_do (attempt_task a given) ≡ attempt_next a given
task_next (Transferring job) given = ap transferring_next (by_the_table job given)
task_next (Awaiting job want) given = ap (awaiting_next want) (by_the_table job given)
task_next (Sharing s) given = ap sharing_next (by_the_steps s given)

-- the attempts of the machine, by those of the table
abbrev tasks_of : Attempt → table.AttemptsGiven → Attempts
tasks_of a made = record { attempt = attempt_task a made.given; left = made.left }

-- the machine begins another attempt exactly if the table does
same_again : (a : Attempt) (made : table.AttemptsGiven) (next : NextStep LineReply) → attempts_again (tasks_of a made) next ≡ tasks_of a (next_attempt made next)
same_again a made next =
    elim (cases_Bool (next_wants_retry next && nat_lt 1 made.left)) [
      | inl more ↦ rw more (ap (λ (t : AttemptTask). let one : Attempts = record { attempt = t; left = made.left - 1 } in one)
          (ap (λ (t : AttemptTask). attempt_advance t None) (task_anew a made.given) ∙ task_advance a [] None))
      | inr last ↦ rw last refl
    ]

-- the attempts of machine and table agree after each reply
same_attempts : (a : Attempt) (tries : ℕ) (given : Inputs) (last : Option EventReply)
    → attempts_advance (tasks_of a (attempts_of a tries given)) last ≡ tasks_of a (attempts_of a tries (last ∷ given))
same_attempts a tries given last =
    let made = attempts_of a tries given in
    let now : table.AttemptsGiven = record { given = last ∷ made.given; left = made.left } in
    let step : attempt_advance (attempt_task a made.given) last ≡ attempt_task a now.given = task_advance a made.given last in
    ap (λ (t : AttemptTask). attempts_again (record { attempt = t; left = made.left }) (attempt_to_do t)) step
    ∙ ap (attempts_again (tasks_of a now)) (task_next a now.given) ∙ same_again a now (attempt_next a now.given)

-- the machine's line is that of the table's attempts
attempts_given : (a : Attempt) (tries : ℕ) (given : Inputs)
    → line_advanced (line_fresh tries (Ok a)) given ≡ Running (tasks_of a (attempts_of a tries given))
attempts_given a tries [] = ap (λ (t : AttemptTask). Running (record { attempt = t; left = tries })) (task_fresh a)
attempts_given a tries (last ∷ before) =
    ap (λ (t : LineTask). line_advance t last) (attempts_given a tries before) ∙ ap Running (same_attempts a tries before last)

-- a line that is refused stays refused, whatever it is given
refused_given : (tries : ℕ) (fault : CycleFault) (given : Inputs) → line_advanced (line_fresh tries (Err fault)) given ≡ Refused fault
refused_given tries fault [] = refl
refused_given tries fault (last ∷ before) = ap (λ (t : LineTask). line_advance t last) (refused_given tries fault before)

-- a line does next what the table says, by its attempt or its refusal
by_attempt : (tries : ℕ) (attempt : Result Attempt CycleFault) (given : Inputs)
    → line_to_do (line_advanced (line_fresh tries attempt) given) ≡ lawful_next tries attempt given
by_attempt tries (Ok a) given = ap line_to_do (attempts_given a tries given) ∙ task_next a (attempts_of a tries given).given
by_attempt tries (Err fault) given = ap line_to_do (refused_given tries fault given)

-- a line with so many attempts does next what the table says, by all that it was given
pub by_the_given_with : (config : Configuration) (board tries : ℕ) (line : Line) (given : Inputs)
    → line_to_do (line_given_with config board tries line given) ≡ next_given_with config board tries line given
by_the_given_with config board tries line given = by_attempt tries (line_attempt config board line) given

-- a line does next what the table says, by all that it was given
pub by_the_given : (config : Configuration) (board : ℕ) (line : Line) (given : Inputs)
    → line_to_do (line_given config board line given) ≡ next_given config board line given
unfolding line_started next_given
by_the_given config board line given = by_the_given_with config board config.tries line given

-- a line does next what the table says, by the replies to its calls
pub by_the_replies : (config : Configuration) (board : ℕ) (line : Line) (replies : List EventReply)
    → line_to_do (line_after config board line replies) ≡ line_next config board line replies
by_the_replies config board line replies = by_the_given config board line (given_of replies)

-- after one more reply, a line does next what the table says
pub next_by_the_given : (config : Configuration) (board : ℕ) (line : Line) (before : Inputs) (t : LineTask) (last : Option EventReply)
    → t ≡ line_given config board line before → line_to_do (line_advance t last) ≡ next_given config board line (last ∷ before)
next_by_the_given config board line before t last same =
    ap (λ (u : LineTask). line_to_do (line_advance u last)) same ∙ by_the_given config board line (last ∷ before)
