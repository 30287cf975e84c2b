-- A line as a machine that keeps a task in place of the replies so far, for the drivers' own functions.
use Rattle.std.specs.Prelude.{ℕ, ◌≡◌, ◌-◌, nat_lt, ◌&&◌, if◌then◌else◌, List, [], ◌∷◌, Option, None, Result, Ok, Err}
use Rattle.vme_cycle.specs.declared.fault.CycleFault.{CycleFault}
use Rattle.vme_core.specs.declared.event.EventReply.{EventReply}
use Rattle.vme_core.specs.Calls.{Call}
use Rattle.vme_core.specs.NextSteps.{NextStep, Invokes, Returns}
use Rattle.vme_shared.specs.declared.reply.LineReply.{LineReply}
use Rattle.vme_master.specs.Tables.{Inputs}
use Rattle.vme_master.specs.Machine.{fresh_task, advance, to_do}
use Rattle.vme_shared.specs.declared.reply.LineReply.TheVariants as replies
use Rattle.vme_shared.specs.Machine.{shared_fresh, shared_advance, shared_to_do}
use Rattle.vme_grammar.specs.declared.line.Line.{Line}
use Rattle.vme_script.specs.Configurations.{Configuration}
use Rattle.vme_line_task.specs.declared.task.LineTask.{LineTask}
use Rattle.vme_line_task.specs.declared.task.LineTask.TheVariants.{Refused, Running}
use Rattle.vme_line_task.specs.declared.attempt.Attempts.{Attempts}
use Rattle.vme_line_task.specs.declared.attempt.AttemptTask.{AttemptTask}
use Rattle.vme_line_task.specs.declared.attempt.AttemptTask.TheVariants as tasks
use Rattle.vme_line_task.specs.Scripts.{Attempt, Transferring, Awaiting, Sharing, line_attempt}
use Rattle.vme_line_task.specs.Tables.{transferring_next, awaiting_next, sharing_next, next_wants_retry, given_of}
use Rattle.vme_line_task.specs.Events.{IsCallBelow}

-- the task of an attempt before its first call
abbrev pub attempt_fresh : Attempt → AttemptTask
attempt_fresh (Transferring job) = tasks.Transfer (fresh_task job)
attempt_fresh (Awaiting job want) = tasks.Await (record { task = fresh_task job; want = record { items = want } })
attempt_fresh (Sharing s) = tasks.Shared (shared_fresh s)

-- the task of an attempt before its first call, or the refusal
abbrev pub fresh_of : Result Attempt CycleFault → Result AttemptTask CycleFault
fresh_of (Ok attempt) = Ok (attempt_fresh attempt)
fresh_of (Err fault) = Err fault

-- an attempt put back before its first call
abbrev pub attempt_anew : AttemptTask → AttemptTask
attempt_anew (tasks.Transfer t) = tasks.Transfer (fresh_task t.job)
attempt_anew (tasks.Await w) = tasks.Await (record { task = fresh_task w.task.job; want = w.want })
attempt_anew (tasks.Shared v) = tasks.Shared (shared_fresh v.job)

-- an attempt after the next reply, or an absent one
abbrev pub attempt_advance : AttemptTask → Option EventReply → AttemptTask
attempt_advance (tasks.Transfer t) given = tasks.Transfer (advance t given)
attempt_advance (tasks.Await w) given = tasks.Await (record { task = advance w.task given; want = w.want })
attempt_advance (tasks.Shared v) given = tasks.Shared (shared_advance v given)

-- what an attempt does next
abbrev pub attempt_to_do : AttemptTask → NextStep LineReply
attempt_to_do (tasks.Transfer t) = transferring_next (to_do t)
attempt_to_do (tasks.Await w) = awaiting_next w.want.items (to_do w.task)
attempt_to_do (tasks.Shared v) = sharing_next (shared_to_do v)

-- what attempts do next: what the current one does
abbrev pub attempts_to_do : Attempts → NextStep LineReply
attempts_to_do a = attempt_to_do a.attempt

-- if the current attempt has ended with a reply that asks for another, and one is left, the other has begun
abbrev pub attempts_again : Attempts → NextStep LineReply → Attempts
attempts_again a next =
    if next_wants_retry next && nat_lt 1 a.left
    then record { attempt = attempt_advance (attempt_anew a.attempt) None; left = a.left - 1 }
    else a

-- the attempts after the next reply, or an absent one
abbrev pub attempts_advance : Attempts → Option EventReply → Attempts
attempts_advance a given =
    attempts_again (record { attempt = attempt_advance a.attempt given; left = a.left })
    (attempt_to_do (attempt_advance a.attempt given))

-- a line before its first call, by its attempt, or its refusal
abbrev pub line_fresh : ℕ → Result Attempt CycleFault → LineTask
line_fresh tries (Ok attempt) = Running (record { attempt = attempt_fresh attempt; left = tries })
line_fresh tries (Err fault) = Refused fault

-- a line of a board's processor before its first call, with so many attempts
abbrev pub line_started_with : Configuration → ℕ → ℕ → Line → LineTask
line_started_with config board tries line = line_fresh tries (line_attempt config board line)

-- a line of a board's processor before its first call, with as many attempts as the configuration has
unfoldable pub line_started : Configuration → ℕ → Line → LineTask
line_started config board line = line_started_with config board config.tries line

-- a line after the next reply, or an absent one
abbrev pub line_advance : LineTask → Option EventReply → LineTask
line_advance (Refused fault) given = Refused fault
line_advance (Running a) given = Running (attempts_advance a given)

-- what a line does next
abbrev pub line_to_do : LineTask → NextStep LineReply
line_to_do (Refused fault) = Returns (replies.Refused fault)
line_to_do (Running a) = attempt_to_do a.attempt

-- the number of attempts that are left, the current one among them; 0 for a line that is refused
abbrev pub attempts_left : LineTask → ℕ
attempts_left (Refused fault) = 0
attempts_left (Running a) = a.left

-- a line after all that it was given, the newest first
abbrev pub line_advanced : LineTask → Inputs → LineTask
line_advanced task [] = task
line_advanced task (last ∷ before) = line_advance (line_advanced task before) last

-- a line of a board's processor with so many attempts, after all that it was given, the newest first
abbrev pub line_given_with : Configuration → ℕ → ℕ → Line → Inputs → LineTask
line_given_with config board tries line given = line_advanced (line_started_with config board tries line) given

-- a line of a board's processor with as many attempts as the configuration has, after all that it was given
abbrev pub line_given : Configuration → ℕ → Line → Inputs → LineTask
line_given config board line given = line_advanced (line_started config board line) given

-- a line after its first call and these replies, the newest first
abbrev pub line_after : Configuration → ℕ → Line → List EventReply → LineTask
line_after config board line replies = line_given config board line (given_of replies)

-- the boards that a line calls, whatever it is given, are among the first n
unfoldable pub IsLineBelow : ℕ → LineTask → Type 0
IsLineBelow n task = (given : Inputs) (call : Call) → line_to_do (line_advanced task given) ≡ Invokes call → IsCallBelow n call
