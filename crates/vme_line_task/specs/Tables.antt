-- What a line of a script does next: attempts, by a table over the replies so far.
use Rattle.std.specs.Prelude.{ℕ, ◌-◌, nat_lt, Bool, true, false, ◌&&◌, if◌then◌else◌, List, [], ◌∷◌, Option, Some, None, Result, Ok, Err}
use Rattle.std.specs.Str.{bytes_eq}
use Rattle.vme_cycle.specs.declared.fault.CycleFault.{CycleFault}
use Rattle.vme_core.specs.declared.event.EventReply.{EventReply}
use Rattle.vme_core.specs.NextSteps.{NextStep, Returns, next_map}
use Rattle.vme_master.specs.declared.outcome.Outcome.{Outcome}
use Rattle.vme_shared.specs.declared.outcome.SharedOutcome.{SharedOutcome}
use Rattle.vme_master.specs.declared.outcome.Outcome.TheVariants as outcomes
use Rattle.vme_master.specs.Tables.{Inputs, next_of}
use Rattle.vme_shared.specs.declared.outcome.SharedOutcome.TheVariants as shared
use Rattle.vme_shared.specs.declared.reply.LineReply.{LineReply}
use Rattle.vme_shared.specs.declared.reply.LineReply.TheVariants.{Transfer, Refused, Met, Timeout, Shared}
use Rattle.vme_shared.specs.Tables.{shared_next}
use Rattle.vme_grammar.specs.declared.line.Line.{Line}
use Rattle.vme_script.specs.Configurations.{Configuration}
use Rattle.vme_line_task.specs.Scripts.{Attempt, Transferring, Awaiting, Sharing, line_attempt}

-- a transfer or a local command: its outcome is the line's reply
abbrev pub transferring_next : NextStep Outcome → NextStep LineReply
transferring_next next = next_map Transfer next

-- the reply to a read that waits for bytes: Met if it read them, Timeout if it read others, else its outcome
abbrev pub await_reply : List ℕ → Outcome → LineReply
await_reply want (outcomes.Read bytes) = if bytes_eq bytes.items want then Met else Timeout
await_reply want outcome = Transfer outcome

-- a read that waits for bytes: the line's reply follows from the outcome of the read
abbrev pub awaiting_next : List ℕ → NextStep Outcome → NextStep LineReply
awaiting_next want next = next_map (await_reply want) next

-- a request to a lock or a mailbox: its outcome is the line's reply
abbrev pub sharing_next : NextStep SharedOutcome → NextStep LineReply
sharing_next next = next_map Shared next

-- what an attempt does next, by all that it was given
abbrev pub attempt_next : Attempt → Inputs → NextStep LineReply
attempt_next (Transferring job) given = transferring_next (next_of job given)
attempt_next (Awaiting job want) given = awaiting_next want (next_of job given)
attempt_next (Sharing s) given = sharing_next (shared_next s given)

-- the replies after which another attempt is made: other bytes were read, the lock was busy, or the mailbox was full or
-- empty
abbrev pub asks_again : LineReply → Bool
asks_again Timeout = true
asks_again (Shared shared.Busy) = true
asks_again (Shared shared.Full) = true
asks_again (Shared shared.Empty) = true
asks_again answer = false

-- the attempts at a line: what the current one was given, the newest first, and how many are left, the current one
-- among them
pub record AttemptsGiven : Type 0 where
  pub given : Inputs
  pub left : ℕ

-- whether an attempt has ended with a reply that asks for another
abbrev pub next_wants_retry : NextStep LineReply → Bool
next_wants_retry (Returns answer) = asks_again answer
next_wants_retry next = false

-- an attempt that asks for another is followed by the next, which begins at once, if one is left; any other reply is
-- the line's
abbrev pub next_attempt : AttemptsGiven → NextStep LineReply → AttemptsGiven
next_attempt made next =
    if next_wants_retry next && nat_lt 1 made.left then record { given = None ∷ []; left = made.left - 1 } else made

-- the attempts after one more reply, or an absent one
abbrev pub attempt_given : Attempt → Option EventReply → AttemptsGiven → AttemptsGiven
attempt_given attempt last made =
    next_attempt (record { given = last ∷ made.given; left = made.left }) (attempt_next attempt (last ∷ made.given))

-- the attempts, at most `tries`, by all that the line was given, the newest first
abbrev pub attempts_of : Attempt → ℕ → Inputs → AttemptsGiven
attempts_of attempt tries [] = record { given = []; left = tries }
attempts_of attempt tries (last ∷ before) = attempt_given attempt last (attempts_of attempt tries before)

-- a line does what its current attempt does; one whose request is refused has ended without a call
abbrev pub lawful_next : ℕ → Result Attempt CycleFault → Inputs → NextStep LineReply
lawful_next tries (Ok attempt) given = attempt_next attempt (attempts_of attempt tries given).given
lawful_next tries (Err fault) given = Returns (Refused fault)

-- what a line of a board's processor with so many attempts does next, by all that it was given, the newest first: the
-- reply to each call, or none
abbrev pub next_given_with : Configuration → ℕ → ℕ → Line → Inputs → NextStep LineReply
next_given_with config board tries line given = lawful_next tries (line_attempt config board line) given

-- what a line of a board's processor with as many attempts as the configuration has does next
unfoldable pub next_given : Configuration → ℕ → Line → Inputs → NextStep LineReply
next_given config board line given = next_given_with config board config.tries line given

-- what a line with these replies was given, the newest first: none at its first call
abbrev pub given_of : List EventReply → Inputs
given_of [] = None ∷ []
given_of (reply ∷ replies) = Some reply ∷ given_of replies

-- what a line of a board's processor does next, by the replies to its calls so far, the newest first
abbrev pub line_next : Configuration → ℕ → Line → List EventReply → NextStep LineReply
line_next config board line replies = next_given config board line (given_of replies)
