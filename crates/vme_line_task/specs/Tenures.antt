-- The arbiter's last reply to a line, by the replies to the line so far; and the replies that are no denial.
use Rattle.std.specs.Prelude.{ℕ, ◌≢◌, IsTrue, List, Option, Some, None, Result, Ok, Err}
use Rattle.vme_cycle.specs.declared.fault.CycleFault.{CycleFault}
use Rattle.vme_memory.specs.Steps.{Command, LocalRead, LocalWrite, LocalModify}
use Rattle.vme_arbiter.specs.declared.command.ArbReply.{ArbReply}
use Rattle.vme_arbiter.specs.declared.command.ArbReply.TheVariants as arb_replies
use Rattle.vme_core.specs.declared.event.EventReply.{EventReply}
use Rattle.vme_core.specs.declared.event.EventReply.TheVariants as event_replies
use Rattle.vme_core.specs.Calls.{Call}
use Rattle.vme_master.specs.declared.job.Job.{Job}
use Rattle.vme_master.specs.declared.job.Job.TheVariants.{Bus, Local}
use Rattle.vme_master.specs.Jobs.{fits_call}
use Rattle.vme_master.specs.Tables.{Inputs}
use Rattle.vme_master.specs.Laws.{last_arb_reply}
use Rattle.vme_master.specs.declared.outcome.Outcome.TheVariants as outcomes
use Rattle.vme_shared.specs.declared.outcome.SharedOutcome.TheVariants as shared
use Rattle.vme_shared.specs.declared.reply.LineReply.{LineReply}
use Rattle.vme_shared.specs.declared.reply.LineReply.TheVariants.{Transfer, Shared}
use Rattle.vme_shared.specs.Tables.{shared_arb_reply}
use Rattle.vme_grammar.specs.declared.line.Line.{Line}
use Rattle.vme_script.specs.Configurations.{Configuration}
use Rattle.vme_line_task.specs.Scripts.{Attempt, Transferring, Awaiting, Sharing, line_attempt}
use Rattle.vme_line_task.specs.Tables.{attempts_of, given_of}

-- the arbiter's last reply to a job, if there was one; a local command has none
abbrev pub job_arb_reply : Job → Inputs → Option ArbReply
job_arb_reply (Bus job) given = last_arb_reply given
job_arb_reply (Local job) given = None

-- the arbiter's last reply to an attempt, if there was one
abbrev pub attempt_arb_reply : Attempt → Inputs → Option ArbReply
attempt_arb_reply (Transferring job) given = job_arb_reply job given
attempt_arb_reply (Awaiting job want) given = job_arb_reply job given
attempt_arb_reply (Sharing s) given = shared_arb_reply s given

-- the arbiter's last reply to the current attempt at a line, if there was one
abbrev pub lawful_arb_reply : ℕ → Result Attempt CycleFault → Inputs → Option ArbReply
lawful_arb_reply tries (Ok attempt) given = attempt_arb_reply attempt (attempts_of attempt tries given).given
lawful_arb_reply tries (Err fault) given = None

-- the arbiter's last reply to the current attempt at a line, if there was one, by the replies to the line so far
unfoldable pub line_arb_reply : Configuration → ℕ → Line → List EventReply → Option ArbReply
line_arb_reply config board line replies = lawful_arb_reply config.tries (line_attempt config board line) (given_of replies)

-- a command of a board's local port
abbrev pub IsLocal : Option Command → Type 0
IsLocal (Some (LocalRead at n)) = Unit {0}
IsLocal (Some (LocalWrite at new)) = Unit {0}
IsLocal (Some (LocalModify at n f)) = Unit {0}
IsLocal command = ⊥

-- a reply that fits a call, and is no denial of the arbiter
pub record IsUndeniedReply (call : Call) (reply : EventReply) : Type 0 where
  pub fit : IsTrue (fits_call call reply)
  pub granted : reply ≢ event_replies.Bus arb_replies.Denied

-- a line's reply that is no denial
abbrev pub IsGranted : LineReply → Type 0
IsGranted answer = (answer ≢ Transfer outcomes.Denied) × (answer ≢ Shared shared.Denied)
