-- Defines which lines name a mailbox, the words that their replies report, and when a line leaves a mailbox alone.
use Rattle.std.specs.Prelude.{ℕ, ◌≡◌, ◌%◌, ◌^◌, Bool, false, ◌==◌, if◌then◌else◌, List, [], ◌∷◌, ◌++◌, Some, None}
use Rattle.vme_core.specs.declared.event.EventReply.{EventReply}
use Rattle.vme_core.specs.Calls.{OnBoard}
use Rattle.vme_core.specs.NextSteps.{Invokes}
use Rattle.vme_memory.specs.Steps.{Command}
use Rattle.vme_shared.specs.MailboxSteps.{BoardMailbox, touches}
use Rattle.vme_shared.specs.declared.outcome.SharedOutcome.TheVariants as shared
use Rattle.vme_shared.specs.declared.reply.LineReply.{LineReply}
use Rattle.vme_shared.specs.declared.reply.LineReply.TheVariants.{Shared}
use Rattle.vme_shared.specs.Mailboxes.{IsMailbox, mailbox_refusal}
use Rattle.vme_mailbox_laws.specs.Along.{LiesAt, taken_by_outcome}
use Rattle.vme_grammar.specs.declared.line.Line.{Line}
use Rattle.vme_grammar.specs.declared.line.Line.TheVariants.{Put, Take}
use Rattle.vme_script.specs.Boards.{entries_of}
use Rattle.vme_script.specs.Configurations.{Configuration}
use Rattle.vme_line_task.specs.Scripts.{mailbox_at, lines_at}
use Rattle.vme_line_task.specs.Tables.{line_next}

-- whether a line is a put or a take of the mailbox with this number
abbrev pub names : ℕ → Line → Bool
names box (Put other word) = other == box
names box (Take other) = other == box
names box line = false

-- the word that a line reports as put by its reply, as four bytes
abbrev pub put_by_reply : Line → LineReply → List ℕ
put_by_reply (Put box word) (Shared shared.Put) = word % 2 ^ 32 ∷ []
put_by_reply line answer = []

-- the word that a line reports as taken by its reply
abbrev pub taken_by_reply : LineReply → List ℕ
taken_by_reply (Shared outcome) = taken_by_outcome outcome
taken_by_reply answer = []

-- the words that lines report as put into a mailbox, in order
abbrev pub lines_put : ℕ → List Line → List LineReply → List ℕ
lines_put box (line ∷ lines) (answer ∷ answers) =
    (if names box line then put_by_reply line answer else []) ++ lines_put box lines answers
lines_put box lines answers = []

-- the words that lines report as taken from a mailbox, in order
abbrev pub lines_taken : ℕ → List Line → List LineReply → List ℕ
lines_taken box (line ∷ lines) (answer ∷ answers) =
    (if names box line then taken_by_reply answer else []) ++ lines_taken box lines answers
lines_taken box lines answers = []

-- no command of a line to a board touches a mailbox there
abbrev pub LeavesAlone : Configuration → ℕ → Line → ℕ → BoardMailbox → Type 0
LeavesAlone config who line board m =
    (replies : List EventReply) (command : Command) → line_next config who line replies ≡ Invokes (OnBoard board (Some command))
    → touches m command ≡ false

-- each of these lines names the mailbox with this number or leaves it alone
abbrev pub AllLeave : Configuration → ℕ → ℕ → ℕ → BoardMailbox → List Line → Type 0
AllLeave config who box board m [] = Unit {0}
AllLeave config who box board m (line ∷ lines) =
    (names box line ≡ false → LeavesAlone config who line board m) × AllLeave config who box board m lines

-- the mailbox with this number lies in a board, is not refused, and is left alone by all lines that do not name it
pub record IsMailboxOf (config : Configuration) (box board : ℕ) (m : BoardMailbox) : Type 0 where
  pub lies : LiesAt (entries_of config.boards) (mailbox_at config box) board m
  pub formed : IsMailbox (mailbox_at config box)
  pub lawful : mailbox_refusal (mailbox_at config box) ≡ None
  pub others : (who : ℕ) → AllLeave config who box board m (lines_at config who)
