-- Defines the commands of a put or a take to the board of its mailbox: where the mailbox lies, and the phases that the
-- commands lead through.
use Rattle.std.specs.Prelude.{ℕ, ◌≡◌, ◌≢◌, ◌+◌, ◌%◌, ◌^◌, ◌<◌, ◌≤◌, nat_lt, max, min, Bool, ◌==◌, if◌then◌else◌, List, [], ◌∷◌, ◌++◌, Option, Some, None, Ok, IsTrue}
use Rattle.vme_am.specs.Codes.{CodeRow, read_code}
use Rattle.vme_decode.specs.declared.entry.Entry.{Entry}
use Rattle.vme_decode.specs.Select.{selection_at}
use Rattle.vme_memory.specs.declared.reply.Reply.TheVariants.{Berr}
use Rattle.vme_memory.specs.Steps.{Command}
use Rattle.vme_arbiter.specs.declared.command.ArbReply.TheVariants.{Denied}
use Rattle.vme_core.specs.declared.event.EventReply.{EventReply}
use Rattle.vme_core.specs.declared.event.EventReply.TheVariants as replies
use Rattle.vme_core.specs.Calls.{OnBoard}
use Rattle.vme_core.specs.NextSteps.{NextStep, NotStarted, Invokes, Returns}
use Rattle.vme_master.specs.Jobs.{fits_call}
use Rattle.vme_master.specs.Tables.{Inputs}
use Rattle.vme_shared.specs.Layout.{mailbox_len}
use Rattle.vme_shared.specs.MailboxSteps.{BoardMailbox, end_of, offset_of, len_of}
use Rattle.vme_shared.specs.Phases.{Phase, Idle, First, after_command}
use Rattle.vme_shared.specs.declared.mailbox.Mailbox.{Mailbox}
use Rattle.vme_shared.specs.declared.outcome.SharedOutcome.{SharedOutcome}
use Rattle.vme_shared.specs.declared.outcome.SharedOutcome.TheVariants as shared
use Rattle.vme_shared.specs.declared.request.SharedRequest.{SharedRequest}
use Rattle.vme_shared.specs.declared.request.SharedRequest.TheVariants as shared_requests
use Rattle.vme_shared.specs.Mailboxes.{IsWellFormed, shared_refusal}
use Rattle.vme_shared.specs.Tables.{SharedJob, shared_next}

-- the mailbox of a put or a take
abbrev pub mailbox_in : SharedRequest → Option Mailbox
mailbox_in (shared_requests.Lock am addr) = None
mailbox_in (shared_requests.Unlock am addr) = None
mailbox_in (shared_requests.Put mailbox word) = Some mailbox
mailbox_in (shared_requests.Take mailbox) = Some mailbox

-- a mailbox lies in a board of a map: each of its addresses selects the board, at the same distance from the first byte
pub record LiesAt (map : List Entry) (mailbox : Mailbox) (board : ℕ) (m : BoardMailbox) : Type 0 where
  pub slots : m.slots ≡ mailbox.slots
  pub each :
      (code : CodeRow) (k : ℕ) → read_code mailbox.am ≡ Ok code → k < mailbox_len m.slots
      → selection_at map code (mailbox.addr + k) ≡ Some (board, m.offset + k)

-- a put or a take that is not refused uses the mailbox `m` of a board
pub record UsesMailbox (s : SharedJob) (board : ℕ) (m : BoardMailbox) : Type 0 where
  pub mailbox : Mailbox
  pub asked : mailbox_in s.request ≡ Some mailbox
  pub lies : LiesAt s.map mailbox board m
  pub formed : IsWellFormed s.request
  pub started : shared_refusal s.request ≡ None

-- a reply is good: it is absent at the first call; later it fits the call and is neither a bus error nor a denial
abbrev pub IsGood : NextStep SharedOutcome → Option EventReply → Type 0
IsGood NotStarted last = last ≡ None
IsGood (Invokes call) None = ⊥
IsGood (Invokes call) (Some reply) = IsTrue (fits_call call reply) × (reply ≢ replies.Board Berr) × (reply ≢ replies.Bus Denied)
IsGood (Returns outcome) last = Unit {0}

-- all replies given to a put or a take are good
abbrev pub AllGood : SharedJob → Inputs → Type 0
AllGood s [] = Unit {0}
AllGood s (last ∷ before) = IsGood (shared_next s before) last × AllGood s before

-- the phase after a call and its reply: a command to the board changes the phase, and every other call keeps it
abbrev pub phase_given : BoardMailbox → ℕ → NextStep SharedOutcome → Option EventReply → Option Phase → Option Phase
phase_given m board (Invokes (OnBoard x command)) (Some (replies.Board reply)) phase =
    if x == board then after_command m phase command reply else phase
phase_given m board next last phase = phase

-- the phase that a put's or take's commands to the board lead to, from idle on
abbrev pub phase_along : BoardMailbox → ℕ → SharedJob → Inputs → Option Phase
phase_along m board s [] = Some Idle
phase_along m board s (last ∷ before) = phase_given m board (shared_next s before) last (phase_along m board s before)

-- the words that the commands of a put or a take to the board have put or taken
abbrev pub words_given : (Option Phase → Option Phase → List ℕ) → BoardMailbox → ℕ → SharedJob → Inputs → List ℕ
words_given by m board s [] = []
words_given by m board s (last ∷ before) =
    words_given by m board s before ++ by (phase_along m board s before) (phase_along m board s (last ∷ before))

-- if the phase is that after reading the put count, the count is a number of four bytes
abbrev pub IsCount : Option Phase → Type 0
IsCount (Some (First p)) = p < 2 ^ 32
IsCount phase = Unit {0}

-- each put count that a put or a take has read is a number of four bytes
abbrev pub AllCounts : BoardMailbox → ℕ → SharedJob → Inputs → Type 0
AllCounts m board s [] = Unit {0}
AllCounts m board s (last ∷ before) = IsCount (phase_along m board s (last ∷ before)) × AllCounts m board s before

-- the words that a put reports by its outcome: its word, as four bytes, if it was put
abbrev pub put_by_outcome : SharedOutcome → SharedRequest → List ℕ
put_by_outcome shared.Put (shared_requests.Put mailbox word) = word % 2 ^ 32 ∷ []
put_by_outcome outcome request = []

-- the words that a take reports by its outcome
abbrev pub taken_by_outcome : SharedOutcome → List ℕ
taken_by_outcome (shared.Took word) = word ∷ []
taken_by_outcome outcome = []

-- a command goes to the board and the offset that a code and an address select
pub record GoesTo (map : List Entry) (am addr board : ℕ) (command_at : ℕ → Command) (command : Option Command) : Type 0 where
  pub code : CodeRow
  pub row : read_code am ≡ Ok code
  pub offset : ℕ
  pub selected : selection_at map code addr ≡ Some (board, offset)
  pub own : command ≡ Some (command_at offset)

-- all bytes of a command are bytes of a mailbox
pub record IsWithin (m : BoardMailbox) (command : Command) : Type 0 where
  pub from : m.offset ≤ offset_of command
  pub to : offset_of command + len_of command ≤ end_of m

-- whether two mailboxes of a board share a byte: the greater offset is below the lesser end
abbrev pub overlap : BoardMailbox → BoardMailbox → Bool
overlap a b = nat_lt (max a.offset b.offset) (min (end_of a) (end_of b))
