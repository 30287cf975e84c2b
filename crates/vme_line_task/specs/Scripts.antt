-- What the lines of a processor's script request.
use Rattle.std.specs.Prelude.{ℕ, ◌-◌, ◌<◌, ◌≤◌, List, [], length, map, slice_index_or, Option, Some, None, Result, Ok, Err}
use Rattle.vme_cycle.specs.declared.fault.CycleFault.{CycleFault}
use Rattle.vme_cycle.specs.declared.request.Request.TheVariants as requests
use Rattle.vme_cycle.specs.Lawful.{Transfer, transfer_of}
use Rattle.vme_master.specs.declared.job.Job.{Job}
use Rattle.vme_master.specs.Jobs.{bus_job, local_job}
use Rattle.vme_shared.specs.declared.request.SharedRequest.{SharedRequest}
use Rattle.vme_shared.specs.declared.request.SharedRequest.TheVariants as shared_requests
use Rattle.vme_shared.specs.declared.mailbox.Mailbox.{Mailbox}
use Rattle.vme_shared.specs.Mailboxes.{IsMailbox, shared_refusal}
use Rattle.vme_shared.specs.Tables.{SharedJob}
use Rattle.vme_grammar.specs.declared.line.Line.{Line}
use Rattle.vme_grammar.specs.declared.line.Line.TheVariants.{Bus, Local, Await, Lock, Unlock, Put, Take}
use Rattle.vme_script.specs.declared.script.ScriptLine.{ScriptLine}
use Rattle.vme_script.specs.Boards.{entries_of}
use Rattle.vme_script.specs.Configurations.{Configuration}

-- the slot of the board at an index, and of its processor
abbrev pub slot_at : Configuration → ℕ → ℕ
slot_at config board = slice_index_or (map (λ one. one.slot) config.boards) board 0

-- the level on which the processor of the board at an index requests the bus
abbrev pub level_at : Configuration → ℕ → ℕ
level_at config board = slice_index_or (map (λ one. one.level) config.boards) board 0

-- the script of the processor of the board at an index
abbrev pub script_at : Configuration → ℕ → List ScriptLine
script_at config board = slice_index_or config.scripts board []

-- what each line of the script of the board's processor requests, in order
abbrev pub lines_at : Configuration → ℕ → List Line
lines_at config board = map (λ one. one.line) (script_at config board)

-- the mailbox with a number; numbers start at 1
abbrev pub mailbox_at : Configuration → ℕ → Mailbox
mailbox_at config box = slice_index_or config.mailboxes (box - 1) (record { am = 0; addr = 0; slots = 0 })

-- the mailbox with a number exists and is well formed
pub record HasMailbox (config : Configuration) (box : ℕ) : Type 0 where
  pub first : 0 < box
  pub last : box ≤ length config.mailboxes
  pub is : IsMailbox (mailbox_at config box)

-- the mailbox that a line names exists, if it names one
abbrev pub HasItsMailbox : Configuration → Line → Type 0
HasItsMailbox config (Put box word) = HasMailbox config box
HasItsMailbox config (Take box) = HasMailbox config box
HasItsMailbox config line = Unit {0}

-- an attempt at a line: a transfer over the bus or a local command; a read that waits for these bytes; or a request to
-- a lock or a mailbox
pub data Attempt : Type 0 where
  Transferring : Job → Attempt
  Awaiting : Job → List ℕ → Attempt
  Sharing : SharedJob → Attempt

-- the bus job of a processor's lawful request
abbrev pub transfer_job : Configuration → ℕ → Transfer → Job
transfer_job config board t = bus_job (entries_of config.boards) (slot_at config board) (level_at config board) t

-- the attempt of a lawful request, by its transfer, or the refusal of the request
abbrev pub request_attempt : (Transfer → Attempt) → Result Transfer CycleFault → Result Attempt CycleFault
request_attempt attempt (Ok t) = Ok (attempt t)
request_attempt attempt (Err fault) = Err fault

-- an attempt, or its refusal if it has one
abbrev pub unless_refused : Attempt → Option CycleFault → Result Attempt CycleFault
unless_refused attempt None = Ok attempt
unless_refused attempt (Some fault) = Err fault

-- a processor's request to a lock or a mailbox
abbrev pub shared_job : Configuration → ℕ → SharedRequest → SharedJob
shared_job config board request = record {
  map = entries_of config.boards;
  slot = slot_at config board;
  level = level_at config board;
  request = request;
}

-- the attempt of a request to a lock or a mailbox, or its refusal
abbrev pub shared_attempt : Configuration → ℕ → SharedRequest → Result Attempt CycleFault
shared_attempt config board request = unless_refused (Sharing (shared_job config board request)) (shared_refusal request)

-- the attempt at a line of a board's processor: a transfer over the bus; a command to its own board's local port; a
-- read of the bytes that it waits for; or a request to a lock or a mailbox
abbrev pub line_attempt : Configuration → ℕ → Line → Result Attempt CycleFault
line_attempt config board (Bus request) = request_attempt (λ t. Transferring (transfer_job config board t)) (transfer_of request)
line_attempt config board (Local cmd) = Ok (Transferring (local_job board cmd))
line_attempt config board (Await am addr bytes) =
    request_attempt (λ t. Awaiting (transfer_job config board t) bytes.items)
    (transfer_of (requests.Read am addr (length bytes.items)))
line_attempt config board (Lock am addr) = shared_attempt config board (shared_requests.Lock am addr)
line_attempt config board (Unlock am addr) = shared_attempt config board (shared_requests.Unlock am addr)
line_attempt config board (Put box word) = shared_attempt config board (shared_requests.Put (mailbox_at config box) word)
line_attempt config board (Take box) = shared_attempt config board (shared_requests.Take (mailbox_at config box))
