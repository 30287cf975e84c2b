-- The commands of a line that is neither a put nor a take are among the bytes that the line names.
use Rattle.std.proofs.Common.{◌≡◌, ℕ, List, length, Option, Some, None, Result, Ok, Err, refl, ap, sym, ◌∙◌, arith}
use Rattle.std.specs.Prelude.{option_map}
use Rattle.vme_cycle.specs.declared.fault.CycleFault.{CycleFault}
use Rattle.vme_cycle.specs.declared.request.Request.{Request}
use Rattle.vme_cycle.specs.Requests.{code_of, addr_of, span_of}
use Rattle.vme_cycle.specs.Lawful.{Transfer, transfer_of}
use Rattle.vme_cycle.proofs.lemmas.Transfers.{comes_from}
use Rattle.vme_decode.specs.declared.entry.Entry.{Entry}
use Rattle.vme_decode.specs.Select.{selection_at}
use Rattle.vme_memory.specs.declared.command.BoardCmd.{BoardCmd}
use Rattle.vme_memory.specs.declared.command.BoardCmd.TheVariants as given
use Rattle.vme_memory.specs.Steps.{Command, LocalRead, LocalWrite, LocalModify}
use Rattle.vme_core.specs.Calls.{Call, OnBoard}
use Rattle.vme_master.specs.Jobs.{local_job}
use Rattle.vme_master.proofs.lemmas.Locals.{local_calls}
use Rattle.vme_shared.specs.MailboxSteps.{offset_of, len_of}
use Rattle.vme_shared.specs.declared.request.SharedRequest.{SharedRequest}
use Rattle.vme_shared.specs.declared.request.SharedRequest.TheVariants as shared_requests
use Rattle.vme_shared.specs.Mailboxes.{set_lock, clear_lock, refusal_in, shared_refusal}
use Rattle.vme_mailbox_laws.specs.Along.{GoesTo}
use Rattle.vme_mailbox_laws.proofs.Datums.{taken, lock_cleared}
use Rattle.vme_grammar.specs.Grammar.{IsOwnLine}
use Rattle.vme_grammar.specs.declared.line.Line.TheVariants as lines
use Rattle.vme_script.specs.declared.board_range.BoardRange.{BoardRange}
use Rattle.vme_script.specs.Bytes.{transfer_bytes, request_bytes, local_range}
use Rattle.vme_script.specs.Boards.{entries_of}
use Rattle.vme_script.specs.Configurations.{Configuration}
use Rattle.vme_line_task.specs.Scripts.{Transferring, Awaiting, Sharing, slot_at, level_at, transfer_job, request_attempt, unless_refused, shared_job, shared_attempt}
use Rattle.vme_mailbox_laws.proofs.Apart.{IsAmong}
use Rattle.vme_mailbox_laws.proofs.DataApart.{sent}
use Rattle.vme_mailbox_laws.proofs.CallsApart.{JobCalls, SharedCalls, Calls}

-- a command to a board is among the bytes of a range, if there is one
abbrev pub Among : Option BoardRange → ℕ → Command → Type 0
Among named x c = (bytes : BoardRange) × (named ≡ Some bytes) × IsAmong bytes x c

-- a command of a transfer over the bus is among the bytes that its request names
by_transfer : (config : Configuration) (who : ℕ) (request : Request) (x : ℕ) (c : Command) (t : Transfer)
    → transfer_of request ≡ Ok t → JobCalls (transfer_job config who t) (OnBoard x (Some c))
    → Among (request_bytes (entries_of config.boards) request) x c
by_transfer config who request x c t is calls =
    sent (entries_of config.boards) (slot_at config who) (level_at config who) request t calls.0 x c is calls.1

-- a command of a line that is a transfer is among the bytes that its request names
pub bus_sends : (config : Configuration) (who : ℕ) (request : Request) (x : ℕ) (c : Command)
    → Calls (request_attempt (λ t. Transferring (transfer_job config who t)) (transfer_of request)) (OnBoard x (Some c))
    → Among (request_bytes (entries_of config.boards) request) x c
bus_sends config who request x c calls = by_result (transfer_of request) refl calls
  where
    by_result : (result : Result Transfer CycleFault) → transfer_of request ≡ result
        → Calls (request_attempt (λ t. Transferring (transfer_job config who t)) result) (OnBoard x (Some c))
        → Among (request_bytes (entries_of config.boards) request) x c
    by_result (Ok t) is calls = by_transfer config who request x c t is calls
    by_result (Err fault) is calls = absurd calls

-- a command of a line that waits for bytes is among the bytes that its request names
pub await_sends : (config : Configuration) (who : ℕ) (request : Request) (want : List ℕ) (x : ℕ) (c : Command)
    → Calls (request_attempt (λ t. Awaiting (transfer_job config who t) want) (transfer_of request)) (OnBoard x (Some c))
    → Among (request_bytes (entries_of config.boards) request) x c
await_sends config who request want x c calls = by_result (transfer_of request) refl calls
  where
    by_result : (result : Result Transfer CycleFault) → transfer_of request ≡ result
        → Calls (request_attempt (λ t. Awaiting (transfer_job config who t) want) result) (OnBoard x (Some c))
        → Among (request_bytes (entries_of config.boards) request) x c
    by_result (Ok t) is calls = by_transfer config who request x c t is calls
    by_result (Err fault) is calls = absurd calls

-- a command to the local port of the processor's own board is among its own bytes
local_one : (who offset len x : ℕ) (c own : Command) → offset_of own ≡ offset → len_of own ≡ len
    → OnBoard x (Some c) ≡ OnBoard who (Some own) → Among (Some (record { board = who; offset = offset; len = len })) x c
local_one who offset len x c own at long same =
    let here : x ≡ who = cc in
    let is : c ≡ own = cc in
    let place : offset_of c ≡ offset = ap offset_of is ∙ at in
    let count : len_of c ≡ len = ap len_of is ∙ long in (
      record { board = who; offset = offset; len = len },
      refl,
      record { there = sym here; from = omega arith; upto = omega arith },
    )

-- a command of a line for the local port is among the bytes that the line names
pub local_sends : (who : ℕ) (cmd : BoardCmd) (x : ℕ) (c : Command) → IsOwnLine (lines.Local cmd)
    → JobCalls (local_job who cmd) (OnBoard x (Some c)) → Among (local_range who cmd) x c
local_sends who (given.LocalRead offset n) x c own calls =
    local_one who offset n x c (LocalRead offset n) refl refl
    (local_calls (record { board = who; cmd = given.LocalRead offset n }) calls.0 (OnBoard x (Some c)) calls.1)
local_sends who (given.LocalWrite offset bytes) x c own calls =
    local_one who offset (length bytes.items) x c (LocalWrite offset bytes.items) refl refl
    (local_calls (record { board = who; cmd = given.LocalWrite offset bytes }) calls.0 (OnBoard x (Some c)) calls.1)
local_sends who (given.LocalModify offset n f) x c own calls =
    local_one who offset n x c (LocalModify offset n f) refl refl
    (local_calls (record { board = who; cmd = given.LocalModify offset n f }) calls.0 (OnBoard x (Some c)) calls.1)
local_sends who (given.Cycle signals at f) x c own calls = absurd own

-- a call of a lock or a mailbox is one of its job, and its request is not refused
pub shared_calls : (config : Configuration) (who : ℕ) (request : SharedRequest) (call : Call)
    → Calls (shared_attempt config who request) call
    → SharedCalls (shared_job config who request) call × (shared_refusal request ≡ None)
shared_calls config who request call calls = by_refusal (shared_refusal request) refl calls
  where
    by_refusal : (refusal : Option CycleFault) → shared_refusal request ≡ refusal
        → Calls (unless_refused (Sharing (shared_job config who request)) refusal) call
        → SharedCalls (shared_job config who request) call × (shared_refusal request ≡ None)
    by_refusal None is calls = (calls, is)
    by_refusal (Some fault) is calls = absurd calls

-- a request that is not refused has a transfer
transfer_there : (request : Request) → refusal_in (transfer_of request) ≡ None → (t : Transfer) × (transfer_of request ≡ Ok t)
transfer_there request none = by_result (transfer_of request) refl none
  where
    by_result : (result : Result Transfer CycleFault) → transfer_of request ≡ result → refusal_in result ≡ None
        → (t : Transfer) × (transfer_of request ≡ Ok t)
    by_result (Ok t) is none = (t, is)
    by_result (Err fault) is none = absurd cc

-- a command at the board and the offset that a request selects is among its bytes
goes_among : (entries : List Entry) (request : Request) (x : ℕ) (command_at : ℕ → Command) (c : Command)
    → ((at : ℕ) → (offset_of (command_at at) ≡ at) × (len_of (command_at at) ≡ span_of request))
    → refusal_in (transfer_of request) ≡ None
    → GoesTo entries (code_of request) (addr_of request) x command_at (Some c) → Among (request_bytes entries request) x c
unfolding request_bytes
goes_among entries request x command_at c each none to =
    let lawful = transfer_there request none in
    let from = comes_from request lawful.0 lawful.1 in
    let row : Ok to.code ≡ Ok lawful.0.am = sym to.row ∙ from.row in
    let code : to.code ≡ lawful.0.am = cc in
    let found : selection_at entries lawful.0.am (addr_of lawful.0.request) ≡ Some (x, to.offset) =
    ap (λ r. selection_at entries lawful.0.am (addr_of r)) from.same
    ∙ ap (λ m. selection_at entries m (addr_of request)) (sym code)
    ∙ to.selected in
    let own : Some c ≡ Some (command_at to.offset) = to.own in
    let is : c ≡ command_at to.offset = cc in
    let place : offset_of c ≡ to.offset = ap offset_of is ∙ (each to.offset).0 in
    let count : len_of c ≡ span_of lawful.0.request = ap len_of is ∙ (each to.offset).1 ∙ ap span_of (sym from.same) in (
      record { board = x; offset = to.offset; len = span_of lawful.0.request },
      ap (transfer_bytes entries) lawful.1
          ∙ ap (option_map (λ one. record { board = one.0; offset = one.1; len = span_of lawful.0.request })) found,
      record { there = refl; from = omega arith; upto = omega arith },
    )

-- the command that sets a lock is among the bytes of the read-modify-write
pub lock_sends : (config : Configuration) (who am addr x : ℕ) (c : Command)
    → Calls (shared_attempt config who (shared_requests.Lock am addr)) (OnBoard x (Some c))
    → Among (request_bytes (entries_of config.boards) (set_lock am addr)) x c
lock_sends config who am addr x c calls =
    let own = shared_calls config who (shared_requests.Lock am addr) (OnBoard x (Some c)) calls in
    goes_among (entries_of config.boards) (set_lock am addr) x _ c (λ at. (refl, refl)) own.1
    (taken (shared_job config who (shared_requests.Lock am addr)) own.0.0 am addr x (Some c) refl own.0.1)

-- the command that clears a lock is among the bytes of the write
pub unlock_sends : (config : Configuration) (who am addr x : ℕ) (c : Command)
    → Calls (shared_attempt config who (shared_requests.Unlock am addr)) (OnBoard x (Some c))
    → Among (request_bytes (entries_of config.boards) (clear_lock am addr)) x c
unlock_sends config who am addr x c calls =
    let own = shared_calls config who (shared_requests.Unlock am addr) (OnBoard x (Some c)) calls in
    goes_among (entries_of config.boards) (clear_lock am addr) x _ c (λ at. (refl, refl)) own.1
    (lock_cleared (shared_job config who (shared_requests.Unlock am addr)) own.0.0 am addr x (Some c) refl own.0.1)
