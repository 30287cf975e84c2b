-- Defines the locks and mailboxes of C.
use Rattle.std.specs.Prelude.{ℕ, ◌≡◌, ◌⊎◌, Option, Some, None, Result, Ok, Err}
use Rattle.vme_cycle.specs.declared.modify.Modify.TheVariants as functions
use Rattle.vme_cycle.specs.declared.request.Request.{Request}
use Rattle.vme_cycle.specs.declared.request.Request.TheVariants as cycles
use Rattle.vme_master.specs.CurrentData.{DatumAt}
use Rattle.vme_shared.specs.declared.mailbox.Mailbox.{Mailbox}
use Rattle.vme_shared.specs.declared.outcome.SharedOutcome.{SharedOutcome}
use Rattle.vme_shared.specs.declared.outcome.SharedOutcome.TheVariants as outcomes
use Rattle.vme_shared.specs.declared.request.SharedRequest.{SharedRequest}
use Rattle.vme_shared.specs.Mailboxes.{IsMailbox}
use Rattle.vme_processor.specs.declared.processor.Processor.{Processor}
use Rattle.vme_processor.specs.declared.transfer.StartFault.{StartFault}
use Rattle.vme_processor.specs.Processors.{KeepsPlace}
use Rattle.vme_processor.specs.Shared.{StartsShared, IsSharedWhy}
use Rattle.vme_c_types.specs.declared.datum.VmeDatum.{VmeDatum}
use Rattle.vme_c_types.specs.declared.request.VmeRequest.{VmeRequest}
use Rattle.vme_c_types.specs.Data.{datum_of}
use Rattle.vme_c_types.specs.Results as numbers
use Rattle.vme_machine_ffi.specs.declared.mailbox.VmeMailbox.{VmeMailbox}
use Rattle.vme_machine_ffi.specs.Requests.{read_request, write_request, modify_request}
use Rattle.vme_machine_ffi.specs.Results as results
use Rattle.vme_machine_ffi.specs.Transfers.{start_number}

-- the mailbox of a struct
abbrev pub mailbox_of : VmeMailbox → Mailbox
mailbox_of m = record { am = m.am; addr = m.addr; slots = m.slots }

-- the mailbox of a struct, or C13
abbrev pub ReadsMailbox : VmeMailbox → Result Mailbox ℕ → Type 0
ReadsMailbox m (Ok mailbox) = (mailbox ≡ mailbox_of m) × IsMailbox (mailbox_of m)
ReadsMailbox m (Err number) = (number ≡ results.bad_mailbox) × (IsMailbox (mailbox_of m) → ⊥)

-- the request of a put or a take, or C13
abbrev pub AsksMailbox : VmeMailbox → SharedRequest → Result SharedRequest ℕ → Type 0
AsksMailbox m asked (Ok request) = (request ≡ asked) × IsMailbox (mailbox_of m)
AsksMailbox m asked (Err number) = (number ≡ results.bad_mailbox) × (IsMailbox (mailbox_of m) → ⊥)

-- a start that fails: the processor is unchanged
pub record StartsNotShared (request : SharedRequest) (result : ℕ) (p q : Processor) : Type 0 where
  pub fault : StartFault
  pub why : IsSharedWhy request p fault
  pub number : result ≡ start_number fault
  pub unchanged : q ≡ p

-- a start that succeeds
pub record StartsSharedOk (request : SharedRequest) (result : ℕ) (p q : Processor) : Type 0 where
  pub number : result ≡ numbers.ok
  pub started : StartsShared request p q
  pub place : KeepsPlace p q

-- a start of a request to a lock or a mailbox, or of none because of a number
abbrev pub StartsSharedAs : Result SharedRequest ℕ → ℕ → Processor → Processor → Type 0
StartsSharedAs (Ok request) result p q = StartsSharedOk request result p q ⊎ StartsNotShared request result p q
StartsSharedAs (Err number) result p q = (result ≡ number) × (q ≡ p)

-- the number of a step after which a lock, an unlock, a put or a take has this outcome
abbrev pub EndsShared : SharedOutcome → ℕ → Type 0
EndsShared outcomes.Taken result = result ≡ numbers.ok
EndsShared outcomes.Unlocked result = result ≡ numbers.ok
EndsShared outcomes.Busy result = result ≡ results.held
EndsShared outcomes.Put result = result ≡ numbers.ok
EndsShared (outcomes.Took word) result = result ≡ numbers.ok
EndsShared outcomes.Full result = result ≡ results.full
EndsShared outcomes.Empty result = result ≡ results.empty
EndsShared outcomes.Spent result = result ≡ results.spent
EndsShared outcomes.Berr result = (result ≡ numbers.bus_error) ⊎ (result ≡ numbers.no_board)
EndsShared outcomes.Denied result = result ≡ results.denied

-- the word of an outcome, if a take has taken one, and otherwise nothing
abbrev pub WritesWord : Option SharedOutcome → ℕ → ℕ → ℕ → Type 0
WritesWord None old new result = (result ≡ numbers.bad_call) × (new ≡ old)
WritesWord (Some outcomes.Taken) old new result = (result ≡ numbers.bad_call) × (new ≡ old)
WritesWord (Some outcomes.Unlocked) old new result = (result ≡ numbers.bad_call) × (new ≡ old)
WritesWord (Some outcomes.Busy) old new result = (result ≡ numbers.bad_call) × (new ≡ old)
WritesWord (Some outcomes.Put) old new result = (result ≡ numbers.bad_call) × (new ≡ old)
WritesWord (Some (outcomes.Took word)) old new result = (result ≡ numbers.ok) × (new ≡ word)
WritesWord (Some outcomes.Full) old new result = (result ≡ numbers.bad_call) × (new ≡ old)
WritesWord (Some outcomes.Empty) old new result = (result ≡ numbers.bad_call) × (new ≡ old)
WritesWord (Some outcomes.Spent) old new result = (result ≡ numbers.bad_call) × (new ≡ old)
WritesWord (Some outcomes.Berr) old new result = (result ≡ numbers.bad_call) × (new ≡ old)
WritesWord (Some outcomes.Denied) old new result = (result ≡ numbers.bad_call) × (new ≡ old)

-- nothing is written
abbrev pub ShowsNone : VmeRequest → VmeRequest → VmeDatum → VmeDatum → ℕ → Type 0
ShowsNone old new from to result = (result ≡ numbers.bad_call) × (new ≡ old) × (to ≡ from)

-- the request of a transfer of a lock or a mailbox: one that starts the same transfer
abbrev pub ShowsRequest : Request → VmeRequest → VmeRequest → VmeDatum → VmeDatum → ℕ → Type 0
ShowsRequest (cycles.Read am addr n) old new from to result =
    (result ≡ numbers.ok) × (read_request new ≡ cycles.Read am addr n) × (to ≡ from)
ShowsRequest (cycles.Write am addr bytes) old new from to result =
    (result ≡ numbers.ok) × (write_request new (datum_of to) ≡ cycles.Write am addr bytes)
ShowsRequest (cycles.Modify am addr n functions.Set) old new from to result =
    (result ≡ numbers.ok) × (modify_request new new.f ≡ cycles.Modify am addr n functions.Set) × (to ≡ from)
ShowsRequest (cycles.Modify am addr n (functions.Exchange with)) old new from to result = ShowsNone old new from to result
ShowsRequest (cycles.Modify am addr n (functions.Add with)) old new from to result = ShowsNone old new from to result
ShowsRequest (cycles.Modify am addr n (functions.Compare expect put)) old new from to result = ShowsNone old new from to result
ShowsRequest (cycles.BlockRead am addr n count) old new from to result = ShowsNone old new from to result
ShowsRequest (cycles.BlockWrite am addr n bytes) old new from to result = ShowsNone old new from to result
ShowsRequest (cycles.BlockFill am addr n count bytes) old new from to result = ShowsNone old new from to result

-- the same, of the datum of a lock, an unlock, a put or a take that has not ended
abbrev pub Shows : Option DatumAt → VmeRequest → VmeRequest → VmeDatum → VmeDatum → ℕ → Type 0
Shows (Some datum) old new from to result = ShowsRequest datum.transfer.request old new from to result
Shows None old new from to result = ShowsNone old new from to result
