-- Defines the transfers of C over the bus.
use Rattle.std.specs.Prelude.{ℕ, ◌≡◌, ◌⊎◌, ◌<◌, ◌≤◌, List, [], ◌++◌, length, drop, Option, Some, None, Result, Ok, Err}
use Rattle.vme_cycle.specs.declared.request.Request.{Request}
use Rattle.vme_master.specs.declared.outcome.Outcome.{Outcome}
use Rattle.vme_master.specs.declared.outcome.Outcome.TheVariants as outcomes
use Rattle.vme_processor.specs.declared.processor.Processor.{Processor}
use Rattle.vme_processor.specs.declared.transfer.StartFault.{StartFault}
use Rattle.vme_processor.specs.declared.transfer.StartFault.TheVariants.{Running, OutOfMemory, Refused}
use Rattle.vme_processor.specs.Processors.{KeepsPlace}
use Rattle.vme_processor.specs.Transfers.{Starts, IsWhy}
use Rattle.vme_c_types.specs.Results as numbers
use Rattle.vme_machine_ffi.specs.Results as results

-- the number of a start that fails
abbrev pub start_number : StartFault → ℕ
start_number Running = numbers.bad_call
start_number OutOfMemory = numbers.no_memory
start_number (Refused fault) = numbers.refusal_number fault

-- a start that fails: the processor is unchanged
pub record StartsNot (request : Request) (result : ℕ) (p q : Processor) : Type 0 where
  pub fault : StartFault
  pub why : IsWhy request p fault
  pub number : result ≡ start_number fault
  pub unchanged : q ≡ p

-- a start that succeeds
pub record StartsOk (request : Request) (result : ℕ) (p q : Processor) : Type 0 where
  pub number : result ≡ numbers.ok
  pub started : Starts request p q
  pub place : KeepsPlace p q

-- a start of a request, or of none because of a number
abbrev pub StartsAs : Result Request ℕ → ℕ → Processor → Processor → Type 0
StartsAs (Ok request) result p q = StartsOk request result p q ⊎ StartsNot request result p q
StartsAs (Err number) result p q = (result ≡ number) × (q ≡ p)

-- the number of a step by the outcome of the transfer, or another one if it has not ended
abbrev pub Ends : Option Outcome → ℕ → ℕ → Type 0
Ends (Some (outcomes.Read bytes)) other result = result ≡ numbers.ok
Ends (Some outcomes.Done) other result = result ≡ numbers.ok
Ends (Some (outcomes.Old bytes)) other result = result ≡ numbers.ok
Ends (Some (outcomes.Berr count bytes)) other result = (result ≡ numbers.bus_error) ⊎ (result ≡ numbers.no_board)
Ends (Some outcomes.Denied) other result = result ≡ results.denied
Ends None other result = result ≡ other

-- the bytes of an outcome, if there is one
abbrev pub bytes_of : Option Outcome → List ℕ
bytes_of (Some (outcomes.Read bytes)) = bytes.items
bytes_of (Some outcomes.Done) = []
bytes_of (Some (outcomes.Old bytes)) = bytes.items
bytes_of (Some (outcomes.Berr count bytes)) = bytes.items
bytes_of (Some outcomes.Denied) = []
bytes_of None = []

-- a copy of bytes to the head of a buffer, if they fit, and their number in any case
pub record Copies (bytes old new : List ℕ) (count result : ℕ) : Type 0 where
  pub number : count ≡ length bytes
  pub fits : length bytes ≤ length old → (result ≡ numbers.ok) × (new ≡ bytes ++ drop (length bytes) old)
  pub short : length old < length bytes → (result ≡ numbers.bad_call) × (new ≡ old)
