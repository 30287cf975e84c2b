-- The command of a datum, as the event of its transfer shows it.
use Rattle.std.specs.Prelude.{ℕ, ◌≡◌, ◌+◌, ◌*◌, ◌<◌, ◌==◌, Bool, if◌then◌else◌, Option, Some, None}
use Rattle.vme_cycle.specs.Requests.{addr_of, count_of, datum_len, function_of}
use Rattle.vme_cycle.specs.Lawful.{Transfer, IsLawfulTransfer}
use Rattle.vme_cycle.specs.Plans.{signals_of}
use Rattle.vme_decode.specs.Select.{RespondsAt}
use Rattle.vme_memory.specs.Data.{datum_command}
use Rattle.vme_memory.specs.Steps.{command_of}
use Rattle.vme_core.specs.Calls.{Call, OnBoard}
use Rattle.vme_script.specs.Boards.{entries_of}
use Rattle.vme_script.specs.Configurations.{Configuration}
use Rattle.vme_script.specs.Lawful.{IsLawful}
use Rattle.vme_trace.specs.declared.observation.activity.TransferredDatum.{TransferredDatum}
use Rattle.vme_trace.specs.declared.observation.activity.Activity.{Activity}
use Rattle.vme_trace.specs.declared.observation.activity.Activity.TheVariants.{Transfers}
use Rattle.vme_trace_laws.specs.Transfers.{OpenTransfer, open_at}

-- an event shows the datum with a number of a lawful transfer, on the board that responds to its first byte: the datum's
-- signals and function, and whether it is the first or the last. The call is the datum's command, at the offset of that byte and
-- as many bytes more as the data before it have; in a lawful configuration that is the command of the signals there
pub record IsDatumShown (config : Configuration) (datum : TransferredDatum) (call : Call) : Type 0 where
  pub transfer : Transfer
  pub lawful : IsLawfulTransfer transfer
  pub number : ℕ
  pub more : number < count_of transfer.request
  pub signals : datum.signals ≡ signals_of transfer number
  pub function : datum.function ≡ function_of transfer.request
  pub first : datum.first ≡ (number == 0)
  pub last : datum.last ≡ (number + 1 == count_of transfer.request)
  pub offset : ℕ
  pub responds : RespondsAt (entries_of config.boards) transfer.am (addr_of transfer.request) datum.board offset
  pub own :
      call ≡ OnBoard datum.board (Some (datum_command transfer.request number (offset + number * datum_len transfer.request)))
  pub sensed :
      IsLawful config
      → call ≡ OnBoard datum.board (command_of datum.signals (offset + number * datum_len transfer.request) datum.function)

-- the event of a transfer shows its datum
abbrev pub IsTransferShown : Configuration → Activity → Call → Type 0
IsTransferShown config (Transfers datum) call = IsDatumShown config datum call
IsTransferShown config activity call = Unit {0}

-- the event of a transfer shows the first datum of one, if none is open, or else the next datum of the open transfer, which is
-- then open with one datum more, or has ended with the event; any other event leaves the open transfer
abbrev pub GoesOn : (config : Configuration) → Option OpenTransfer → ℕ → Bool → (activity : Activity) → (call : Call)
    → IsTransferShown config activity call
    → Option OpenTransfer
    → Type 0
GoesOn config going board ended (Transfers datum) call shown next =
    (going ≡ (if datum.first then None else Some (open_at board shown.transfer shown.number)))
    × (next ≡ (if ended then None else Some (open_at board shown.transfer (shown.number + 1))))
GoesOn config going board ended activity call shown next = next ≡ going
