-- Defines the transfers of one datum that C starts and runs in one call.
use Rattle.std.specs.Prelude.{ℕ, ◌≡◌, ◌⊎◌, Option, Some, None}
use Rattle.vme_cycle.specs.declared.request.Request.{Request}
use Rattle.vme_memory.specs.declared.reply.Reply.{Reply}
use Rattle.vme_core.specs.declared.event.EventReply.TheVariants as replies
use Rattle.vme_processor.specs.declared.processor.Processor.{Processor}
use Rattle.vme_processor.specs.declared.run.Met.{Met}
use Rattle.vme_processor.specs.Singles.{EndsTransfer, KeepsTransfer}
use Rattle.vme_c_types.specs.declared.datum.VmeDatum.{VmeDatum}
use Rattle.vme_c_types.specs.Results as numbers
use Rattle.vme_machine_ffi.specs.declared.calls.Called.TheVariants as called
use Rattle.vme_machine_ffi.specs.Calls.{number_of, Writes}
use Rattle.vme_machine_ffi.specs.Transfers.{StartsNot}
use Rattle.vme_machine_ffi.specs.Steps.{NumbersMet}

-- the number of the end of a transfer, by the reply of the board that responds, if one does
abbrev pub end_number : Option Reply → ℕ
end_number (Some reply) = number_of (called.Reply (replies.Board reply))
end_number None = numbers.no_board

-- what the end of a transfer writes: the bytes that the reply has, and otherwise nothing
abbrev pub WritesEnd : Option Reply → VmeDatum → VmeDatum → Type 0
WritesEnd (Some reply) old new = Writes (called.Reply (replies.Board reply)) old new
WritesEnd None old new = new ≡ old

-- a transfer that has ended, with this reply of the board that responds, if one does
pub record HasEnded (request : Request) (reply : Option Reply) (result : ℕ) (p q : Processor) : Type 0 where
  pub ends : EndsTransfer request reply p q
  pub number : result ≡ end_number reply

-- a transfer that the processor has: it goes on, or was denied
pub record GoesOn (request : Request) (result : ℕ) (p q : Processor) : Type 0 where
  pub what : Met
  pub keeps : KeepsTransfer request what p q
  pub number : NumbersMet what q result

-- a transfer in one call of an open processor: it has ended with a reply, goes on without one, or was not started
abbrev pub TransfersBy : Request → Option Reply → ℕ → Processor → Processor → Type 0
TransfersBy request reply result p q =
    HasEnded request reply result p q ⊎ (reply ≡ None) × (GoesOn request result p q ⊎ StartsNot request result p q)

-- the same, and the bytes that C gets
pub record TransfersAs (request : Request) (result : ℕ) (old new : VmeDatum) (p q : Processor) : Type 0 where
  pub reply : Option Reply
  pub transfers : TransfersBy request reply result p q
  pub bytes : WritesEnd reply old new

-- the same, of a transfer that writes no bytes for C
pub record TransfersDone (request : Request) (result : ℕ) (p q : Processor) : Type 0 where
  pub reply : Option Reply
  pub transfers : TransfersBy request reply result p q
