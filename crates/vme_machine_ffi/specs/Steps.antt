-- Defines a step of a processor for C.
use Rattle.std.specs.Prelude.{ℕ, ◌≡◌, Option, Some, None, Result, Ok, Err}
use Rattle.vme_core.specs.declared.event.EventReply.{EventReply}
use Rattle.vme_master.specs.declared.outcome.Outcome.{Outcome}
use Rattle.vme_shared.specs.declared.outcome.SharedOutcome.{SharedOutcome}
use Rattle.vme_processor.specs.declared.processor.Processor.{Processor}
use Rattle.vme_processor.specs.declared.transfer.StepFault.{StepFault}
use Rattle.vme_processor.specs.declared.transfer.StepFault.TheVariants.{Busy, Spent, NoBoard}
use Rattle.vme_processor.specs.declared.run.Met.{Met}
use Rattle.vme_processor.specs.declared.run.Met.TheVariants as met
use Rattle.vme_processor.specs.Runs.{Stepped, Runs, met_of}
use Rattle.vme_processor.specs.Transfers.{outcome_of}
use Rattle.vme_processor.specs.Shared.{shared_outcome_of}
use Rattle.vme_c_types.specs.declared.datum.VmeDatum.{VmeDatum}
use Rattle.vme_c_types.specs.Results as numbers
use Rattle.vme_machine_ffi.specs.declared.calls.Called.TheVariants as called
use Rattle.vme_machine_ffi.specs.Calls.{number_of, Writes}
use Rattle.vme_machine_ffi.specs.Results as results
use Rattle.vme_machine_ffi.specs.Transfers.{Ends}
use Rattle.vme_machine_ffi.specs.Shared.{EndsShared}

-- the number of a step by the outcome of what was started last, or another one if it has not ended
abbrev pub EndsWork : Option SharedOutcome → Option Outcome → ℕ → ℕ → Type 0
EndsWork (Some outcome) transfer other result = EndsShared outcome result
EndsWork None transfer other result = Ends transfer other result

-- the same, by the processor
abbrev pub EndsOr : Processor → ℕ → ℕ → Type 0
EndsOr q other result = EndsWork (shared_outcome_of q) (outcome_of q) other result

-- the number of a step by what it came to
abbrev pub NumbersMet : Met → Processor → ℕ → Type 0
NumbersMet met.Event q result = EndsOr q results.more result
NumbersMet met.Waiting q result = EndsOr q results.waiting result
NumbersMet met.Freed q result = EndsOr q results.more result
NumbersMet met.Nothing q result = EndsOr q numbers.bad_call result
NumbersMet met.Busy q result = result ≡ results.busy
NumbersMet met.Spent q result = result ≡ results.spent
NumbersMet met.NoBoard q result = result ≡ results.bad_state

-- one step of an open processor
pub record StepsAs (result : ℕ) (p q : Processor) : Type 0 where
  pub stepped : Result (Option EventReply) StepFault
  pub step : Stepped stepped p q
  pub number : NumbersMet (met_of stepped) q result

-- steps of an open processor with one event each, and after them one step, whose number is the result
pub record RunsAs (result : ℕ) (p q : Processor) : Type 0 where
  pub what : Met
  pub runs : Runs what p q
  pub number : NumbersMet what q result

-- the number of the reply of a step, or of what it met in its place
abbrev pub reply_number : Result (Option EventReply) StepFault → ℕ
reply_number (Ok (Some reply)) = number_of (called.Reply reply)
reply_number (Ok None) = numbers.bad_call
reply_number (Err Busy) = results.busy
reply_number (Err Spent) = results.spent
reply_number (Err NoBoard) = results.bad_state

-- the bytes of the reply of a step, if it has any, and otherwise nothing
abbrev pub WritesReply : Result (Option EventReply) StepFault → VmeDatum → VmeDatum → Type 0
WritesReply (Ok (Some reply)) old new = Writes (called.Reply reply) old new
WritesReply (Ok None) old new = new ≡ old
WritesReply (Err fault) old new = new ≡ old

-- one step of an open processor, whose reply C gets too
pub record StepsWithReply (result code : ℕ) (old new : VmeDatum) (p q : Processor) : Type 0 where
  pub stepped : Result (Option EventReply) StepFault
  pub step : Stepped stepped p q
  pub number : NumbersMet (met_of stepped) q result
  pub reply : code ≡ reply_number stepped
  pub bytes : WritesReply stepped old new
