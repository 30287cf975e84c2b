-- The handshakes of an event: AS* is high before them if the transfer begins, and after them if it ends.
use Rattle.std.proofs.Common.{◌≡◌, ℕ, ◌+◌, ◌==◌, ◌&&◌, ◌||◌, Bool, true, false, not, Option, Some, None, is_some, refl, ap, sym, ◌∙◌, arith, inl, inr}
use Rattle.std.specs.Prelude.{nat_lt, is_none, if◌then◌else◌}
use Rattle.std.specs.Option.{option_map}
use Rattle.std.proofs.lemmas.Bool.{cases_Bool, false≢true, ltb-true, ltb-false, eq-eqb, ne_eqb, and_parts}
use Rattle.vme_cycle.specs.declared.modify.Modify.{Modify}
use Rattle.vme_cycle.specs.declared.request.Request.{Request}
use Rattle.vme_cycle.specs.declared.request.Request.TheVariants as requests
use Rattle.vme_cycle.specs.SignalLines.{SignalLines}
use Rattle.vme_cycle.specs.Requests.{count_of, function_of}
use Rattle.vme_memory.specs.declared.reply.Reply.{Reply}
use Rattle.vme_memory.specs.declared.reply.Reply.TheVariants.{Bytes, Done, Berr}
use Rattle.vme_master.specs.declared.job.BusJob.{BusJob}
use Rattle.vme_master.specs.declared.job.Job.TheVariants.{Bus}
use Rattle.vme_master.specs.declared.phase.Phase.TheVariants.{Transferring, Releasing}
use Rattle.vme_master.specs.Machine.{datum_phase, phase_replied}
use Rattle.vme_core.specs.declared.event.EventReply.{EventReply}
use Rattle.vme_trace.specs.declared.observation.activity.TransferredDatum.{TransferredDatum}
use Rattle.vme_trace.specs.declared.observation.activity.Activity.{Activity}
use Rattle.vme_trace.specs.Handshakes.{first_handshake, second_handshake, half_by, half_of, half_handshake, is_berr, has_address_phase, first_of_datum, second_of_datum}
use Rattle.vme_trace.specs.Slots.{ends_with}
use Rattle.vme_trace_laws.proofs.turns.Views.{is_amid}

-- whether a transfer ends with what a processor is shown to do
abbrev pub ended_by : Activity → EventReply → Bool
ended_by activity reply = ends_with (first_handshake activity reply) || ends_with (second_handshake activity reply)

-- twice not
pub not_not : (b : Bool) → not (not b) ≡ b
not_not true = refl
not_not false = refl

-- or not at all
pub or_none : (b : Bool) → b || false ≡ b
or_none true = refl
or_none false = refl

-- or at any rate
or_sure : (b : Bool) → b || true ≡ true
or_sure true = refl
or_sure false = refl

-- AS* is high before the handshakes of a datum exactly if it is the first
pub first_opens : (d : TransferredDatum) (reply : Reply) → (first_of_datum d reply).opens ≡ d.first
first_opens d reply =
    elim (cases_Bool (has_address_phase d)) [
      | inl phase ↦ rw phase (sym (and_parts d.first d.signals.am.wide phase).0)
      | inr plain ↦ rw plain refl
    ]

-- a datum has a write half only in a read-modify-write
half_modifies : (s : SignalLines) (f : Option Modify) (reply : Reply) (half : SignalLines) → half_by s f reply ≡ Some half → is_some f ≡ true
half_modifies s None reply half is = absurd (cc is)
half_modifies s (Some f) reply half is = refl

-- AS* is high after the handshakes of a datum without an address phase exactly if a bus error or the last datum ends the transfer
half_ends : (d : TransferredDatum) (reply : Reply) (half : Option SignalLines) → half_of d reply ≡ half → (is_some d.function ≡ true → d.last ≡ true)
    → (is_none half && (is_berr reply || d.last)) || ends_with (option_map half_handshake half) ≡ is_berr reply || d.last
half_ends d reply None is modifies = or_none (is_berr reply || d.last)
half_ends d reply (Some half) is modifies =
    sym (ap (λ last. is_berr reply || last) (modifies (half_modifies d.signals d.function reply half is)) ∙ or_sure (is_berr reply))

-- AS* is high after the handshakes of a datum exactly if a bus error or the last datum ends the transfer
pub datum_ends : (d : TransferredDatum) (reply : Reply) → (is_some d.function ≡ true → d.last ≡ true)
    → ends_with (Some (first_of_datum d reply)) || ends_with (second_of_datum d reply) ≡ is_berr reply || d.last
datum_ends d reply modifies =
    elim (cases_Bool (has_address_phase d)) [
      | inl phase ↦ rw phase refl
      | inr plain ↦ rw plain (half_ends d reply (half_of d reply) refl modifies)
    ]

-- the only datum is the last
only_last : (i : ℕ) → nat_lt i 1 ≡ true → (i + 1 == 1) ≡ true
only_last i less = eq-eqb (i + 1) 1 (omega (arith, ltb-true i 1 less))

-- the datum of a read-modify-write is its last
pub modify_last : (request : Request) (i : ℕ) → nat_lt i (count_of request) ≡ true → is_some (function_of request) ≡ true → (i + 1 == count_of request) ≡ true
modify_last (requests.Read am addr n) i less some = absurd (false≢true some)
modify_last (requests.Write am addr bytes) i less some = absurd (false≢true some)
modify_last (requests.BlockRead am addr n count) i less some = absurd (false≢true some)
modify_last (requests.BlockWrite am addr n bytes) i less some = absurd (false≢true some)
modify_last (requests.BlockFill am addr n count bytes) i less some = absurd (false≢true some)
modify_last (requests.Modify am addr n f) i less some = only_last i less

-- the next phase is amid the transfer if there is a next datum
next_amid_by : (i count : ℕ) (more : Bool) → nat_lt i count ≡ true → nat_lt (i + 1) count ≡ more
    → is_amid (if more then Transferring (i + 1) else Releasing None) ≡ not (i + 1 == count)
next_amid_by i count true less is =
    ap not (ne_eqb (i + 1) 0 (λ same. absurd (omega (arith, same))))
    ∙ sym (ap not (ne_eqb (i + 1) count (λ same. absurd (omega (arith, same, ltb-true (i + 1) count is)))))
next_amid_by i count false less is =
    sym (ap not (eq-eqb (i + 1) count (omega (arith, ltb-true i count less, ltb-false (i + 1) count is))))

-- the phase after a datum is amid the transfer unless it was the last
next_amid : (job : BusJob) (place : Option (ℕ × ℕ)) (i : ℕ) → is_some place ≡ true → nat_lt i (count_of job.transfer.request) ≡ true
    → is_amid (datum_phase job place (i + 1)) ≡ not (i + 1 == count_of job.transfer.request)
next_amid job None i some less = absurd (false≢true some)
next_amid job (Some p) i some less =
    next_amid_by i (count_of job.transfer.request) (nat_lt (i + 1) (count_of job.transfer.request)) less refl

-- the phase after a reply is amid the transfer unless a bus error or the last datum has ended it
pub replied_amid : (job : BusJob) (i : ℕ) (reply : Reply) → is_some job.place ≡ true → nat_lt i (count_of job.transfer.request) ≡ true
    → is_amid (phase_replied (Bus job) i reply) ≡ not (is_berr reply || (i + 1 == count_of job.transfer.request))
replied_amid job i (Bytes datum) some less = next_amid job job.place i some less
replied_amid job i Done some less = next_amid job job.place i some less
replied_amid job i Berr some less = refl
