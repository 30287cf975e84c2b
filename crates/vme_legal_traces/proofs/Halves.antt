-- The strobes and the level of WRITE* of the handshakes of a datum.
use Rattle.std.proofs.Common.{◌≡◌, ℕ, Bool, true, false, ◌&&◌, ◌||◌, if◌then◌else◌, Option, Some, None, is_none, refl, ap, sym, ◌∙◌}
use Rattle.std.specs.Option.{option_map}
use Rattle.std.proofs.lemmas.Option.{same_Some}
use Rattle.vme_lanes.specs.declared.location.Strobes.{Strobes}
use Rattle.vme_lanes.specs.Rows.{row_of}
use Rattle.vme_cycle.specs.declared.modify.Modify.{Modify}
use Rattle.vme_cycle.specs.declared.request.Request.{Request}
use Rattle.vme_cycle.specs.declared.request.Request.TheVariants as requests
use Rattle.vme_cycle.specs.Functions.{value, has_len}
use Rattle.vme_cycle.specs.Requests.{count_of, datum_of, function_of, is_block_request}
use Rattle.vme_cycle.specs.Lawful as cycles
use Rattle.vme_cycle.specs.Lawful.{IsLawfulTransfer}
use Rattle.vme_cycle.specs.SignalLines.{SignalLines, answered_lines}
use Rattle.vme_cycle.specs.Plans.{own_location, signals_of}
use Rattle.vme_memory.specs.declared.reply.Reply.{Reply}
use Rattle.vme_memory.specs.declared.reply.Reply.TheVariants.{Bytes, Done, Berr}
use Rattle.vme_protocol.specs.declared.sample.Sample.{Sample}
use Rattle.vme_trace.specs.declared.observation.activity.TransferredDatum.{TransferredDatum}
use Rattle.vme_trace.specs.declared.dump.handshake.Handshake.{Handshake}
use Rattle.vme_trace.specs.Handshakes.{is_data_len, is_berr, half_by, half_of, half_handshake, has_address_phase, first_of_datum}
use Rattle.vme_legal_traces.proofs.Located.{level_for, same_level}
use Rattle.vme_legal_traces.proofs.Leveled.{IsAnswered}
use Rattle.vme_legal_traces.proofs.Answering.{HasStrobes}

-- a read-modify-write has one datum, is no block, and reads
pub modifies : (request : Request) (f : Modify) → function_of request ≡ Some f
    → (count_of request ≡ 1) × (is_none (datum_of request 0) ≡ true) × (is_block_request request ≡ false)
modifies (requests.Read am addr n) f is = absurd (cc is)
modifies (requests.Write am addr bytes) f is = absurd (cc is)
modifies (requests.BlockRead am addr n count) f is = absurd (cc is)
modifies (requests.BlockWrite am addr n bytes) f is = absurd (cc is)
modifies (requests.BlockFill am addr n count bytes) f is = absurd (cc is)
modifies (requests.Modify am addr n g) f is = (refl, refl, refl)

-- the write half of a read-modify-write: its function, and no BERR* before it
pub half_parts : (s : SignalLines) (f : Option Modify) (reply : Reply) (half : SignalLines) → half_by s f reply ≡ Some half
    → (g : Modify) × (f ≡ Some g) × (is_berr reply ≡ false)
half_parts s (Some f) (Bytes old) half is = by_len (is_data_len s old.items) (has_len f _) is
  where
    by_len : (fits has : Bool)
        → ((if fits && has then Some (record (answered_lines s (value f old.items)) { write = false }) else None) ≡ Some half)
        → (g : Modify) × (Some f ≡ Some g) × (false ≡ false)
    by_len true true is = (f, refl, refl)
    by_len true false is = absurd (cc is)
    by_len false has is = absurd (cc is)
half_parts s None (Bytes old) half is = absurd (cc is)
half_parts s (Some f) Done half is = absurd (cc is)
half_parts s None Done half is = absurd (cc is)
half_parts s (Some f) Berr half is = absurd (cc is)
half_parts s None Berr half is = absurd (cc is)

-- a choice that is one
pub found_map : (found : Option SignalLines) (u : Handshake) → option_map half_handshake found ≡ Some u → (lines : SignalLines) × (found ≡ Some lines) × (half_handshake lines ≡ u)
found_map None u is = absurd (cc is)
found_map (Some lines) u is = (lines, refl, same_Some _ _ is)

-- a choice that is none
pub none_map : (found : Option SignalLines) → option_map half_handshake found ≡ None → found ≡ None
none_map None is = refl
none_map (Some lines) is = absurd (cc is)

-- neither test holds
pub neither : (a b : Bool) → (a || b) ≡ false → a ≡ false
neither false b h = refl
neither true b h = absurd cc

-- two tests that hold
pub both_hold : (a b : Bool) → (a && b) ≡ true → (a ≡ true) × (b ≡ true)
both_hold true b h = (refl, h)
both_hold false b h = absurd cc

-- a single handshake that does not end the transfer is not answered by BERR*
pub one_goes : (d : TransferredDatum) (reply : Reply) → has_address_phase d ≡ false → half_of d reply ≡ None → (first_of_datum d reply).ends ≡ false
    → (first_of_datum d reply).berr ≡ false
one_goes d reply plain none goes =
    let ends : (first_of_datum d reply).ends ≡ (is_none (half_of d reply) && (is_berr reply || d.last)) = rw plain refl in
    let berr : (first_of_datum d reply).berr ≡ is_berr reply = rw plain refl in
    berr ∙ neither (is_berr reply) d.last (sym (ap (λ (found : Option SignalLines). is_none found && (is_berr reply || d.last)) none) ∙ sym ends ∙ goes)

-- the signals of each datum have the strobes of its location
ds1_of : (t : cycles.Transfer) (i : ℕ) → (signals_of t i).strobes.ds1 ≡ (row_of (own_location t i)).strobes.ds1
unfolding signals_of
ds1_of t i = refl

-- of DS0* too
ds0_of : (t : cycles.Transfer) (i : ℕ) → (signals_of t i).strobes.ds0 ≡ (row_of (own_location t i)).strobes.ds0
unfolding signals_of
ds0_of t i = refl

-- and the level of WRITE* of the first
pub write_of : (t : cycles.Transfer) (i : ℕ) → (signals_of t i).write ≡ level_for t
unfolding signals_of
write_of t i = same_level t.request i

-- a sample at the answer of a handshake has the strobes of its datum
pub strobes_from : (t : cycles.Transfer) (i : ℕ) (lines : SignalLines) (berr : Bool) (s : Sample) → IsAnswered lines berr s → lines.strobes ≡ (signals_of t i).strobes
    → HasStrobes t i s
strobes_from t i lines berr s is same = record {
  ds1 = is.ds1 ∙ ap (λ (x : Strobes). x.ds1) same ∙ ds1_of t i;
  ds0 = is.ds0 ∙ ap (λ (x : Strobes). x.ds0) same ∙ ds0_of t i;
}
