-- AS* over a run: it is low exactly if a transfer is open.
use Rattle.std.proofs.Common.{◌≡◌, ℕ, ◌-◌, ◌<◌, ◌≤◌, ◌||◌, Bool, true, false, if◌then◌else◌, Option, Some, None, is_some, refl, ap, sym, subst, ◌∙◌, arith}
use Rattle.std.specs.Prelude.{flat_map}
use Rattle.std.specs.List.{range_with_len}
use Rattle.std.specs.Option.{option_map}
use Rattle.std.proofs.lemmas.Bool.{ne_eqb, le-leb}
use Rattle.vme_memory.specs.declared.reply.Reply.{Reply}
use Rattle.vme_cycle.specs.SignalLines.{SignalLines}
use Rattle.vme_core.specs.declared.event.EventReply.{EventReply}
use Rattle.vme_core.specs.declared.event.EventReply.TheVariants as replies
use Rattle.vme_trace.specs.declared.observation.activity.TransferredDatum.{TransferredDatum}
use Rattle.vme_trace.specs.declared.observation.activity.Activity.{Activity}
use Rattle.vme_trace.specs.declared.observation.activity.Activity.TheVariants.{Requests, Polls, Releases, Transfers, Local, Other}
use Rattle.vme_trace.specs.declared.observation.Observation.{Observation}
use Rattle.vme_trace.specs.declared.dump.change.Code.{Code}
use Rattle.vme_trace.specs.declared.dump.change.Value.{Value}
use Rattle.vme_trace.specs.declared.dump.change.Value.TheVariants.{Low, High}
use Rattle.vme_trace.specs.declared.dump.handshake.Handshake.{Handshake}
use Rattle.vme_trace.specs.Variables.{bus_code}
use Rattle.vme_trace.specs.Handshakes.{edge_of, half_of, half_handshake, has_address_phase, first_of_datum, second_of_datum, first_handshake, second_handshake}
use Rattle.vme_trace.specs.Bus.{some_handshake_changes}
use Rattle.vme_trace.specs.Slots.{ends_with, has_ended, end_edge, slot_changes}
use Rattle.vme_trace.specs.Events.{name_changes, holder_changes, request_line_changes, bus_changes, event_changes}
use Rattle.vme_trace_laws.specs.Shown.{address_strobe}
use Rattle.vme_trace.specs.Shown.{is_code, value_after, value_at}
use Rattle.vme_trace_laws.proofs.waves.Afters.{silent, after_append}
use Rattle.vme_trace_laws.proofs.waves.Pulses.{pulse}
use Rattle.vme_trace_laws.proofs.waves.Groups.{address_strobe_after}
use Rattle.vme_trace_laws.proofs.waves.Quiet.{none_quiet, each_quiet}
use Rattle.vme_trace_laws.proofs.waves.Values.{pulse_at, at_pulse, pulse_late}
use Rattle.vme_trace_laws.proofs.waves.Events.{name_quiet, holder_quiet, request_line_quiet}
use Rattle.vme_trace_laws.proofs.waves.Slots.{bus_quiet}
use Rattle.vme_trace_laws.proofs.turns.Handshakes.{or_none}

-- whether AS* falls in a handshake, if there is one
abbrev pub opens_with : Option Handshake → Bool
opens_with None = false
opens_with (Some t) = t.opens

-- the edge at which AS* rises, if there is a second handshake or none
abbrev rise_edge : Option Handshake → ℕ
rise_edge second = if is_some second then 16 else 7

-- the letters of the lines of a cycle are others than those before them
apart : (a : ℕ) → a ≤ 72 → is_code (bus_code 73) (bus_code a) ≡ false
apart a below = ne_eqb a 73 (λ same. absurd (omega (arith, same, below)))

-- AS* is moved by the handshakes of an event alone
strobe_parts : (boards n : ℕ) (o : Observation) (k : ℕ) (v : Value)
    → value_after (bus_code 73) k (event_changes boards n o) v
    ≡ value_after (bus_code 73) k (some_handshake_changes (second_handshake o.activity o.reply))
    (value_after (bus_code 73) k (some_handshake_changes (first_handshake o.activity o.reply)) v)
unfolding event_changes bus_changes
strobe_parts boards n o k v =
    let code : Code = bus_code 73 in
    let first = some_handshake_changes (first_handshake o.activity o.reply) in
    let second = some_handshake_changes (second_handshake o.activity o.reply) in
    after_append code k (bus_changes n o) (flat_map (slot_changes o) (range_with_len 0 boards)) v
    ∙ each_quiet code (slot_changes o) (range_with_len 0 boards) (λ j. bus_quiet 73 o j) k (value_after code k (bus_changes n o) v)
    ∙ silent code k (name_changes n o) _ v (name_quiet code n o refl refl k v)
    ∙ silent code k (holder_changes o) _ v (holder_quiet code o refl refl k v)
    ∙ silent code k (request_line_changes o) _ v (request_line_quiet code o (λ level. apart (72 - level) (omega arith)) k v)
    ∙ after_append code k first second v

-- the handshakes of an event: none, one that is early, or an early one that goes on in a late one
abbrev pub ArePaired : Option Handshake → Option Handshake → Type 0
ArePaired None None = Unit {0}
ArePaired None (Some u) = ⊥
ArePaired (Some t) None = t.late ≡ false
ArePaired (Some t) (Some u) = (t.ends ≡ false) × (u.late ≡ true) × (u.opens ≡ false)

-- the handshakes of a datum without an address phase
half_paired : (d : TransferredDatum) (reply : Reply) (half : Option SignalLines) → has_address_phase d ≡ false → half_of d reply ≡ half
    → ArePaired (Some (first_of_datum d reply)) (option_map half_handshake half)
half_paired d reply None plain is = rw plain refl
half_paired d reply (Some lines) plain is = (rw plain (rw is refl), refl, refl)

-- the handshakes of a datum
datum_paired : (d : TransferredDatum) (reply : Reply) (phase : Bool) → has_address_phase d ≡ phase
    → ArePaired (Some (first_of_datum d reply)) (second_of_datum d reply)
datum_paired d reply true phase = rw phase (refl, refl, refl)
datum_paired d reply false plain =
    let second : second_of_datum d reply ≡ option_map half_handshake (half_of d reply) = rw plain refl in
    subst (ArePaired (Some (first_of_datum d reply))) (sym second) (half_paired d reply (half_of d reply) plain refl)

-- the handshakes of an event
pub event_paired : (activity : Activity) (reply : EventReply) → ArePaired (first_handshake activity reply) (second_handshake activity reply)
event_paired Requests reply = tt
event_paired Polls reply = tt
event_paired (Releases None) reply = tt
event_paired (Releases (Some s)) reply = refl
event_paired (Transfers d) (replies.Board reply) = datum_paired d reply (has_address_phase d) refl
event_paired (Transfers d) (replies.Bus reply) = tt
event_paired (Local cmd) reply = tt
event_paired Other reply = tt

-- AS* after the changes of an edge of both handshakes
pair_after : (first second : Option Handshake) → ArePaired first second → (k : ℕ) (v : Value)
    → value_after (bus_code 73) k (some_handshake_changes second) (value_after (bus_code 73) k (some_handshake_changes first) v)
    ≡ pulse Low High (opens_with first) (ends_with first || ends_with second) 1 (rise_edge second) k v
pair_after None None pair k v = none_quiet (bus_code 73) k _ ∙ none_quiet (bus_code 73) k v
pair_after None (Some u) pair k v = absurd pair
pair_after (Some t) None pair k v =
    none_quiet (bus_code 73) k _ ∙ address_strobe_after k t v ∙ rw pair (ap (λ ends. pulse Low High t.opens ends 1 7 k v) (sym (or_none t.ends)))
pair_after (Some t) (Some u) pair k v =
    ap (value_after (bus_code 73) k (some_handshake_changes (Some u))) (address_strobe_after k t v)
    ∙ address_strobe_after k u (pulse Low High t.opens t.ends 1 (edge_of t 6) k v)
    ∙ rw (pair.0, pair.1, pair.2) refl

-- the rise of AS* comes after its fall
rise_order : (second : Bool) → 1 < (if second then 16 else 7)
rise_order true = omega arith
rise_order false = omega arith

-- and before the end of the event
rise_within : (second : Bool) → (if second then 16 else 7) ≤ 19
rise_within true = omega arith
rise_within false = omega arith

module _ (boards n : ℕ) (o : Observation) where
  -- AS* at an edge of an event
  pub strobe_at : (k : ℕ) (v : Value) → value_at address_strobe (event_changes boards n o) v k
      ≡ pulse_at Low High (opens_with (first_handshake o.activity o.reply)) (has_ended o) 1 (end_edge o) k v
  strobe_at k v =
      at_pulse address_strobe (event_changes boards n o) Low High v (opens_with (first_handshake o.activity o.reply)) (has_ended o) 1 (end_edge o)
      (rise_order (is_some (second_handshake o.activity o.reply)))
      (λ j w. strobe_parts boards n o j w
      ∙ pair_after (first_handshake o.activity o.reply) (second_handshake o.activity o.reply) (event_paired o.activity o.reply) j w) k

  -- AS* after an event
  pub strobe_last : (v : Value) → value_at address_strobe (event_changes boards n o) v 19
      ≡ (if has_ended o then High else (if opens_with (first_handshake o.activity o.reply) then Low else v))
  strobe_last v =
      strobe_at 19 v
      ∙ pulse_late Low High v (opens_with (first_handshake o.activity o.reply)) (has_ended o) 1 (end_edge o) 19 refl
      (le-leb (end_edge o) 19 (rise_within (is_some (second_handshake o.activity o.reply))))

-- an event without a first handshake has no second one
second_none : (first second : Option Handshake) → ArePaired first second → first ≡ None → ends_with first || ends_with second ≡ false
second_none None None pair is = refl
second_none None (Some u) pair is = absurd pair
second_none (Some t) second pair is = absurd (cc is)

-- a transfer does not end in an event without a handshake
pub none_ends : (o : Observation) → first_handshake o.activity o.reply ≡ None → has_ended o ≡ false
none_ends o none =
    second_none (first_handshake o.activity o.reply) (second_handshake o.activity o.reply) (event_paired o.activity o.reply) none
