-- AS* is low only while the slot of the transfer's board drives BBSY*.
use Rattle.std.proofs.Common.{◌≡◌, ℕ, ◌+◌, ◌<◌, ◌==◌, ◌&&◌, ◌||◌, Bool, true, false, not, if◌then◌else◌, List, ◌∷◌, ◌++◌, length, Option, Some, None, is_some, refl, ap, sym, ◌∙◌, arith, inl, inr}
use Rattle.std.specs.Prelude.{nat_le}
use Rattle.std.specs.Option.{option_map_or}
use Rattle.std.proofs.lemmas.Bool.{cases_Bool, ne_eqb, eq-eqb, leb-false, lt-leb, and_right}
use Rattle.vme_core.specs.declared.event.EventReply.{EventReply}
use Rattle.vme_script.specs.Configurations.{Configuration}
use Rattle.vme_script.specs.Lawful.{IsLawful}
use Rattle.vme_line_task.specs.Scripts.{slot_at}
use Rattle.vme_stepper.specs.Turns.{initial_state}
use Rattle.vme_trace.specs.declared.observation.activity.Activity.{Activity}
use Rattle.vme_trace.specs.declared.observation.activity.Activity.TheVariants.{Requests, Polls, Releases, Transfers, Local, Other}
use Rattle.vme_trace.specs.declared.observation.Observation.{Observation}
use Rattle.vme_trace.specs.Observations.{observations}
use Rattle.vme_trace.specs.declared.dump.change.Value.{Value}
use Rattle.vme_trace.specs.declared.dump.change.Value.TheVariants.{Low, High}
use Rattle.vme_trace.specs.declared.dump.handshake.Handshake.{Handshake}
use Rattle.vme_trace.specs.Changes.{level_of}
use Rattle.vme_trace.specs.Handshakes.{first_handshake, second_handshake}
use Rattle.vme_trace.specs.Slots.{releases, release_edge, grant_edge, is_granted, ends_with}
use Rattle.vme_trace_laws.specs.Shown.{address_strobe}
use Rattle.vme_trace_laws.proofs.waves.Pulses.{not_both}
use Rattle.vme_trace_laws.proofs.waves.Values.{pulse_at}
use Rattle.vme_trace_laws.proofs.waves.Slots.{busy_at}
use Rattle.vme_trace_laws.specs.Transfers.{open_transfer, transfer_board}
use Rattle.vme_trace_laws.specs.Values.{busy_line}
use Rattle.vme_trace.specs.Shown.{value_after_run, value_in_run}
use Rattle.vme_trace_laws.proofs.turns.Busy.{run_busy}
use Rattle.vme_trace_laws.proofs.turns.AddressStrobes.{opens_with, strobe_at}
use Rattle.vme_trace_laws.proofs.turns.RunStrobes.{strobe_of, at_event, before_event, none_stays}

-- a line that is low and does not rise stays low
keeps_low : (rises falls : Bool) (down up k : ℕ) (v : Value) → rises && nat_le down k ≡ false → v ≡ Low → pulse_at High Low rises falls down up k v ≡ Low
keeps_low rises falls down up k v none low =
    elim (cases_Bool (falls && nat_le up k)) [
      | inl now ↦ rw now refl
      | inr soon ↦ rw (soon, none) low
    ]

-- the slot that holds the bus drives BBSY*
holder_drives_low : (holder : Option ℕ) (slot : ℕ) → holder ≡ Some slot → level_of (not (option_map_or (λ h. h == slot) holder false)) ≡ Low
holder_drives_low holder slot is =
    ap (λ (found : Option ℕ). level_of (not (option_map_or (λ h. h == slot) found false))) is ∙ ap (λ b. level_of (not b)) (eq-eqb slot slot refl)

-- a slot that transfers a datum does not release the bus
stays_held : (own : Bool) (late : Bool) → (own && false) && late ≡ false
stays_held false late = refl
stays_held true late = refl

-- a cycle that no board answers is over before the bus is released
released_after : (own : Bool) (k : ℕ) (v : Value) → pulse_at Low High true true 1 7 k v ≡ Low → (own && true) && nat_le 12 k ≡ false
released_after own k v low =
    elim (cases_Bool (nat_le 7 k)) [
      | inl past ↦ absurd (not_both (sym (ended past) ∙ low))
      | inr soon ↦ and_right (own && true) (nat_le 12 k) (lt-leb 12 k (omega (arith, leb-false 7 k soon)))
    ]
  where
    ended : nat_le 7 k ≡ true → pulse_at Low High true true 1 7 k v ≡ High
    ended past = rw past refl

-- the bus is not released at an edge of a handshake at which AS* is low
not_released : (activity : Activity) (reply : EventReply) (t : Handshake) (own : Bool) (k : ℕ) (v : Value) → first_handshake activity reply ≡ Some t
    → pulse_at Low High (opens_with (first_handshake activity reply)) (ends_with (first_handshake activity reply) || ends_with (second_handshake activity reply)) 1
    (if is_some (second_handshake activity reply) then 16 else 7) k v ≡ Low
    → (own && releases activity) && nat_le (release_edge activity) k ≡ false
not_released Requests reply t own k v first low = absurd (cc first)
not_released Polls reply t own k v first low = absurd (cc first)
not_released (Releases None) reply t own k v first low = absurd (cc first)
not_released (Releases (Some s)) reply t own k v first low = released_after own k v low
not_released (Transfers d) reply t own k v first low = stays_held own (nat_le 0 k)
not_released (Local cmd) reply t own k v first low = absurd (cc first)
not_released Other reply t own k v first low = absurd (cc first)

module _ (config : Configuration) (lawful : IsLawful config) (slots : List ℕ) (events later : List Observation) (o : Observation)
    (whole : observations config slots ≡ events ++ o ∷ later) (k : ℕ) where
  -- BBSY* of the slot that holds the bus is low at an edge of an event, if it is not released before
  drives_at : (b : ℕ) → b < length config.boards
      → (at_event config lawful slots events later o whole).here.bus.object.holder ≡ Some (slot_at config b)
      → (o.board == b && releases o.activity) && nat_le (release_edge o.activity) k ≡ false
      → value_in_run (busy_line b) (length config.boards) events o High k ≡ Low
  drives_at b there held none =
      let at = at_event config lawful slots events later o whole in
      let before : value_after_run (busy_line b) (length config.boards) events High ≡ Low
      = run_busy config lawful b there (initial_state config).machine events at.here 0 at.run
      ∙ holder_drives_low at.here.bus.object.holder (slot_at config b) held in
      busy_at (length config.boards) (length events + 1) o b there k (value_after_run (busy_line b) (length config.boards) events High)
      ∙ keeps_low (o.board == b && releases o.activity) (is_granted o.grant b) (release_edge o.activity) (grant_edge o.activity + 1) k
      (value_after_run (busy_line b) (length config.boards) events High) none before

  -- a slot that drives BBSY* at an edge, of the board whose transfer an event belongs to
  abbrev IsDriven : Option ℕ → Type 0
  IsDriven found = (b : ℕ) × (found ≡ Some b) × (value_in_run (busy_line b) (length config.boards) events o High k ≡ Low)

  -- in an event without a handshake, AS* is low if a transfer is open
  open_driven : (going : Option ℕ) → open_transfer events ≡ going → first_handshake o.activity o.reply ≡ None → strobe_of going ≡ Low → IsDriven going
  open_driven None is none low = absurd (not_both low)
  open_driven (Some b) is none low =
      let order = (at_event config lawful slots events later o whole).order in
      let held = order.open_holds b is in
      let other : (o.board == b) ≡ false = ne_eqb o.board b (order.apart b is none) in
      (b, refl, drives_at b held.0 held.1 (ap (λ own. (own && releases o.activity) && nat_le (release_edge o.activity) k) other))

  -- AS* is low only while the slot of the transfer's board drives BBSY*, by the first handshake of the event
  driven_by : (found : Option Handshake) → first_handshake o.activity o.reply ≡ found
      → value_in_run address_strobe (length config.boards) events o High k ≡ Low
      → IsDriven (if is_some found then Some o.board else open_transfer events)
  driven_by None first low =
      open_driven (open_transfer events) refl first
      (sym (none_stays config lawful slots events later o whole (value_after_run address_strobe (length config.boards) events High) k first
      ∙ before_event config lawful slots events later o whole) ∙ low)
  driven_by (Some t) first low =
      let held = (at_event config lawful slots events later o whole).order.own t first in (
        o.board,
        refl,
        drives_at o.board held.0 held.1
            (not_released o.activity o.reply t (o.board == o.board) k (value_after_run address_strobe (length config.boards) events High) first
            (sym (strobe_at (length config.boards) (length events + 1) o k (value_after_run address_strobe (length config.boards) events High)) ∙ low)),
      )

  -- AS* is low only while the slot of the transfer's board drives BBSY*
  pub low_driven : value_in_run address_strobe (length config.boards) events o High k ≡ Low → IsDriven (transfer_board events o)
  low_driven low = driven_by (first_handshake o.activity o.reply) refl low
