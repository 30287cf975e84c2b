-- AS* and the data strobes in an event of a run.
use Rattle.std.proofs.Common.{◌≡◌, ℕ, ◌+◌, Bool, true, false, if◌then◌else◌, List, [], ◌∷◌, ◌++◌, length, Option, Some, None, is_some, is_none, refl, ap, sym, subst, ◌∙◌}
use Rattle.vme_core.specs.Runs.{Machine}
use Rattle.vme_script.specs.Configurations.{Configuration}
use Rattle.vme_script.specs.Lawful.{IsLawful}
use Rattle.vme_stepper.specs.Turns.{initial_state}
use Rattle.vme_trace.specs.declared.observation.Observation.{Observation}
use Rattle.vme_trace.specs.Observations.{observations}
use Rattle.vme_trace.specs.declared.dump.change.Value.{Value}
use Rattle.vme_trace.specs.declared.dump.change.Value.TheVariants.{Low, High}
use Rattle.vme_trace.specs.declared.dump.handshake.Handshake.{Handshake}
use Rattle.vme_trace.specs.Changes.{level_of}
use Rattle.vme_trace.specs.Handshakes.{first_handshake}
use Rattle.vme_trace.specs.Slots.{has_ended, end_edge}
use Rattle.vme_trace.specs.Events.{event_changes}
use Rattle.vme_trace_laws.specs.Shown.{address_strobe, address_strobe_before}
use Rattle.vme_trace.specs.Shown.{value_at, after_event, after_events, value_after_run, value_in_run}
use Rattle.vme_trace_laws.specs.Events.{event_strobe, strobe_before}
use Rattle.vme_trace_laws.proofs.waves.Pulses.{not_both}
use Rattle.vme_trace_laws.proofs.waves.Values.{pulse_at}
use Rattle.vme_trace_laws.specs.Transfers.{open_after, open_after_all, open_transfer}
use Rattle.vme_trace_laws.specs.Steps.{IsRunShown}
use Rattle.vme_trace_laws.proofs.turns.Tenures.{IsOpening}
use Rattle.vme_trace_laws.proofs.turns.Orders.{IsInOrder, IsOrderly, run_orderly}
use Rattle.vme_trace_laws.proofs.turns.AddressStrobes.{opens_with, strobe_at, strobe_last, none_ends}

-- AS* by the open transfer: low if there is one
abbrev pub strobe_of : Option ℕ → Value
strobe_of going = level_of (is_none going)

-- AS* in a handshake that does not end the transfer
low_by : (opens : Bool) (board : ℕ) → (if opens then Low else strobe_of (if opens then None else Some board)) ≡ Low
low_by true board = refl
low_by false board = refl

-- AS* after an event, by its handshakes
last_by : (found : Option Handshake) (ended : Bool) (board : ℕ) (going : Option ℕ)
    → ((t : Handshake) → found ≡ Some t → going ≡ (if t.opens then None else Some board)) → (found ≡ None → ended ≡ false)
    → (if ended then High else (if opens_with found then Low else strobe_of going))
    ≡ strobe_of (if is_some found then (if ended then None else Some board) else going)
last_by None ended board going opening none = rw (none refl) refl
last_by (Some t) true board going opening none = refl
last_by (Some t) false board going opening none = rw (opening t refl) (low_by t.opens board)

module _ (boards : ℕ) where
  -- AS* after an event
  event_leaves : (n : ℕ) (o : Observation) (going : Option ℕ) → IsOpening going o
      → after_event address_strobe boards n o (strobe_of going) ≡ strobe_of (open_after going o)
  event_leaves n o going opening =
      strobe_last boards n o (strobe_of going)
      ∙ last_by (first_handshake o.activity o.reply) (has_ended o) o.board going opening (none_ends o)

module _ (config : Configuration) where
  -- AS* after some events
  events_leave : (n : ℕ) (before : Machine) (events : List Observation) (going : Option ℕ) → IsOrderly config before going events
      → after_events address_strobe (length config.boards) n events (strobe_of going) ≡ strobe_of (open_after_all going events)
  events_leave n before [] going orderly = refl
  events_leave n before (o ∷ events) going orderly =
      ap (after_events address_strobe (length config.boards) (n + 1) events) (event_leaves (length config.boards) (n + 1) o going orderly.2.opening)
      ∙ events_leave (n + 1) orderly.0 events (open_after going o) orderly.3

  -- an event after some events: the machine before it, that the events lead there, that it is in order, and AS* before it
  pub record IsAt (before : Machine) (events : List Observation) (going : Option ℕ) (o : Observation) : Type 0 where
    pub here : Machine
    pub run : IsRunShown config before events here
    pub order : IsInOrder config here (open_after_all going events) o
    pub strobe : (n : ℕ) → after_events address_strobe (length config.boards) n events (strobe_of going) ≡ strobe_of (open_after_all going events)

  -- an event after some events, if all are in order
  event_in : (before : Machine) (events later : List Observation) (o : Observation) (going : Option ℕ)
      → IsOrderly config before going (events ++ o ∷ later) → IsAt before events going o
  event_in before [] later o going orderly = record { here = before; run = refl; order = orderly.2; strobe = λ n. refl }
  event_in before (e ∷ events) later o going orderly =
      let rest = event_in orderly.0 events later o (open_after going e) orderly.3 in record {
        here = rest.here;
        run = (orderly.0, orderly.1, rest.run);
        order = rest.order;
        strobe = λ n.
            ap (after_events address_strobe (length config.boards) (n + 1) events) (event_leaves (length config.boards) (n + 1) e going orderly.2.opening)
            ∙ rest.strobe (n + 1);
      }

-- the transfer that is open after one more event
more_open : (events : List Observation) (o : Observation) (going : Option ℕ) → open_after_all going (events ++ o ∷ []) ≡ open_after (open_after_all going events) o
more_open [] o going = refl
more_open (e ∷ events) o going = more_open events o (open_after going e)

-- a value is that of a variable which neither falls nor rises
still : (falls rises : Bool) (down up k : ℕ) (v : Value) → falls ≡ false → rises ≡ false → pulse_at Low High falls rises down up k v ≡ v
still falls rises down up k v no_fall no_rise = rw (no_fall, no_rise) refl

module _ (config : Configuration) (lawful : IsLawful config) (slots : List ℕ) where
  -- after a run AS* is low exactly if a transfer is open
  pub strobe_after_run : value_after_run address_strobe (length config.boards) (observations config slots) High
      ≡ level_of (is_none (open_transfer (observations config slots)))
  strobe_after_run = events_leave config 0 (initial_state config).machine (observations config slots) None (run_orderly config lawful slots)

  module _ (events later : List Observation) (o : Observation) (whole : observations config slots ≡ events ++ o ∷ later) where
    -- the event in its run
    pub at_event : IsAt config (initial_state config).machine events None o
    at_event =
        event_in config (initial_state config).machine events later o None
        (subst (IsOrderly config (initial_state config).machine None) whole (run_orderly config lawful slots))

    -- AS* before an event
    pub before_event : value_after_run address_strobe (length config.boards) events High ≡ strobe_of (open_transfer events)
    before_event = at_event.strobe 0

    -- the transfer that a datum belongs to is open before it
    pub own_transfer : (t : Handshake) → first_handshake o.activity o.reply ≡ Some t → open_transfer events ≡ (if t.opens then None else Some o.board)
    own_transfer t first = at_event.order.opening t first

    -- AS* before a handshake, by whether it begins a transfer
    before_by : (opens : Bool) (board : ℕ) → strobe_of (if opens then None else Some board) ≡ (if opens then High else Low)
    before_by true board = refl
    before_by false board = refl

    -- AS* before a handshake
    pub strobe_before_event : (t : Handshake) → first_handshake o.activity o.reply ≡ Some t
        → value_after_run address_strobe (length config.boards) events High ≡ address_strobe_before t
    strobe_before_event t first = before_event ∙ ap strobe_of (own_transfer t first) ∙ before_by t.opens o.board

    -- AS* at an edge of an event with a handshake
    in_handshake : (t : Handshake) (k : ℕ) → first_handshake o.activity o.reply ≡ Some t
        → value_in_run address_strobe (length config.boards) events o High k ≡ event_strobe (length config.boards) (length events + 1) o k
    in_handshake t k first =
        ap (λ (v : Value). value_at address_strobe (event_changes (length config.boards) (length events + 1) o) v k)
        (strobe_before_event t first ∙ sym (ap strobe_before first))

    -- AS* stays as it is in an event without a handshake
    pub none_stays : (v : Value) (k : ℕ) → first_handshake o.activity o.reply ≡ None
        → value_at address_strobe (event_changes (length config.boards) (length events + 1) o) v k ≡ v
    none_stays v k none =
        strobe_at (length config.boards) (length events + 1) o k v
        ∙ still (opens_with (first_handshake o.activity o.reply)) (has_ended o) 1 (end_edge o) k v (ap opens_with none) (none_ends o none)

    -- AS* is low where it is by the law of single events
    low_by_event : (found : Option Handshake) (k : ℕ) → first_handshake o.activity o.reply ≡ found
        → event_strobe (length config.boards) (length events + 1) o k ≡ Low → value_in_run address_strobe (length config.boards) events o High k ≡ Low
    low_by_event None k first low =
        absurd (not_both (sym (ap (λ (v : Value). value_at address_strobe (event_changes (length config.boards) (length events + 1) o) v k) (ap strobe_before first)
        ∙ none_stays High k first) ∙ low))
    low_by_event (Some t) k first low = in_handshake t k first ∙ low

    -- the same, without its handshake
    pub low_in_run : (k : ℕ) → event_strobe (length config.boards) (length events + 1) o k ≡ Low
        → value_in_run address_strobe (length config.boards) events o High k ≡ Low
    low_in_run k low = low_by_event (first_handshake o.activity o.reply) k refl low

    -- a handshake within an open transfer does not open one
    no_fall : (found : Option Handshake) (open_board : ℕ) → first_handshake o.activity o.reply ≡ found → open_transfer events ≡ Some open_board
        → opens_with found ≡ false
    no_fall None open_board first is = refl
    no_fall (Some t) open_board first is = not_opened t.opens open_board (sym (own_transfer t first) ∙ is)
      where
        not_opened : (opens : Bool) (open_board : ℕ) → (if opens then None else Some o.board) ≡ Some open_board → opens ≡ false
        not_opened true open_board is = absurd (cc is)
        not_opened false open_board is = refl

    -- an event after which a transfer is open does not end one
    no_rise : (going : Option ℕ) (first : Option Handshake) (ended : Bool) (open_board : ℕ) → (first ≡ None → ended ≡ false)
        → (if is_some first then (if ended then None else Some o.board) else going) ≡ Some open_board → ended ≡ false
    no_rise going None ended open_board none is = none refl
    no_rise going (Some t) true open_board none is = absurd (cc is)
    no_rise going (Some t) false open_board none is = refl

    -- AS* stays low in an event before and after which a transfer is open
    pub low_within : (before after k : ℕ) → open_transfer events ≡ Some before → open_transfer (events ++ o ∷ []) ≡ Some after
        → value_in_run address_strobe (length config.boards) events o High k ≡ Low
    low_within before after k first second =
        let v = value_after_run address_strobe (length config.boards) events High in
        strobe_at (length config.boards) (length events + 1) o k v
        ∙ still (opens_with (first_handshake o.activity o.reply)) (has_ended o) 1 (end_edge o) k v
        (no_fall (first_handshake o.activity o.reply) before refl first)
        (no_rise (open_transfer events) (first_handshake o.activity o.reply) (has_ended o) after (none_ends o) (sym (more_open events o None) ∙ second))
        ∙ before_event ∙ ap strobe_of first
