-- The lines that show the address, over the events of a transfer.
use Rattle.std.proofs.Common.{◌≡◌, ℕ, ◌+◌, ◌-◌, ◌<◌, ◌≤◌, ◌&&◌, ◌||◌, ◌++◌, Bool, true, false, if◌then◌else◌, List, [], ◌∷◌, length, Option, Some, None, is_some, refl, ap, sym, subst, ◌∙◌, arith, inl, inr}
use Rattle.std.specs.Prelude.{All, flat_map, nat_le}
use Rattle.std.specs.List.{range_with_len}
use Rattle.std.proofs.lemmas.Bool.{ne_eqb, le-leb, lt-leb}
use Rattle.std.proofs.lemmas.List.Elements.{All-head, All-tail}
use Rattle.vme_core.specs.Runs.{Machine}
use Rattle.vme_script.specs.Configurations.{Configuration}
use Rattle.vme_script.specs.Lawful.{IsLawful}
use Rattle.vme_stepper.specs.Turns.{initial_state}
use Rattle.vme_trace.specs.declared.observation.Observation.{Observation}
use Rattle.vme_trace.specs.Observations.{observations}
use Rattle.vme_trace.specs.declared.dump.change.Code.{Code}
use Rattle.vme_trace.specs.declared.dump.change.Value.{Value}
use Rattle.vme_trace.specs.declared.dump.change.Value.TheVariants.{Free, Released, Number}
use Rattle.vme_trace.specs.declared.dump.handshake.Handshake.{Handshake}
use Rattle.vme_trace.specs.Changes.{level_of}
use Rattle.vme_trace.specs.Variables.{bus_code}
use Rattle.vme_trace.specs.Handshakes.{edge_of, first_handshake, second_handshake}
use Rattle.vme_trace.specs.Bus.{address_number, handshake_changes, some_handshake_changes}
use Rattle.vme_trace.specs.Slots.{ends_with, has_ended, slot_changes}
use Rattle.vme_trace.specs.Events.{name_changes, holder_changes, request_line_changes, bus_changes, event_changes}
use Rattle.vme_trace.specs.Shown.{is_code, value_after, value_at, after_event, after_events, value_in_run}
use Rattle.vme_trace_laws.specs.Addresses.{IsAddressLine, CarriesNoData, KeepsWrite, EachHandshake, release_edge_of, IsAmid}
use Rattle.vme_trace_laws.specs.Shown.{write_line}
use Rattle.vme_trace_laws.specs.Transfers.{open_after}
use Rattle.vme_trace_laws.proofs.waves.Addresses.{modifier_after, address_after, long_word_after, write_after}
use Rattle.vme_trace_laws.proofs.waves.Afters.{silent, after_append}
use Rattle.vme_trace_laws.proofs.waves.Events.{name_quiet, holder_quiet, request_line_quiet}
use Rattle.vme_trace_laws.proofs.waves.Pulses.{pulse}
use Rattle.vme_trace_laws.proofs.waves.Quiet.{none_quiet, each_quiet}
use Rattle.vme_trace_laws.proofs.waves.Slots.{bus_quiet}
use Rattle.vme_trace_laws.proofs.waves.Values.{pulse_at, at_pulse, pulse_early}
use Rattle.vme_trace_laws.proofs.turns.AddressStrobes.{opens_with, ArePaired, event_paired}
use Rattle.vme_trace_laws.proofs.turns.Handshakes.{or_none}
use Rattle.vme_trace_laws.proofs.turns.Orders.{IsOrderly, run_orderly}

-- a line has a value from the begin of a handshake that begins a transfer until the address is released
record IsAddressed (P : Handshake → Type 0) (x : ℕ) (value : Handshake → Value) (rest : Value) : Type 0 where
  past : 72 < x
  each : (k : ℕ) (t : Handshake) (v : Value) → P t
      → value_after (bus_code x) k (handshake_changes t) v ≡ pulse (value t) rest t.opens t.ends 0 (edge_of t 9) k v

-- the address modifier
modifier_line : IsAddressed CarriesNoData 74 (λ t. Number 6 t.lines.am.code) Released
modifier_line = record { past = omega arith; each = λ k t v plain. modifier_after k t v }

-- A31 to A01
address_line : IsAddressed CarriesNoData 75 (λ t. Number 32 (address_number t.lines)) Released
address_line = record { past = omega arith; each = λ k t v plain. address_after k t v plain.0 plain.1 }

-- LWORD*
long_word_line : IsAddressed CarriesNoData 76 (λ t. level_of t.lines.strobes.lword) Free
long_word_line = record { past = omega arith; each = λ k t v plain. long_word_after k t v plain.0 plain.1 }

-- WRITE*
level_line : IsAddressed KeepsWrite 77 (λ t. level_of t.lines.write) Free
level_line = record { past = omega arith; each = λ k t v still. write_after k t v still }

-- a handshake, if there is one, has a property
abbrev HasIt : (Handshake → Type 0) → Option Handshake → Type 0
HasIt P None = Unit {0}
HasIt P (Some t) = P t

-- each handshake of an event has it
has_it : (P : Handshake → Type 0) (found : Option Handshake) → ((t : Handshake) → found ≡ Some t → P t) → HasIt P found
has_it P None each = tt
has_it P (Some t) each = each t refl

-- the edge at which the address is released, if it is
abbrev released_at : Option Handshake → ℕ
released_at second = if is_some second then 19 else 10

module _ (P : Handshake → Type 0) (x : ℕ) (value : Handshake → Value) (rest : Value) (line : IsAddressed P x value rest) where
  -- the value with which a transfer begins, if it does
  abbrev value_of : Option Handshake → Value
  value_of None = rest
  value_of (Some t) = value t

  -- the line is none of the variables before the lines of a cycle
  apart : (a : ℕ) → a ≤ 72 → is_code (bus_code x) (bus_code a) ≡ false
  apart a below = let past = line.past in ne_eqb a x (λ same. absurd (omega (arith, same, below, past)))

  -- the line is moved by the handshakes of an event alone
  line_parts : (boards n : ℕ) (o : Observation) (k : ℕ) (v : Value)
      → value_after (bus_code x) k (event_changes boards n o) v
      ≡ value_after (bus_code x) k (some_handshake_changes (second_handshake o.activity o.reply))
      (value_after (bus_code x) k (some_handshake_changes (first_handshake o.activity o.reply)) v)
  unfolding event_changes bus_changes
  line_parts boards n o k v =
      let code : Code = bus_code x in
      let first = some_handshake_changes (first_handshake o.activity o.reply) in
      let second = some_handshake_changes (second_handshake o.activity o.reply) in
      after_append code k (bus_changes n o) (flat_map (slot_changes o) (range_with_len 0 boards)) v
      ∙ each_quiet code (slot_changes o) (range_with_len 0 boards) (λ j. bus_quiet x o j) k (value_after code k (bus_changes n o) v)
      ∙ silent code k (name_changes n o) _ v (name_quiet code n o (apart 65 (omega arith)) (apart 66 (omega arith)) k v)
      ∙ silent code k (holder_changes o) _ v (holder_quiet code o (apart 67 (omega arith)) (apart 68 (omega arith)) k v)
      ∙ silent code k (request_line_changes o) _ v (request_line_quiet code o (λ level. apart (72 - level) (omega arith)) k v)
      ∙ after_append code k first second v

  -- the changes of a handshake that does not end, and of one that begins none
  both : (first second v : Value) (opens ends opens_later ends_later : Bool) (up up_later k : ℕ) → ends ≡ false → opens_later ≡ false → up_later ≡ 19
      → pulse second rest opens_later ends_later 0 up_later k (pulse first rest opens ends 0 up k v)
      ≡ pulse first rest opens (ends || ends_later) 0 19 k v
  both first second v opens ends opens_later ends_later up up_later k goes_on none edge = rw (goes_on, none, edge) refl

  -- the line after the changes of an edge of both handshakes
  pair_after : (first second : Option Handshake) → ArePaired first second → HasIt P first → HasIt P second → (k : ℕ) (v : Value)
      → value_after (bus_code x) k (some_handshake_changes second) (value_after (bus_code x) k (some_handshake_changes first) v)
      ≡ pulse (value_of first) rest (opens_with first) (ends_with first || ends_with second) 0 (released_at second) k v
  pair_after None None pair one two k v = none_quiet (bus_code x) k _ ∙ none_quiet (bus_code x) k v
  pair_after None (Some u) pair one two k v = absurd pair
  pair_after (Some t) None pair one two k v =
      let edge : edge_of t 9 ≡ 10 = rw pair refl in
      none_quiet (bus_code x) k _ ∙ line.each k t v one
      ∙ ap (λ up. pulse (value t) rest t.opens t.ends 0 up k v) edge
      ∙ ap (λ ends. pulse (value t) rest t.opens ends 0 10 k v) (sym (or_none t.ends))
  pair_after (Some t) (Some u) pair one two k v =
      let edge : edge_of u 9 ≡ 19 = rw pair.1 refl in
      ap (value_after (bus_code x) k (some_handshake_changes (Some u))) (line.each k t v one)
      ∙ line.each k u (pulse (value t) rest t.opens t.ends 0 (edge_of t 9) k v) two
      ∙ both (value t) (value u) v t.opens t.ends u.opens u.ends (edge_of t 9) (edge_of u 9) k pair.0 pair.2 edge

  -- the release of the address comes after its begin
  release_order : (second : Bool) → 0 < (if second then 19 else 10)
  release_order true = omega arith
  release_order false = omega arith

  module _ (boards n : ℕ) (o : Observation) (plain : EachHandshake P o) where
    -- the line at an edge of an event
    line_at : (k : ℕ) (v : Value) → value_at (bus_code x) (event_changes boards n o) v k
        ≡ pulse_at (value_of (first_handshake o.activity o.reply)) rest (opens_with (first_handshake o.activity o.reply)) (has_ended o) 0
        (released_at (second_handshake o.activity o.reply)) k v
    line_at k v =
        at_pulse (bus_code x) (event_changes boards n o) (value_of (first_handshake o.activity o.reply)) rest v
        (opens_with (first_handshake o.activity o.reply)) (has_ended o) 0 (released_at (second_handshake o.activity o.reply))
        (release_order (is_some (second_handshake o.activity o.reply)))
        (λ j w. line_parts boards n o j w
        ∙ pair_after (first_handshake o.activity o.reply) (second_handshake o.activity o.reply) (event_paired o.activity o.reply)
        (has_it P (first_handshake o.activity o.reply) (λ t first. plain t (inl first)))
        (has_it P (second_handshake o.activity o.reply) (λ t second. plain t (inr second))) j w) k

    -- a value from its begin on
    begun : (opens late : Bool) (first v : Value) → opens ≡ true → late ≡ true → (if opens && late then first else v) ≡ first
    begun opens late first v is past = rw (is, past) refl

    -- a value that does not begin
    kept : (opens late : Bool) (first v : Value) → opens ≡ false → (if opens && late then first else v) ≡ v
    kept opens late first v none = rw none refl

    -- before the release the line has the value with which the transfer begins in the event
    line_begins : (t : Handshake) (k : ℕ) (v : Value) → first_handshake o.activity o.reply ≡ Some t → t.opens ≡ true → k < release_edge_of o
        → value_at (bus_code x) (event_changes boards n o) v k ≡ value t
    line_begins t k v is opens soon =
        let found = first_handshake o.activity o.reply in
        line_at k v
        ∙ pulse_early (value_of found) rest v (opens_with found) (has_ended o) 0 (release_edge_of o) k (lt-leb (release_edge_of o) k soon)
        ∙ begun (opens_with found) (nat_le 0 k) (value_of found) v (ap opens_with is ∙ opens) (le-leb 0 k (omega arith)) ∙ ap value_of is

    -- before the release the line keeps its value in an event that begins no transfer
    line_kept : (k : ℕ) (v : Value) → opens_with (first_handshake o.activity o.reply) ≡ false → k < release_edge_of o
        → value_at (bus_code x) (event_changes boards n o) v k ≡ v
    line_kept k v none soon =
        let found = first_handshake o.activity o.reply in
        line_at k v
        ∙ pulse_early (value_of found) rest v (opens_with found) (has_ended o) 0 (release_edge_of o) k (lt-leb (release_edge_of o) k soon)
        ∙ kept (opens_with found) (nat_le 0 k) (value_of found) v none

    -- and at all edges, if the transfer does not end with the event
    never : (first later v : Value) (falls rises : Bool) (up k : ℕ) → rises ≡ false → pulse_at first later falls rises 0 up k v ≡ (if falls && nat_le 0 k then first else v)
    never first later v falls rises up k none = rw none refl

    -- the line after an event with which a transfer begins and does not end
    begins_last : (t : Handshake) (v : Value) → first_handshake o.activity o.reply ≡ Some t → t.opens ≡ true → has_ended o ≡ false
        → value_at (bus_code x) (event_changes boards n o) v 19 ≡ value t
    begins_last t v is opens goes =
        let found = first_handshake o.activity o.reply in
        line_at 19 v ∙ never (value_of found) rest v (opens_with found) (has_ended o) (released_at (second_handshake o.activity o.reply)) 19 goes
        ∙ begun (opens_with found) true (value_of found) v (ap opens_with is ∙ opens) refl ∙ ap value_of is

    -- the line after an event with which no transfer begins or ends
    kept_last : (v : Value) → opens_with (first_handshake o.activity o.reply) ≡ false → has_ended o ≡ false
        → value_at (bus_code x) (event_changes boards n o) v 19 ≡ v
    kept_last v none goes =
        let found = first_handshake o.activity o.reply in
        line_at 19 v ∙ never (value_of found) rest v (opens_with found) (has_ended o) (released_at (second_handshake o.activity o.reply)) 19 goes
        ∙ kept (opens_with found) true (value_of found) v none

  -- an event in a transfer that is open begins none
  begins_none : (found : Option Handshake) (b board : ℕ) → ((t : Handshake) → found ≡ Some t → Some b ≡ (if t.opens then None else Some board))
      → opens_with found ≡ false
  begins_none None b board opening = refl
  begins_none (Some t) b board opening = by_opens t.opens (opening t refl)
    where
      by_opens : (opens : Bool) → Some b ≡ (if opens then None else Some board) → opens ≡ false
      by_opens true is = absurd (cc is)
      by_opens false is = refl

  -- a transfer that does not end with an event is open after it
  open_stays : (found ended : Bool) (b board : ℕ) → ended ≡ false
      → (c : ℕ) × ((if found then (if ended then None else Some board) else Some b) ≡ Some c)
  open_stays true ended b board goes = (board, rw goes refl)
  open_stays false ended b board goes = (b, refl)

  -- a transfer that begins with an event and does not end with it is open after it
  opened : (found ended : Bool) (board : ℕ) (going : Option ℕ) → found ≡ true → ended ≡ false
      → (if found then (if ended then None else Some board) else going) ≡ Some board
  opened found ended board going is goes = rw (is, goes) refl

  module _ (config : Configuration) where
    -- over events that end no transfer, from one that is open on, the line keeps its value, up to the release in the last event
    over_events : (n : ℕ) (between later : List Observation) (p : Observation) (before : Machine) (b k : ℕ) (v : Value)
        → IsOrderly config before (Some b) (between ++ p ∷ later) → All (IsAmid P) between → EachHandshake P p → k < release_edge_of p
        → (m : ℕ) → value_at (bus_code x) (event_changes (length config.boards) m p) (after_events (bus_code x) (length config.boards) n between v) k ≡ v
    over_events n [] later p before b k v run amid plain soon m =
        line_kept (length config.boards) m p plain k v (begins_none (first_handshake p.activity p.reply) b p.board run.2.opening) soon
    over_events n (e ∷ between) later p before b k v run amid plain soon m =
        let own = All-head (IsAmid P) e between amid in
        let next = open_stays (is_some (first_handshake e.activity e.reply)) (has_ended e) b e.board own.1 in
        let here : after_event (bus_code x) (length config.boards) (n + 1) e v ≡ v
        = kept_last (length config.boards) (n + 1) e own.0 v (begins_none (first_handshake e.activity e.reply) b e.board run.2.opening) own.1 in
        ap (λ (w : Value). value_at (bus_code x) (event_changes (length config.boards) m p) (after_events (bus_code x) (length config.boards) (n + 1) between w) k)
        here
        ∙ over_events (n + 1) between later p run.0 next.0 k v
        (subst (λ (going : Option ℕ). IsOrderly config run.0 going (between ++ p ∷ later)) next.1 run.3) (All-tail (IsAmid P) e between amid) plain soon m

    -- over the events of a transfer from its first on
    over_transfer : (n : ℕ) (events between later : List Observation) (o p : Observation) (t : Handshake) (before : Machine) (going : Option ℕ) (k : ℕ)
        → (v : Value) → IsOrderly config before going (events ++ o ∷ (between ++ p ∷ later)) → first_handshake o.activity o.reply ≡ Some t
        → t.opens ≡ true → All (IsAmid P) (o ∷ between) → EachHandshake P p → k < release_edge_of p
        → (m : ℕ)
        → value_at (bus_code x) (event_changes (length config.boards) m p) (after_events (bus_code x) (length config.boards) n (events ++ o ∷ between) v) k
        ≡ value t
    over_transfer n [] between later o p t before going k v run first opens amid plain soon m =
        let own = All-head (IsAmid P) o between amid in
        let next : open_after going o ≡ Some o.board
        = opened (is_some (first_handshake o.activity o.reply)) (has_ended o) o.board going (ap is_some first) own.1 in
        let here : after_event (bus_code x) (length config.boards) (n + 1) o v ≡ value t
        = begins_last (length config.boards) (n + 1) o own.0 t v first opens own.1 in
        ap (λ (w : Value). value_at (bus_code x) (event_changes (length config.boards) m p) (after_events (bus_code x) (length config.boards) (n + 1) between w) k)
        here
        ∙ over_events (n + 1) between later p run.0 o.board k (value t)
        (subst (λ (after : Option ℕ). IsOrderly config run.0 after (between ++ p ∷ later)) next run.3) (All-tail (IsAmid P) o between amid) plain soon m
    over_transfer n (e ∷ events) between later o p t before going k v run first opens amid plain soon m =
        over_transfer (n + 1) events between later o p t run.0 (open_after going e) k (after_event (bus_code x) (length config.boards) (n + 1) e v) run.3 first
        opens amid plain soon m

    -- over the events of a transfer of a run
    over_run : (lawful : IsLawful config) (slots : List ℕ) (events between later : List Observation) (o p : Observation) (t : Handshake) (k : ℕ) (v : Value)
        → observations config slots ≡ events ++ o ∷ (between ++ p ∷ later) → first_handshake o.activity o.reply ≡ Some t → t.opens ≡ true
        → All (IsAmid P) (o ∷ between) → EachHandshake P p → k < release_edge_of p
        → value_in_run (bus_code x) (length config.boards) (events ++ o ∷ between) p v k ≡ value t
    over_run lawful slots events between later o p t k v whole first opens amid plain soon =
        over_transfer 0 events between later o p t (initial_state config).machine None k v
        (subst (IsOrderly config (initial_state config).machine None) whole (run_orderly config lawful slots)) first opens amid plain soon
        (length (events ++ o ∷ between) + 1)

-- in the event that begins a transfer, a line of the address has its value until the release
pub address_begins : (boards n : ℕ) (o : Observation) (t : Handshake) (line : Code) (value before : Value) (k : ℕ) → EachHandshake CarriesNoData o
    → first_handshake o.activity o.reply ≡ Some t → t.opens ≡ true → IsAddressLine line t value → k < release_edge_of o
    → value_at line (event_changes boards n o) before k ≡ value
address_begins boards n o t line value before k plain first opens (inl is) soon =
    subst (λ (code : Code). value_at code (event_changes boards n o) before k ≡ value) (sym is.0)
    (line_begins CarriesNoData 74 _ Released modifier_line boards n o plain t k before first opens soon ∙ sym is.1)
address_begins boards n o t line value before k plain first opens (inr (inl is)) soon =
    subst (λ (code : Code). value_at code (event_changes boards n o) before k ≡ value) (sym is.0)
    (line_begins CarriesNoData 75 _ Released address_line boards n o plain t k before first opens soon ∙ sym is.1)
address_begins boards n o t line value before k plain first opens (inr (inr is)) soon =
    subst (λ (code : Code). value_at code (event_changes boards n o) before k ≡ value) (sym is.0)
    (line_begins CarriesNoData 76 _ Free long_word_line boards n o plain t k before first opens soon ∙ sym is.1)

-- in a later event of the transfer it has the same
pub address_stays : (config : Configuration) → IsLawful config → (slots : List ℕ) (events between later : List Observation) (o p : Observation)
    → (t : Handshake) (line : Code) (value before : Value) (k : ℕ) → observations config slots ≡ events ++ o ∷ (between ++ p ∷ later)
    → first_handshake o.activity o.reply ≡ Some t → t.opens ≡ true → All (IsAmid CarriesNoData) (o ∷ between) → EachHandshake CarriesNoData p → IsAddressLine line t value
    → k < release_edge_of p → value_in_run line (length config.boards) (events ++ o ∷ between) p before k ≡ value
address_stays config lawful slots events between later o p t line value before k whole first opens amid plain (inl is) soon =
    subst (λ (code : Code). value_in_run code (length config.boards) (events ++ o ∷ between) p before k ≡ value) (sym is.0)
    (over_run CarriesNoData 74 _ Released modifier_line config lawful slots events between later o p t k before whole first opens amid plain soon ∙ sym is.1)
address_stays config lawful slots events between later o p t line value before k whole first opens amid plain (inr (inl is)) soon =
    subst (λ (code : Code). value_in_run code (length config.boards) (events ++ o ∷ between) p before k ≡ value) (sym is.0)
    (over_run CarriesNoData 75 _ Released address_line config lawful slots events between later o p t k before whole first opens amid plain soon ∙ sym is.1)
address_stays config lawful slots events between later o p t line value before k whole first opens amid plain (inr (inr is)) soon =
    subst (λ (code : Code). value_in_run code (length config.boards) (events ++ o ∷ between) p before k ≡ value) (sym is.0)
    (over_run CarriesNoData 76 _ Free long_word_line config lawful slots events between later o p t k before whole first opens amid plain soon ∙ sym is.1)

-- and so has WRITE*, if it does not fall within the transfer
pub write_stays : (config : Configuration) → IsLawful config → (slots : List ℕ) (events between later : List Observation) (o p : Observation)
    → (t : Handshake) (before : Value) (k : ℕ) → observations config slots ≡ events ++ o ∷ (between ++ p ∷ later)
    → first_handshake o.activity o.reply ≡ Some t → t.opens ≡ true → All (IsAmid KeepsWrite) (o ∷ between) → EachHandshake KeepsWrite p
    → k < release_edge_of p → value_in_run write_line (length config.boards) (events ++ o ∷ between) p before k ≡ level_of t.lines.write
write_stays config lawful slots events between later o p t before k whole first opens amid still soon =
    over_run KeepsWrite 77 _ Free level_line config lawful slots events between later o p t k before whole first opens amid still soon
