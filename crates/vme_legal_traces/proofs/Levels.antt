-- The levels of AS*, data strobes and answers at each edge of an event.
use Rattle.std.proofs.Common.{◌≡◌, ℕ, ◌+◌, ◌<◌, ◌≤◌, Bool, true, false, not, ◌&&◌, if◌then◌else◌, List, length, Option, Some, None, is_some, refl, ap, sym, ◌∙◌, arith, inl, inr}
use Rattle.std.specs.Prelude.{nat_le}
use Rattle.std.proofs.lemmas.Bool.{cases_lt, le-leb, lt-leb}
use Rattle.std.proofs.lemmas.Option.{same_Some}
use Rattle.vme_script.specs.Configurations.{Configuration}
use Rattle.vme_protocol.specs.declared.sample.Sample.{Sample}
use Rattle.vme_trace.specs.declared.observation.Observation.{Observation}
use Rattle.vme_trace.specs.declared.dump.change.Code.{Code}
use Rattle.vme_trace.specs.declared.dump.change.Value.{Value}
use Rattle.vme_trace.specs.declared.dump.change.Value.TheVariants.{Low, High}
use Rattle.vme_trace.specs.declared.dump.handshake.Handshake.{Handshake}
use Rattle.vme_trace.specs.Handshakes.{edge_of, first_handshake, second_handshake}
use Rattle.vme_trace.specs.Slots.{has_ended, end_edge}
use Rattle.vme_trace.specs.Events.{event_changes}
use Rattle.vme_trace.specs.Bus.{handshake_changes}
use Rattle.vme_trace.specs.Variables.{bus_code}
use Rattle.vme_trace.specs.Shown.{value_after, value_at, value_after_run, value_in_run}
use Rattle.vme_trace_laws.specs.Shown.{address_strobe, first_strobe, second_strobe, acknowledge, bus_error, line_at}
use Rattle.vme_trace_laws.specs.Events.{event_line}
use Rattle.vme_trace_laws.proofs.lemmas.Waves.{pulse, first_strobe_after, second_strobe_after, done_after, error_after, edge_order, pulse_at, at_pulse, HasNone, HasOne, HasTwo, IsPulsed, IsControl, none_stays, one_is, early_is, late_is, ends_high}
use Rattle.vme_trace_laws.proofs.lemmas.Turns.{run_rests, opens_with, ArePaired, event_paired, strobe_at, none_ends}
use Rattle.vme_legal_traces.specs.Samples.{is_high, sample_of, edge_sample}
use Rattle.vme_legal_traces.proofs.Order.{Levels, high_at, strobe_level, levels_at, nothing, resting, falls_in}

-- the levels of a sample
abbrev pub levels_of : Sample → Levels
levels_of s = record { strobe = s.address_strobe; ds1 = s.ds1; ds0 = s.ds0; dtack = s.dtack; berr = s.berr }

-- the level of a line that is low between two edges
low_level : (past begun : Bool) → is_high (if past then High else (if begun then Low else High)) ≡ (if past then true else not begun)
low_level true begun = refl
low_level false true = refl
low_level false false = refl

-- the level of a line that falls and rises, if it moves
pub pulse_level : (moves : Bool) (down up k : ℕ) → is_high (pulse_at Low High moves moves down up k High) ≡ high_at moves down up k
pulse_level false down up k = refl
pulse_level true down up k = low_level (nat_le up k) (nat_le down k)

-- the level of AS*
strobe_by : (past begun : Bool) (v : Value) → is_high (if past then High else (if begun then Low else v)) ≡ (if past then true else (if begun then false else is_high v))
strobe_by true begun v = refl
strobe_by false true v = refl
strobe_by false false v = refl

-- the level of AS* at an edge
pub strobe_pulse_level : (opens ends : Bool) (up k : ℕ) (v : Value)
    → is_high (pulse_at Low High opens ends 1 up k v) ≡ strobe_level (is_high v) opens ends up k
strobe_pulse_level opens ends up k v = strobe_by (ends && nat_le up k) (opens && nat_le 1 k) v

-- a line is high before it falls
high_before : (moves : Bool) (down up k : ℕ) → k < down → down < up → high_at moves down up k ≡ true
high_before false down up k soon order = refl
high_before true down up k soon order = rw (lt-leb up k (omega (arith, soon, order)), lt-leb down k soon) refl

-- and after it has risen
high_after : (moves : Bool) (down up k : ℕ) → up ≤ k → high_at moves down up k ≡ true
high_after false down up k past = refl
high_after true down up k past = rw (le-leb up k past) refl

-- a line in a handshake
shake_level : (line : Code) (t : Handshake) (p : IsPulsed line t Low High) (k : ℕ) → is_high (line_at t line k) ≡ high_at p.moves p.down p.up k
shake_level line t p k =
    ap is_high (at_pulse line (handshake_changes t) Low High High p.moves p.moves p.down p.up p.order p.each k) ∙ pulse_level p.moves p.down p.up k

-- the edges of a handshake have the order of their numbers
edges_up : (late : Bool) (a b : ℕ) → a ≤ b → (if late then 10 + a else 1 + a) ≤ (if late then 10 + b else 1 + b)
edges_up false a b order = omega (arith, order)
edges_up true a b order = omega (arith, order)

-- a line that falls at one edge of a handshake and rises at a later one, if it moves
abbrev control_of : (number : ℕ) → 72 < number → (moves : Handshake → Bool) (down up : ℕ) → down < up → up ≤ 8
    → ((t : Handshake) (k : ℕ) (v : Value) → value_after (bus_code number) k (handshake_changes t) v
    ≡ pulse Low High (moves t) (moves t) (edge_of t down) (edge_of t up) k v) → IsControl (bus_code number)
control_of number past moves down up order last each = record {
  own = record { number = number; is = refl; past = past };
  pulsed = λ t. record {
    moves = moves t;
    down = edge_of t down;
    up = edge_of t up;
    lower = edges_up t.late 0 down (omega arith);
    order = edge_order t.late down up order;
    upper = edges_up t.late up 8 last;
    each = each t;
  };
}

-- DS1*
abbrev ds1_control : IsControl first_strobe
ds1_control = control_of 78 (omega arith) (λ t. not t.lines.strobes.ds1) 1 6 (omega arith) (omega arith) (λ t k v. first_strobe_after k t v)

-- DS0*
abbrev ds0_control : IsControl second_strobe
ds0_control = control_of 79 (omega arith) (λ t. not t.lines.strobes.ds0) 1 6 (omega arith) (omega arith) (λ t k v. second_strobe_after k t v)

-- DTACK*
abbrev dtack_control : IsControl acknowledge
dtack_control = control_of 82 (omega arith) (λ t. not t.berr) 3 8 (omega arith) (omega arith) (λ t k v. done_after k t v)

-- BERR*
abbrev berr_control : IsControl bus_error
berr_control = control_of 83 (omega arith) (λ t. t.berr) 3 8 (omega arith) (omega arith) (λ t k v. error_after k t v)

-- a line of two that is high
and_true : (a b : Bool) → b ≡ true → (a && b) ≡ a
and_true true b h = h
and_true false b h = refl

-- the other
true_and : (a b : Bool) → a ≡ true → (a && b) ≡ b
true_and true b h = refl
true_and false b h = absurd cc

module _ (boards n : ℕ) (o : Observation) (line : Code) (c : IsControl line) where
  -- a line in an event without a handshake
  none_level : HasNone o → (k : ℕ) → is_high (event_line boards n o line k) ≡ true
  none_level none k = ap is_high (none_stays boards n o none line c.own High k)

  -- a line in an event with one
  one_level : (one : HasOne o) (k : ℕ)
      → is_high (event_line boards n o line k) ≡ high_at (c.pulsed one.t).moves (c.pulsed one.t).down (c.pulsed one.t).up k
  one_level one k = ap is_high (one_is boards n o one line c.own High k) ∙ shake_level line one.t (c.pulsed one.t) k

  -- a line in an event with two
  two_level : (two : HasTwo o) (k down up down' up' : ℕ) → (c.pulsed two.t).down ≡ down → (c.pulsed two.t).up ≡ up → (c.pulsed two.u).down ≡ down'
      → (c.pulsed two.u).up ≡ up' → up ≤ 10 → 10 < down'
      → is_high (event_line boards n o line k)
      ≡ high_at (c.pulsed two.t).moves down up k && high_at (c.pulsed two.u).moves down' up' k
  two_level two k down up down' up' same same_up same' same_up' early late =
      elim (cases_lt k 10) [
        | inl soon ↦
            ap is_high (early_is boards n o two line c k (omega (arith, soon)))
            ∙ shake_level line two.t (c.pulsed two.t) k
            ∙ rw (same, same_up) refl
            ∙ sym (and_true (high_at (c.pulsed two.t).moves down up k) (high_at (c.pulsed two.u).moves down' up' k)
            (high_before (c.pulsed two.u).moves down' up' k (omega (arith, soon, late)) (omega (arith, same', same_up', (c.pulsed two.u).order))))
        | inr past ↦
            ap is_high (late_is boards n o two line c k (omega (arith, past)))
            ∙ shake_level line two.u (c.pulsed two.u) k
            ∙ rw (same', same_up') refl
            ∙ sym (true_and (high_at (c.pulsed two.t).moves down up k) (high_at (c.pulsed two.u).moves down' up' k)
            (high_after (c.pulsed two.t).moves down up k (omega (arith, past, early))))
      ]

module _ (config : Configuration) (events : List Observation) (o : Observation) where
  -- a control line is high before an event
  high_before_event : (line : Code) → IsControl line → value_after_run line (length config.boards) events High ≡ High
  high_before_event line c = run_rests line (length config.boards) High (λ n e. ends_high (length config.boards) n e line c) 0 events

  -- a control line at an edge of an event of a run
  in_run : (line : Code) → IsControl line → (k : ℕ)
      → value_in_run line (length config.boards) events o High k ≡ event_line (length config.boards) (length events + 1) o line k
  in_run line c k =
      ap (λ (v : Value). value_at line (event_changes (length config.boards) (length events + 1) o) v k) (high_before_event line c)

  -- AS* before the event
  abbrev pub before : Bool
  before = is_high (value_after_run address_strobe (length config.boards) events High)

  -- AS* at an edge of the event
  strobe_here : (k : ℕ)
      → is_high (value_in_run address_strobe (length config.boards) events o High k)
      ≡ strobe_level before (opens_with (first_handshake o.activity o.reply)) (has_ended o) (end_edge o) k
  strobe_here k =
      let v : Value = value_after_run address_strobe (length config.boards) events High in
      ap is_high (strobe_at (length config.boards) (length events + 1) o k v)
      ∙ strobe_pulse_level (opens_with (first_handshake o.activity o.reply)) (has_ended o) (end_edge o) k v

  -- the levels of a sample of the event, line by line
  module _ (k : ℕ) (strobe ds1 ds0 dtack berr : Bool)
      (is_strobe : is_high (value_in_run address_strobe (length config.boards) events o High k) ≡ strobe)
      (is_ds1 : is_high (event_line (length config.boards) (length events + 1) o first_strobe k) ≡ ds1)
      (is_ds0 : is_high (event_line (length config.boards) (length events + 1) o second_strobe k) ≡ ds0)
      (is_dtack : is_high (event_line (length config.boards) (length events + 1) o acknowledge k) ≡ dtack)
      (is_berr : is_high (event_line (length config.boards) (length events + 1) o bus_error k) ≡ berr) where
    -- the levels of the sample
    levels_are : levels_of (edge_sample config events o k) ≡ record { strobe = strobe; ds1 = ds1; ds0 = ds0; dtack = dtack; berr = berr }
    unfolding sample_of
    levels_are =
        rw (
          is_strobe,
          ap is_high (in_run first_strobe ds1_control k) ∙ is_ds1,
          ap is_high (in_run second_strobe ds0_control k) ∙ is_ds0,
          ap is_high (in_run acknowledge dtack_control k) ∙ is_dtack,
          ap is_high (in_run bus_error berr_control k) ∙ is_berr,
        ) refl

  -- at the last edge of the event all but AS* are high
  pub ends_resting : levels_of (edge_sample config events o 19)
      ≡ resting (is_high (value_in_run address_strobe (length config.boards) events o High 19))
  ends_resting =
      let boards = length config.boards in
      let n = length events + 1 in
      levels_are 19 _ true true true true refl
      (ap is_high (ends_high boards n o first_strobe ds1_control)) (ap is_high (ends_high boards n o second_strobe ds0_control))
      (ap is_high (ends_high boards n o acknowledge dtack_control)) (ap is_high (ends_high boards n o bus_error berr_control))

  -- the levels of an event without a handshake
  pub none_levels : HasNone o → (k : ℕ) → levels_of (edge_sample config events o k) ≡ levels_at before false false 7 nothing nothing k
  none_levels none k =
      let boards = length config.boards in
      let n = length events + 1 in
      levels_are k before true true true true
      (strobe_here k ∙ rw (ap opens_with none.first, none_ends o none.first) refl)
      (none_level boards n o first_strobe ds1_control none k)
      (none_level boards n o second_strobe ds0_control none k)
      (none_level boards n o acknowledge dtack_control none k)
      (none_level boards n o bus_error berr_control none k)

  -- a single handshake is an early one
  one_early : (first second : Option Handshake) (t : Handshake) → ArePaired first second → first ≡ Some t → second ≡ None → t.late ≡ false
  one_early None second t pair is none = absurd (cc is)
  one_early (Some s) (Some u) t pair is none = absurd (cc none)
  one_early (Some s) None t pair is none = ap (λ (h : Handshake). h.late) (sym (same_Some _ _ is)) ∙ pair

  -- the levels of an event with one handshake
  pub one_levels : (one : HasOne o) (k : ℕ)
      → levels_of (edge_sample config events o k)
      ≡ levels_at before one.t.opens (has_ended o) 7 (falls_in (not one.t.lines.strobes.ds1) (not one.t.lines.strobes.ds0) one.t.berr) nothing k
  one_levels one k =
      let boards = length config.boards in
      let n = length events + 1 in
      let early : one.t.late ≡ false
      = one_early (first_handshake o.activity o.reply) (second_handshake o.activity o.reply) one.t (event_paired o.activity o.reply) one.first one.second in
      let t = one.t in
      levels_are k _ _ _ _ _
      (strobe_here k ∙ rw (ap opens_with one.first, ap {B = ℕ} (λ (u : Option Handshake). if is_some u then 16 else 7) one.second) refl)
      (one_level boards n o first_strobe ds1_control one k
      ∙ rw early (sym (and_true (high_at (not t.lines.strobes.ds1) 2 7 k) true refl)))
      (one_level boards n o second_strobe ds0_control one k
      ∙ rw early (sym (and_true (high_at (not t.lines.strobes.ds0) 2 7 k) true refl)))
      (one_level boards n o acknowledge dtack_control one k
      ∙ rw early (sym (and_true (high_at (not t.berr) 4 9 k) true refl)))
      (one_level boards n o bus_error berr_control one k
      ∙ rw early (sym (and_true (high_at t.berr 4 9 k) true refl)))

  -- the levels of an event with two
  pub two_levels : (two : HasTwo o) (k : ℕ)
      → levels_of (edge_sample config events o k)
      ≡ levels_at before two.t.opens (has_ended o) 16 (falls_in (not two.t.lines.strobes.ds1) (not two.t.lines.strobes.ds0) two.t.berr)
      (falls_in (not two.u.lines.strobes.ds1) (not two.u.lines.strobes.ds0) two.u.berr) k
  two_levels two k =
      let boards = length config.boards in
      let n = length events + 1 in
      levels_are k _ _ _ _ _
      (strobe_here k ∙ rw (ap opens_with two.first, ap {B = ℕ} (λ (u : Option Handshake). if is_some u then 16 else 7) two.second) refl)
      (two_level boards n o first_strobe ds1_control two k 2 7 11 16
      (rw two.early refl) (rw two.early refl) (rw two.late refl) (rw two.late refl) (omega arith) (omega arith))
      (two_level boards n o second_strobe ds0_control two k 2 7 11 16
      (rw two.early refl) (rw two.early refl) (rw two.late refl) (rw two.late refl) (omega arith) (omega arith))
      (two_level boards n o acknowledge dtack_control two k 4 9 13 18
      (rw two.early refl) (rw two.early refl) (rw two.late refl) (rw two.late refl) (omega arith) (omega arith))
      (two_level boards n o bus_error berr_control two k 4 9 13 18
      (rw two.early refl) (rw two.early refl) (rw two.late refl) (rw two.late refl) (omega arith) (omega arith))
