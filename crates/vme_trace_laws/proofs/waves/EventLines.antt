-- The lines of a cycle in an event, by its handshakes.
use Rattle.std.proofs.Common.{◌≡◌, ◌≢◌, ℕ, ◌+◌, ◌-◌, ◌<◌, ◌≤◌, Bool, true, false, not, if◌then◌else◌, [], Option, None, refl, ap, sym, subst, ◌∙◌, arith, inl, inr}
use Rattle.std.specs.Prelude.{flat_map}
use Rattle.std.specs.List.{range_with_len}
use Rattle.std.proofs.lemmas.Bool.{ne_eqb, le-leb}
use Rattle.vme_trace.specs.declared.observation.Observation.{Observation}
use Rattle.vme_trace.specs.declared.dump.change.Code.{Code}
use Rattle.vme_trace.specs.declared.dump.change.Value.{Value}
use Rattle.vme_trace.specs.declared.dump.change.Value.TheVariants.{Low, High, Lanes}
use Rattle.vme_trace.specs.Changes.{no_lanes}
use Rattle.vme_trace.specs.declared.dump.handshake.Handshake.{Handshake}
use Rattle.vme_trace.specs.Variables.{bus_code}
use Rattle.vme_trace.specs.Handshakes.{edge_of, first_handshake, second_handshake}
use Rattle.vme_trace.specs.Bus.{is_wide, drive_edge, lower_lanes, upper_lanes, handshake_changes, some_handshake_changes}
use Rattle.vme_trace.specs.Slots.{slot_changes}
use Rattle.vme_trace.specs.Events.{name_changes, holder_changes, request_line_changes, bus_changes, event_changes}
use Rattle.vme_trace_laws.specs.Shown.{data_lines, upper_data_lines, IsStrobe, IsAnswer}
use Rattle.vme_trace.specs.Shown.{is_code, value_after, value_at}
use Rattle.vme_trace_laws.proofs.waves.Afters.{silent, after_append}
use Rattle.vme_trace_laws.proofs.waves.Pulses.{pulse}
use Rattle.vme_trace_laws.proofs.waves.Groups.{first_strobe_after, second_strobe_after, done_after, error_after, data_after, upper_data_after}
use Rattle.vme_trace_laws.proofs.waves.Quiet.{none_quiet, each_quiet}
use Rattle.vme_trace_laws.proofs.waves.Values.{at_pulse, pulse_late}
use Rattle.vme_trace_laws.proofs.waves.Events.{name_quiet, holder_quiet, request_line_quiet}
use Rattle.vme_trace_laws.proofs.waves.Slots.{bus_quiet}
use Rattle.vme_trace_laws.proofs.waves.Strobes.{edge_order}
use Rattle.vme_trace_laws.proofs.waves.Shapes.{HasOne, HasTwo}
use Rattle.vme_trace_laws.proofs.waves.Joined.{early_at, late_at}

-- a line of a cycle, by the number of its letter
pub record IsCycleLine (line : Code) : Type 0 where
  pub number : ℕ
  pub is : line ≡ bus_code number
  pub past : 72 < number

-- a letter before those of a cycle is another
apart : (a x : ℕ) → a ≤ 72 → 72 < x → is_code (bus_code x) (bus_code a) ≡ false
apart a x below past = ne_eqb a x (λ same. absurd (omega (arith, same, below, past)))

-- a line of a cycle is moved by the handshakes of an event alone
letter_parts : (x boards n : ℕ) (o : Observation) → 72 < x → (k : ℕ) (v : Value)
    → value_after (bus_code x) k (event_changes boards n o) v
    ≡ value_after (bus_code x) k (some_handshake_changes (second_handshake o.activity o.reply))
    (value_after (bus_code x) k (some_handshake_changes (first_handshake o.activity o.reply)) v)
unfolding event_changes bus_changes
letter_parts x boards n o past k v =
    let code : Code = bus_code x in
    let first = some_handshake_changes (first_handshake o.activity o.reply) in
    let second = some_handshake_changes (second_handshake o.activity o.reply) in
    after_append code k (bus_changes n o) (flat_map (slot_changes o) (range_with_len 0 boards)) v
    ∙ each_quiet code (slot_changes o) (range_with_len 0 boards) (λ j. bus_quiet x o j) k (value_after code k (bus_changes n o) v)
    ∙ silent code k (name_changes n o) _ v (name_quiet code n o (apart 65 x (omega arith) past) (apart 66 x (omega arith) past) k v)
    ∙ silent code k (holder_changes o) _ v (holder_quiet code o (apart 67 x (omega arith) past) (apart 68 x (omega arith) past) k v)
    ∙ silent code k (request_line_changes o) _ v (request_line_quiet code o (λ level. apart (72 - level) x (omega arith) past) k v)
    ∙ after_append code k first second v

-- the same, of a line
line_parts : (line : Code) (boards n : ℕ) (o : Observation) → IsCycleLine line → (k : ℕ) (v : Value)
    → value_after line k (event_changes boards n o) v
    ≡ value_after line k (some_handshake_changes (second_handshake o.activity o.reply))
    (value_after line k (some_handshake_changes (first_handshake o.activity o.reply)) v)
line_parts line boards n o own k v = rw own.is (letter_parts own.number boards n o own.past k v)

-- in an event without a handshake the lines of a cycle stay as they are
pub none_parts : (line : Code) (boards n : ℕ) (o : Observation) → IsCycleLine line → first_handshake o.activity o.reply ≡ None
    → second_handshake o.activity o.reply ≡ None → (k : ℕ) (v : Value) → value_after line k (event_changes boards n o) v ≡ value_after line k [] v
none_parts line boards n o own first second k v =
    line_parts line boards n o own k v
    ∙ ap (λ (found : Option Handshake). value_after line k (some_handshake_changes found) (value_after line k (some_handshake_changes (first_handshake o.activity o.reply)) v)) second
    ∙ none_quiet line k (value_after line k (some_handshake_changes (first_handshake o.activity o.reply)) v)
    ∙ ap (λ (found : Option Handshake). value_after line k (some_handshake_changes found) v) first

-- the lines of a cycle in an event with one handshake
pub one_parts : (line : Code) (boards n : ℕ) (o : Observation) (one : HasOne o) → IsCycleLine line → (k : ℕ) (v : Value)
    → value_after line k (event_changes boards n o) v ≡ value_after line k (handshake_changes one.t) v
one_parts line boards n o one own k v =
    line_parts line boards n o own k v
    ∙ ap (λ (found : Option Handshake). value_after line k (some_handshake_changes found) (value_after line k (some_handshake_changes (first_handshake o.activity o.reply)) v)) one.second
    ∙ none_quiet line k (value_after line k (some_handshake_changes (first_handshake o.activity o.reply)) v)
    ∙ ap (λ (found : Option Handshake). value_after line k (some_handshake_changes found) v) one.first

-- the lines of a cycle in an event with two handshakes
pub two_parts : (line : Code) (boards n : ℕ) (o : Observation) (two : HasTwo o) → IsCycleLine line → (k : ℕ) (v : Value)
    → value_after line k (event_changes boards n o) v ≡ value_after line k (handshake_changes two.u) (value_after line k (handshake_changes two.t) v)
two_parts line boards n o two own k v =
    line_parts line boards n o own k v
    ∙ ap (λ (found : Option Handshake). value_after line k (some_handshake_changes found) (value_after line k (some_handshake_changes (first_handshake o.activity o.reply)) v)) two.second
    ∙ ap (λ (found : Option Handshake). value_after line k (handshake_changes two.u) (value_after line k (some_handshake_changes found) v)) two.first

-- a line takes a value within a handshake and then another, if it moves at all
pub record IsPulsed (line : Code) (t : Handshake) (first later : Value) : Type 0 where
  pub moves : Bool
  pub down : ℕ
  pub up : ℕ
  pub lower : edge_of t 0 ≤ down
  pub order : down < up
  pub upper : up ≤ edge_of t 8
  pub each : (k : ℕ) (v : Value) → value_after line k (handshake_changes t) v ≡ pulse first later moves moves down up k v

-- the edges of a handshake have the order of their numbers
edges_up : (late : Bool) (a b : ℕ) → a ≤ b → (if late then 10 + a else 1 + a) ≤ (if late then 10 + b else 1 + b)
edges_up false a b order = omega (arith, order)
edges_up true a b order = omega (arith, order)

-- a data strobe in a handshake
pub strobe_pulsed : (line : Code) (t : Handshake) → IsStrobe line → IsPulsed line t Low High
strobe_pulsed line t (inl same) = subst (λ (code : Code). IsPulsed code t Low High) (sym same) (record {
  moves = not t.lines.strobes.ds1;
  down = edge_of t 1;
  up = edge_of t 6;
  lower = edges_up t.late 0 1 (omega arith);
  order = edge_order t.late 1 6 (omega arith);
  upper = edges_up t.late 6 8 (omega arith);
  each = λ k v. first_strobe_after k t v;
})
strobe_pulsed line t (inr same) = subst (λ (code : Code). IsPulsed code t Low High) (sym same) (record {
  moves = not t.lines.strobes.ds0;
  down = edge_of t 1;
  up = edge_of t 6;
  lower = edges_up t.late 0 1 (omega arith);
  order = edge_order t.late 1 6 (omega arith);
  upper = edges_up t.late 6 8 (omega arith);
  each = λ k v. second_strobe_after k t v;
})

-- an answer in a handshake
pub answer_pulsed : (line : Code) (t : Handshake) → IsAnswer line → IsPulsed line t Low High
answer_pulsed line t (inl same) = subst (λ (code : Code). IsPulsed code t Low High) (sym same) (record {
  moves = not t.berr;
  down = edge_of t 3;
  up = edge_of t 8;
  lower = edges_up t.late 0 3 (omega arith);
  order = edge_order t.late 3 8 (omega arith);
  upper = edges_up t.late 8 8 (omega arith);
  each = λ k v. done_after k t v;
})
answer_pulsed line t (inr same) = subst (λ (code : Code). IsPulsed code t Low High) (sym same) (record {
  moves = t.berr;
  down = edge_of t 3;
  up = edge_of t 8;
  lower = edges_up t.late 0 3 (omega arith);
  order = edge_order t.late 3 8 (omega arith);
  upper = edges_up t.late 8 8 (omega arith);
  each = λ k v. error_after k t v;
})

-- the data are driven within a handshake
drive_lower : (write late : Bool) → (if late then 10 + 0 else 1 + 0) ≤ (if write then (if late then 10 + 2 else 1 + 2) else (if late then 10 + 0 else 1 + 0))
drive_lower false late = edges_up late 0 0 (omega arith)
drive_lower true late = edges_up late 0 2 (omega arith)

-- the data are driven before they are taken off the lines
drive_order : (write late : Bool) → (if write then (if late then 10 + 2 else 1 + 2) else (if late then 10 + 0 else 1 + 0)) < (if late then 10 + 7 else 1 + 7)
drive_order false late = edge_order late 0 7 (omega arith)
drive_order true late = edge_order late 2 7 (omega arith)

-- the data in a handshake
pub data_pulsed : (t : Handshake) → IsPulsed data_lines t (Lanes (lower_lanes t.lines.lanes)) no_lanes
data_pulsed t = record {
  moves = t.carries;
  down = drive_edge t;
  up = edge_of t 7;
  lower = drive_lower t.lines.write t.late;
  order = drive_order t.lines.write t.late;
  upper = edges_up t.late 7 8 (omega arith);
  each = λ k v. data_after k t v;
}

-- the upper half of eight-byte data in a handshake
pub upper_data_pulsed : (t : Handshake) → IsPulsed upper_data_lines t (Lanes (upper_lanes t.lines.lanes)) no_lanes
upper_data_pulsed t = record {
  moves = is_wide t;
  down = drive_edge t;
  up = edge_of t 7;
  lower = drive_lower t.lines.write t.late;
  order = drive_order t.lines.write t.late;
  upper = edges_up t.late 7 8 (omega arith);
  each = λ k v. upper_data_after k t v;
}

-- a line that does not move at an edge keeps its value
pub pulse_still : (first later : Value) (moves : Bool) (down up k : ℕ) (v : Value) → down ≢ k → up ≢ k → pulse first later moves moves down up k v ≡ v
pulse_still first later false down up k v no_fall no_rise = refl
pulse_still first later true down up k v no_fall no_rise = rw (ne_eqb down k no_fall, ne_eqb up k no_rise) refl

-- an early handshake leaves a line alone from edge 10 on
early_quiet : (line : Code) (t : Handshake) (first later : Value) → IsPulsed line t first later → t.late ≡ false → (k : ℕ) → 9 < k → (v : Value)
    → value_after line k (handshake_changes t) v ≡ v
early_quiet line t first later p early k past v =
    let last : edge_of t 8 ≡ 9 = rw early refl in
    p.each k v
    ∙ pulse_still first later p.moves p.down p.up k v (λ same. absurd (omega (arith, same, p.order, p.upper, last, past)))
    (λ same. absurd (omega (arith, same, p.upper, last, past)))

-- a late handshake leaves a line alone up to edge 9
late_quiet : (line : Code) (u : Handshake) (first later : Value) → IsPulsed line u first later → u.late ≡ true → (k : ℕ) → k ≤ 9 → (v : Value)
    → value_after line k (handshake_changes u) v ≡ v
late_quiet line u first later p late k soon v =
    let begins : edge_of u 0 ≡ 10 = rw late refl in
    p.each k v
    ∙ pulse_still first later p.moves p.down p.up k v (λ same. absurd (omega (arith, same, p.lower, begins, soon)))
    (λ same. absurd (omega (arith, same, p.order, p.lower, begins, soon)))

-- after a handshake a line has its later value, if it had that before
pub rest_by : (moves : Bool) (first later : Value) → (if moves then later else (if moves then first else later)) ≡ later
rest_by false first later = refl
rest_by true first later = refl

-- a line is at rest after a handshake
pub rests : (line : Code) (t : Handshake) (first later : Value) → IsPulsed line t first later → (k : ℕ) → edge_of t 8 ≤ k
    → value_at line (handshake_changes t) later k ≡ later
rests line t first later p k past =
    at_pulse line (handshake_changes t) first later later p.moves p.moves p.down p.up p.order p.each k
    ∙ pulse_late first later later p.moves p.moves p.down p.up k (le-leb p.down k (omega (arith, p.order, p.upper, past)))
    (le-leb p.up k (omega (arith, p.upper, past)))
    ∙ rest_by p.moves first later

module _ (line : Code) (boards n : ℕ) (o : Observation) (two : HasTwo o) (first_t first_u later : Value) (own : IsCycleLine line)
    (p : IsPulsed line two.t first_t later) (q : IsPulsed line two.u first_u later) where
  -- up to edge 9 a line is as in the first handshake
  pub two_early : (before : Value) (k : ℕ) → k ≤ 9 → value_at line (event_changes boards n o) before k ≡ value_at line (handshake_changes two.t) before k
  two_early before k soon =
      early_at line (event_changes boards n o) (handshake_changes two.t) (handshake_changes two.u) 9 (two_parts line boards n o two own)
      (early_quiet line two.t first_t later p two.early) (late_quiet line two.u first_u later q two.late) before k soon

  -- from edge 9 on a line is as in the second handshake
  pub two_late : (before : Value) (k : ℕ) → 9 ≤ k
      → value_at line (event_changes boards n o) before k ≡ value_at line (handshake_changes two.u) (value_at line (handshake_changes two.t) before 9) k
  two_late before k past =
      late_at line (event_changes boards n o) (handshake_changes two.t) (handshake_changes two.u) 9 (two_parts line boards n o two own)
      (early_quiet line two.t first_t later p two.early) (late_quiet line two.u first_u later q two.late) before k past

  -- from edge 9 on a line that was at rest is as in the second handshake
  pub two_last : (k : ℕ) → 9 ≤ k → value_at line (event_changes boards n o) later k ≡ value_at line (handshake_changes two.u) later k
  two_last k past =
      let last : edge_of two.t 8 ≡ 9 = rw two.early refl in
      two_late later k past
      ∙ ap (λ (v : Value). value_at line (handshake_changes two.u) v k) (rests line two.t first_t later p 9 (omega (arith, last)))
