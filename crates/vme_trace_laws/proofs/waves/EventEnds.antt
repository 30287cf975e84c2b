-- The data of an event, and the lines of a cycle after it.
use Rattle.std.proofs.Common.{◌≡◌, ℕ, ◌+◌, ◌<◌, ◌≤◌, ◌||◌, Bool, true, false, if◌then◌else◌, Option, Some, None, refl, ap, sym, subst, ◌∙◌, arith, inl, inr, IsTrue}
use Rattle.std.proofs.lemmas.Bool.{false≢true, cases_lt, le-leb}
use Rattle.std.proofs.lemmas.Option.{same_Some}
use Rattle.vme_trace.specs.declared.observation.Observation.{Observation}
use Rattle.vme_trace.specs.declared.dump.change.Code.{Code}
use Rattle.vme_trace.specs.declared.dump.change.Value.{Value}
use Rattle.vme_trace.specs.declared.dump.change.Value.TheVariants.{Low, High, Lanes}
use Rattle.vme_trace.specs.Changes.{no_lanes}
use Rattle.vme_trace.specs.declared.dump.handshake.Handshake.{Handshake}
use Rattle.vme_trace.specs.Handshakes.{edge_of, first_handshake, second_handshake}
use Rattle.vme_trace.specs.Bus.{lower_lanes, upper_lanes, handshake_changes}
use Rattle.vme_trace.specs.Slots.{ends_with, has_ended}
use Rattle.vme_trace.specs.Events.{event_changes}
use Rattle.vme_trace_laws.specs.Shown.{address_strobe, data_lines, upper_data_lines, line_at, IsStrobe, IsAnswer}
use Rattle.vme_trace.specs.Shown.{value_at}
use Rattle.vme_trace_laws.specs.Events.{IsHandshakeOf, IsWithin, event_line}
use Rattle.vme_trace_laws.proofs.waves.Groups.{address_strobe_after}
use Rattle.vme_trace_laws.proofs.waves.Values.{at_pulse}
use Rattle.vme_trace_laws.proofs.waves.Strobes.{answer_within, data_stand}
use Rattle.vme_trace_laws.proofs.waves.Shapes.{HasTwo, shape}
use Rattle.vme_trace_laws.proofs.waves.EventLines.{IsCycleLine, IsPulsed, data_pulsed, upper_data_pulsed, two_early, two_late, two_last, rests}
use Rattle.vme_trace_laws.proofs.waves.Rules.{IsControl, strobe_control, answer_control, none_stays, one_is, early_is, late_is, two_strobe}

-- no handshake is found where there is none
none_found : (found : Option Handshake) (t : Handshake) → found ≡ None → found ≡ Some t → ⊥
none_found found t none some = cc

-- a handshake that is found is the one that is there
same_found : (found : Option Handshake) (t u : Handshake) → found ≡ Some t → found ≡ Some u → t ≡ u
same_found found t u first second = same_Some _ _ (sym first ∙ second)

-- D31 to D00 are lines of a cycle
data_line : IsCycleLine data_lines
data_line = record { number = 80; is = refl; past = omega arith }

-- D63 to D32 are lines of a cycle
upper_data_line : IsCycleLine upper_data_lines
upper_data_line = record { number = 81; is = refl; past = omega arith }

-- the last edge of an early handshake
early_last : (late : Bool) → late ≡ false → (if late then 19 else 10) ≤ 10
early_last false early = omega arith
early_last true early = absurd (false≢true (sym early))

-- the edges of a late handshake
late_first : (late : Bool) (k after : ℕ) → late ≡ true → (if late then 10 + after else 1 + after) ≤ k → 10 + after ≤ k
late_first true k after late past = past
late_first false k after late past = absurd (false≢true late)

module _ (boards n : ℕ) (o : Observation) where
  -- the data of the first of two handshakes
  early_data : (two : HasTwo o) (line strobe : Code) (k : ℕ) (before : Value) → IsTrue two.t.carries → IsAnswer line → IsStrobe strobe → IsWithin two.t k
      → event_line boards n o line k ≡ Low → event_line boards n o strobe k ≡ Low
      → value_at data_lines (event_changes boards n o) before k ≡ Lanes (lower_lanes two.t.lines.lanes)
  early_data two line strobe k before carries is is_strobe within low strobe_low =
      elim (cases_lt k 10) [
        | inl soon ↦
            let by : k ≤ 9 = omega (arith, soon) in
            two_early data_lines boards n o two (Lanes (lower_lanes two.t.lines.lanes)) (Lanes (lower_lanes two.u.lines.lanes)) no_lanes data_line
            (data_pulsed two.t) (data_pulsed two.u) before k by
            ∙ data_stand two.t line strobe k before carries is is_strobe (sym (early_is boards n o two line (answer_control line is) k by) ∙ low)
            (sym (early_is boards n o two strobe (strobe_control strobe is_strobe) k by) ∙ strobe_low)
        | inr past ↦
            let answer = answer_within two.u line k is (sym (late_is boards n o two line (answer_control line is) k (omega (arith, past))) ∙ low) in
            absurd (omega (arith, within.1, early_last two.t.late two.early, late_first two.u.late k 3 two.late answer.0))
      ]

  -- the data of the second
  late_data : (two : HasTwo o) (line strobe : Code) (k : ℕ) (before : Value) → IsTrue two.u.carries → IsAnswer line → IsStrobe strobe → IsWithin two.u k
      → event_line boards n o line k ≡ Low → event_line boards n o strobe k ≡ Low
      → value_at data_lines (event_changes boards n o) before k ≡ Lanes (lower_lanes two.u.lines.lanes)
  late_data two line strobe k before carries is is_strobe within low strobe_low =
      let by : 9 ≤ k = omega (arith, late_first two.u.late k 0 two.late within.0) in
      two_late data_lines boards n o two (Lanes (lower_lanes two.t.lines.lanes)) (Lanes (lower_lanes two.u.lines.lanes)) no_lanes data_line
      (data_pulsed two.t) (data_pulsed two.u) before k by
      ∙ data_stand two.u line strobe k (value_at data_lines (handshake_changes two.t) before 9) carries is is_strobe
      (sym (late_is boards n o two line (answer_control line is) k by) ∙ low)
      (sym (late_is boards n o two strobe (strobe_control strobe is_strobe) k by) ∙ strobe_low)

  -- while an answer and a strobe are low within a handshake, the data lines show its bytes
  pub event_data : (t : Handshake) (line strobe : Code) (k : ℕ) (before : Value) → IsHandshakeOf o t → IsTrue t.carries → IsAnswer line → IsStrobe strobe
      → IsWithin t k → event_line boards n o line k ≡ Low → event_line boards n o strobe k ≡ Low
      → value_at data_lines (event_changes boards n o) before k ≡ Lanes (lower_lanes t.lines.lanes)
  event_data t line strobe k before (inl first) carries is is_strobe within low strobe_low =
      elim (shape o) [
        | inl none ↦ absurd (none_found (first_handshake o.activity o.reply) t none.first first)
        | inr (inl one) ↦
            let same = same_found (first_handshake o.activity o.reply) one.t t one.first first in
            one_is boards n o one data_lines data_line before k
            ∙ subst (λ (s : Handshake). value_at data_lines (handshake_changes s) before k ≡ Lanes (lower_lanes t.lines.lanes)) (sym same)
            (data_stand t line strobe k before carries is is_strobe
            (ap (λ (s : Handshake). line_at s line k) (sym same) ∙ sym (one_is boards n o one line (answer_control line is).own High k) ∙ low)
            (ap (λ (s : Handshake). line_at s strobe k) (sym same) ∙ sym (one_is boards n o one strobe (strobe_control strobe is_strobe).own High k) ∙ strobe_low))
        | inr (inr two) ↦
            let same = same_found (first_handshake o.activity o.reply) two.t t two.first first in
            early_data two line strobe k before (subst (λ (s : Handshake). IsTrue s.carries) (sym same) carries) is is_strobe
            (subst (λ (s : Handshake). IsWithin s k) (sym same) within) low strobe_low
            ∙ ap (λ (s : Handshake). Lanes (lower_lanes s.lines.lanes)) same
      ]
  event_data t line strobe k before (inr second) carries is is_strobe within low strobe_low =
      elim (shape o) [
        | inl none ↦ absurd (none_found (second_handshake o.activity o.reply) t none.second second)
        | inr (inl one) ↦ absurd (none_found (second_handshake o.activity o.reply) t one.second second)
        | inr (inr two) ↦
            let same = same_found (second_handshake o.activity o.reply) two.u t two.second second in
            late_data two line strobe k before (subst (λ (s : Handshake). IsTrue s.carries) (sym same) carries) is is_strobe
            (subst (λ (s : Handshake). IsWithin s k) (sym same) within) low strobe_low
            ∙ ap (λ (s : Handshake). Lanes (lower_lanes s.lines.lanes)) same
      ]

  -- a line that has its later value before an event has it after the event
  ends_at_rest : (line : Code) (later : Value) (k : ℕ) (first : Handshake → Value) → IsCycleLine line
      → ((t : Handshake) → IsPulsed line t (first t) later) → 18 ≤ k → value_at line (event_changes boards n o) later k ≡ later
  ends_at_rest line later k first own pulsed past =
      elim (shape o) [
        | inl none ↦ none_stays boards n o none line own later k
        | inr (inl one) ↦ one_is boards n o one line own later k ∙ rests line one.t (first one.t) later (pulsed one.t) k (last_edge one.t.late k past)
        | inr (inr two) ↦
            two_last line boards n o two (first two.t) (first two.u) later own (pulsed two.t) (pulsed two.u) k (omega (arith, past))
            ∙ rests line two.u (first two.u) later (pulsed two.u) k (last_edge two.u.late k past)
      ]
    where
      last_edge : (late : Bool) (k : ℕ) → 18 ≤ k → (if late then 18 else 9) ≤ k
      last_edge false k past = omega (arith, past)
      last_edge true k past = omega (arith, past)

  -- an event ends with strobes and answers high
  pub ends_high : (line : Code) → IsControl line → event_line boards n o line 19 ≡ High
  ends_high line c = ends_at_rest line High 19 (λ t. Low) c.own c.pulsed (omega arith)

  -- an event ends without data
  pub ends_released : value_at data_lines (event_changes boards n o) no_lanes 19 ≡ no_lanes
  ends_released = ends_at_rest data_lines no_lanes 19 (λ t. Lanes (lower_lanes t.lines.lanes)) data_line data_pulsed (omega arith)

  -- and without data on D63 to D32
  pub ends_upper_released : value_at upper_data_lines (event_changes boards n o) no_lanes 19 ≡ no_lanes
  ends_upper_released = ends_at_rest upper_data_lines no_lanes 19 (λ t. Lanes (upper_lanes t.lines.lanes)) upper_data_line upper_data_pulsed (omega arith)

  -- the last edge at which AS* rises
  rise_within : (late : Bool) → (if late then 16 else 7) ≤ 19
  rise_within false = omega arith
  rise_within true = omega arith

  -- AS* falls before it rises
  rise_order : (late : Bool) → 1 < (if late then 16 else 7)
  rise_order false = omega arith
  rise_order true = omega arith

  -- a first part that does not hold leaves the second
  second_holds : (first second : Bool) → first ≡ false → first || second ≡ true → second ≡ true
  second_holds false second none some = some
  second_holds true second none some = absurd (false≢true (sym none))

  -- a second part that does not hold leaves the first
  first_holds : (first : Bool) → first || false ≡ true → first ≡ true
  first_holds true some = refl
  first_holds false some = absurd (false≢true some)

  -- a transfer that ends with an event leaves AS* high
  pub ends_transfer : (before : Value) → has_ended o ≡ true → value_at address_strobe (event_changes boards n o) before 19 ≡ High
  ends_transfer before ended =
      elim (shape o) [
        | inl none ↦ absurd (false≢true (sym (ap (λ (t : Option Handshake). ends_with t || ends_with (second_handshake o.activity o.reply)) none.first
            ∙ ap ends_with none.second) ∙ ended))
        | inr (inl one) ↦
            let ends : one.t.ends ≡ true
            = first_holds one.t.ends (sym (ap (λ (t : Option Handshake). ends_with t || ends_with (second_handshake o.activity o.reply)) one.first
            ∙ ap (λ (t : Option Handshake). one.t.ends || ends_with t) one.second) ∙ ended) in
            one_is boards n o one address_strobe (record { number = 73; is = refl; past = omega arith }) before 19
            ∙ at_pulse address_strobe (handshake_changes one.t) Low High before one.t.opens one.t.ends 1 (edge_of one.t 6) (rise_order one.t.late)
            (λ k v. address_strobe_after k one.t v) 19
            ∙ rw (ends, le-leb (edge_of one.t 6) 19 (rise_within one.t.late)) refl
        | inr (inr two) ↦
            let ends : two.u.ends ≡ true
            = second_holds two.t.ends two.u.ends two.goes_on
            (sym (ap (λ (t : Option Handshake). ends_with t || ends_with (second_handshake o.activity o.reply)) two.first
            ∙ ap (λ (t : Option Handshake). two.t.ends || ends_with t) two.second) ∙ ended) in
            at_pulse address_strobe (event_changes boards n o) Low High before two.t.opens two.u.ends 1 (edge_of two.u 6) (rise_order two.u.late)
            (two_strobe boards n o two) 19
            ∙ rw (ends, le-leb (edge_of two.u 6) 19 (rise_within two.u.late)) refl
      ]
