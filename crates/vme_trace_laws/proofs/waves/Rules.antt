-- The rules of the handshake in a whole event.
use Rattle.std.proofs.Common.{◌≡◌, ◌≢◌, ◌⊎◌, ℕ, suc, ◌<◌, ◌≤◌, Bool, true, false, if◌then◌else◌, [], Some, refl, ap, sym, subst, ◌∙◌, arith, inl, inr}
use Rattle.std.proofs.lemmas.Bool.{cases_lt}
use Rattle.std.proofs.lemmas.Option.{same_Some}
use Rattle.vme_trace.specs.declared.observation.Observation.{Observation}
use Rattle.vme_trace.specs.declared.dump.change.Code.{Code}
use Rattle.vme_trace.specs.declared.dump.change.Value.{Value}
use Rattle.vme_trace.specs.declared.dump.change.Value.TheVariants.{Low, High}
use Rattle.vme_trace.specs.declared.dump.handshake.Handshake.{Handshake}
use Rattle.vme_trace.specs.Variables.{bus_code}
use Rattle.vme_trace.specs.Handshakes.{edge_of, first_handshake, second_handshake}
use Rattle.vme_trace.specs.Bus.{handshake_changes}
use Rattle.vme_trace.specs.Events.{event_changes}
use Rattle.vme_trace_laws.specs.Shown.{first_strobe, second_strobe, acknowledge, bus_error, line_at, IsStrobe, IsAnswer}
use Rattle.vme_trace.specs.Shown.{value_after, value_at}
use Rattle.vme_trace_laws.specs.Events.{HasStrobes, event_line, strobe_before, event_strobe}
use Rattle.vme_trace_laws.proofs.waves.Pulses.{pulse, not_both}
use Rattle.vme_trace_laws.proofs.waves.Groups.{address_strobe_after}
use Rattle.vme_trace_laws.proofs.waves.Quiet.{none_quiet}
use Rattle.vme_trace_laws.proofs.waves.Strobes.{strobe_within, under, falls_under_strobe, rises_after_strobes, one_answer}
use Rattle.vme_trace_laws.proofs.waves.Shapes.{HasNone, HasOne, HasTwo, shape}
use Rattle.vme_trace_laws.proofs.waves.Joined.{same_at, stays_at}
use Rattle.vme_trace_laws.proofs.waves.EventLines.{IsCycleLine, none_parts, one_parts, two_parts, IsPulsed, strobe_pulsed, answer_pulsed, two_early, two_last}

-- a data strobe is a line of a cycle
strobe_line : (line : Code) → IsStrobe line → IsCycleLine line
strobe_line line (inl same) = record { number = 78; is = same; past = omega arith }
strobe_line line (inr same) = record { number = 79; is = same; past = omega arith }

-- an answer is a line of a cycle
answer_line : (line : Code) → IsAnswer line → IsCycleLine line
answer_line line (inl same) = record { number = 82; is = same; past = omega arith }
answer_line line (inr same) = record { number = 83; is = same; past = omega arith }

-- a line that is a data strobe or an answer, which is high before an event
pub record IsControl (line : Code) : Type 0 where
  pub own : IsCycleLine line
  pub pulsed : (t : Handshake) → IsPulsed line t Low High

-- a data strobe
pub strobe_control : (line : Code) → IsStrobe line → IsControl line
strobe_control line is = record { own = strobe_line line is; pulsed = λ t. strobe_pulsed line t is }

-- an answer
pub answer_control : (line : Code) → IsAnswer line → IsControl line
answer_control line is = record { own = answer_line line is; pulsed = λ t. answer_pulsed line t is }

module _ (boards n : ℕ) (o : Observation) where
  -- in an event without a handshake a line stays
  pub none_stays : (none : HasNone o) (line : Code) → IsCycleLine line → (before : Value) (k : ℕ) → value_at line (event_changes boards n o) before k ≡ before
  none_stays none line own before k =
      same_at line (event_changes boards n o) [] (none_parts line boards n o own none.first none.second) before k
      ∙ stays_at line [] k (λ i soon v. none_quiet line i v) before k (omega arith)

  -- in an event with one handshake a line is as in that handshake
  pub one_is : (one : HasOne o) (line : Code) → IsCycleLine line → (before : Value) (k : ℕ)
      → value_at line (event_changes boards n o) before k ≡ value_at line (handshake_changes one.t) before k
  one_is one line own before k = same_at line (event_changes boards n o) (handshake_changes one.t) (one_parts line boards n o one own) before k

  -- up to edge 9 of an event with two handshakes a line is as in the first
  pub early_is : (two : HasTwo o) (line : Code) → IsControl line → (k : ℕ) → k ≤ 9 → event_line boards n o line k ≡ line_at two.t line k
  early_is two line c k soon =
      two_early line boards n o two Low Low High c.own (c.pulsed two.t) (c.pulsed two.u) High k soon

  -- from edge 9 on it is as in the second
  pub late_is : (two : HasTwo o) (line : Code) → IsControl line → (k : ℕ) → 9 ≤ k → event_line boards n o line k ≡ line_at two.u line k
  late_is two line c k past = two_last line boards n o two Low Low High c.own (c.pulsed two.t) (c.pulsed two.u) k past

  -- AS* in an event with two handshakes
  pub two_strobe : (two : HasTwo o) (k : ℕ) (v : Value)
      → value_after (bus_code 73) k (event_changes boards n o) v ≡ pulse Low High two.t.opens two.u.ends 1 (edge_of two.u 6) k v
  two_strobe two k v =
      two_parts (bus_code 73) boards n o two (record { number = 73; is = refl; past = omega arith }) k v
      ∙ ap (value_after (bus_code 73) k (handshake_changes two.u)) (address_strobe_after k two.t v)
      ∙ address_strobe_after k two.u (pulse Low High two.t.opens two.t.ends 1 (edge_of two.t 6) k v)
      ∙ rw (two.opened, two.goes_on) refl

  -- AS* before an event with a handshake
  strobe_opens : (t : Handshake) → first_handshake o.activity o.reply ≡ Some t
      → strobe_before (first_handshake o.activity o.reply) ≡ (if t.opens then High else Low)
  strobe_opens t first = ap strobe_before first

  -- AS* stays low up to the end of the second handshake
  stays_low : (two : HasTwo o) (k : ℕ) → 1 ≤ k → k < edge_of two.u 6 → event_strobe boards n o k ≡ Low
  stays_low two k past soon =
      ap (λ (v : Value). value_at (bus_code 73) (event_changes boards n o) v k) (strobe_opens two.t two.first)
      ∙ under two.t.opens two.u.ends (event_changes boards n o) (edge_of two.u 6) (two_strobe two) k past soon

  -- AS* stays low between two handshakes
  pub low_between : (u : Handshake) (k : ℕ) → second_handshake o.activity o.reply ≡ Some u → 1 ≤ k → k < edge_of u 6 → event_strobe boards n o k ≡ Low
  low_between u k second past soon =
      elim (shape o) [
        | inl none ↦ absurd (cc (sym none.second ∙ second))
        | inr (inl one) ↦ absurd (cc (sym one.second ∙ second))
        | inr (inr two) ↦
            let same : u ≡ two.u = same_Some _ _ (sym second ∙ two.second) in
            stays_low two k past (subst (λ (s : Handshake). k < edge_of s 6) same soon)
      ]

  -- the first edge of a strobe comes after the fall of AS*
  after_fall : (late : Bool) (k : ℕ) → (if late then 11 else 2) ≤ k → 1 ≤ k
  after_fall false k past = omega (arith, past)
  after_fall true k past = omega (arith, past)

  -- a strobe is low only while AS* is
  pub under_strobe : (line : Code) (k : ℕ) → IsStrobe line → event_line boards n o line k ≡ Low → event_strobe boards n o k ≡ Low
  under_strobe line k is low =
      let c = strobe_control line is in
      elim (shape o) [
        | inl none ↦ absurd (not_both (sym (none_stays none line c.own High k) ∙ low))
        | inr (inl one) ↦
            let within = strobe_within one.t line k is (sym (one_is one line c.own High k) ∙ low) in
            ap (λ (v : Value). value_at (bus_code 73) (event_changes boards n o) v k) (strobe_opens one.t one.first)
            ∙ one_is one (bus_code 73) (record { number = 73; is = refl; past = omega arith }) (if one.t.opens then High else Low) k
            ∙ under one.t.opens one.t.ends (handshake_changes one.t) (edge_of one.t 6) (λ j v. address_strobe_after j one.t v) k
            (after_fall one.t.late k within.0) within.1
        | inr (inr two) ↦ elim (cases_lt k 10) [
          | inl soon ↦
              let within = strobe_within two.t line k is (sym (early_is two line c k (omega (arith, soon))) ∙ low) in
              let last : edge_of two.u 6 ≡ 16 = rw two.late refl in
              stays_low two k (after_fall two.t.late k within.0) (omega (arith, soon, last))
          | inr past ↦
              let within = strobe_within two.u line k is (sym (late_is two line c k (omega (arith, past))) ∙ low) in
              stays_low two k (omega (arith, past)) within.1
        ]
      ]

  -- the strobes of a handshake, in the event
  strobes_in : (t : Handshake) (k : ℕ) → ((line : Code) → IsControl line → event_line boards n o line k ≡ line_at t line k)
      → (line_at t first_strobe k ≡ Low) ⊎ (line_at t second_strobe k ≡ Low)
      → (event_line boards n o first_strobe k ≡ Low) ⊎ (event_line boards n o second_strobe k ≡ Low)
  strobes_in t k each (inl low) = inl (each first_strobe (strobe_control first_strobe (inl refl)) ∙ low)
  strobes_in t k each (inr low) = inr (each second_strobe (strobe_control second_strobe (inr refl)) ∙ low)

  -- an answer falls only under a strobe
  pub falls : (line : Code) (k : ℕ) → IsAnswer line → HasStrobes o → event_line boards n o line k ≢ Low → event_line boards n o line (suc k) ≡ Low
      → (event_line boards n o first_strobe (suc k) ≡ Low) ⊎ (event_line boards n o second_strobe (suc k) ≡ Low)
  falls line k is strobed high low =
      let c = answer_control line is in
      elim (shape o) [
        | inl none ↦ absurd (not_both (sym (none_stays none line c.own High (suc k)) ∙ low))
        | inr (inl one) ↦
            strobes_in one.t (suc k) (λ l d. one_is one l d.own High (suc k))
            (falls_under_strobe one.t line k is (strobed one.t (inl one.first)) (λ now. high (one_is one line c.own High k ∙ now))
            (sym (one_is one line c.own High (suc k)) ∙ low))
        | inr (inr two) ↦ elim (cases_lt (suc k) 10) [
          | inl soon ↦
              strobes_in two.t (suc k) (λ l d. early_is two l d (suc k) (omega (arith, soon)))
              (falls_under_strobe two.t line k is (strobed two.t (inl two.first)) (λ now. high (early_is two line c k (omega (arith, soon)) ∙ now))
              (sym (early_is two line c (suc k) (omega (arith, soon))) ∙ low))
          | inr past ↦
              strobes_in two.u (suc k) (λ l d. late_is two l d (suc k) (omega (arith, past)))
              (falls_under_strobe two.u line k is (strobed two.u (inr two.second)) (λ now. high (late_is two line c k (omega (arith, past)) ∙ now))
              (sym (late_is two line c (suc k) (omega (arith, past))) ∙ low))
        ]
      ]

  -- an answer rises only when both strobes are high
  pub rises : (line strobe : Code) (k : ℕ) → IsAnswer line → IsStrobe strobe → event_line boards n o line k ≡ Low → event_line boards n o line (suc k) ≢ Low
      → event_line boards n o strobe (suc k) ≢ Low
  rises line strobe k is is_strobe low high strobe_low =
      let c = answer_control line is in
      let d = strobe_control strobe is_strobe in
      elim (shape o) [
        | inl none ↦ not_both (sym (none_stays none line c.own High k) ∙ low)
        | inr (inl one) ↦
            rises_after_strobes one.t line strobe k is is_strobe (sym (one_is one line c.own High k) ∙ low)
            (λ now. high (one_is one line c.own High (suc k) ∙ now)) (sym (one_is one strobe d.own High (suc k)) ∙ strobe_low)
        | inr (inr two) ↦ elim (cases_lt (suc k) 10) [
          | inl soon ↦
              rises_after_strobes two.t line strobe k is is_strobe (sym (early_is two line c k (omega (arith, soon))) ∙ low)
              (λ now. high (early_is two line c (suc k) (omega (arith, soon)) ∙ now))
              (sym (early_is two strobe d (suc k) (omega (arith, soon))) ∙ strobe_low)
          | inr past ↦
              rises_after_strobes two.u line strobe k is is_strobe (sym (late_is two line c k (omega (arith, past))) ∙ low)
              (λ now. high (late_is two line c (suc k) (omega (arith, past)) ∙ now))
              (sym (late_is two strobe d (suc k) (omega (arith, past))) ∙ strobe_low)
        ]
      ]

  -- at no edge both answers are low
  pub not_both_answers : (k : ℕ) → event_line boards n o acknowledge k ≡ Low → event_line boards n o bus_error k ≢ Low
  not_both_answers k done error =
      let c = answer_control acknowledge (inl refl) in
      let d = answer_control bus_error (inr refl) in
      elim (shape o) [
        | inl none ↦ not_both (sym (none_stays none acknowledge c.own High k) ∙ done)
        | inr (inl one) ↦
            one_answer one.t k k (sym (one_is one acknowledge c.own High k) ∙ done) (sym (one_is one bus_error d.own High k) ∙ error)
        | inr (inr two) ↦ elim (cases_lt k 10) [
          | inl soon ↦
              one_answer two.t k k (sym (early_is two acknowledge c k (omega (arith, soon))) ∙ done)
              (sym (early_is two bus_error d k (omega (arith, soon))) ∙ error)
          | inr past ↦
              one_answer two.u k k (sym (late_is two acknowledge c k (omega (arith, past))) ∙ done)
              (sym (late_is two bus_error d k (omega (arith, past))) ∙ error)
        ]
      ]
