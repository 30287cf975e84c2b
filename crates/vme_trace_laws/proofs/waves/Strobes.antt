-- The data strobes, the answer and the data of a handshake.
use Rattle.std.proofs.Common.{◌≡◌, ◌≢◌, ◌⊎◌, ℕ, suc, ◌<◌, ◌≤◌, ◌+◌, Bool, true, false, not, if◌then◌else◌, List, sym, subst, arith, inl, inr, IsTrue}
use Rattle.std.proofs.lemmas.Bool.{false≢true, cases_lt}
use Rattle.vme_trace.specs.declared.dump.change.Code.{Code}
use Rattle.vme_trace.specs.declared.dump.change.Change.{Change}
use Rattle.vme_trace.specs.declared.dump.change.Value.{Value}
use Rattle.vme_trace.specs.declared.dump.change.Value.TheVariants.{Low, High, Lanes}
use Rattle.vme_trace.specs.Changes.{no_lanes}
use Rattle.vme_trace.specs.declared.dump.handshake.Handshake.{Handshake}
use Rattle.vme_trace.specs.Variables.{bus_code}
use Rattle.vme_trace.specs.Handshakes.{edge_of}
use Rattle.vme_trace.specs.Bus.{drive_edge, lower_lanes, handshake_changes}
use Rattle.vme_trace_laws.specs.Shown.{address_strobe_at, line_at, data_lines, IsStrobe, IsAnswer, HasStrobe}
use Rattle.vme_trace.specs.Shown.{value_after, value_at}
use Rattle.vme_trace_laws.proofs.waves.Pulses.{pulse, never_low, low_between, still_low, holds}
use Rattle.vme_trace_laws.proofs.waves.Groups.{address_strobe_after, first_strobe_after, second_strobe_after, done_after, error_after, data_after}

-- the edges of a handshake have the order of their numbers
pub edge_order : (late : Bool) (a b : ℕ) → a < b → (if late then 10 + a else 1 + a) < (if late then 10 + b else 1 + b)
edge_order false a b order = omega (arith, order)
edge_order true a b order = omega (arith, order)

-- the first edge comes after edge 1
after_first : (late : Bool) → 1 ≤ (if late then 11 else 2)
after_first false = omega arith
after_first true = omega arith

-- AS* is low from its fall at edge 1, or from before, to its rise
pub under : (opens ends : Bool) (changes : List Change) (up : ℕ)
    → ((k : ℕ) (v : Value) → value_after (bus_code 73) k changes v ≡ pulse Low High opens ends 1 up k v)
    → (k : ℕ) → 1 ≤ k → k < up → value_at (bus_code 73) changes (if opens then High else Low) k ≡ Low
under false ends changes up each k past soon = still_low (bus_code 73) changes ends 1 up each k soon
under true ends changes up each k past soon = holds (bus_code 73) changes Low High High ends 1 up each k past soon

-- when a data strobe is low
pub strobe_within : (t : Handshake) (line : Code) (k : ℕ) → IsStrobe line → line_at t line k ≡ Low → (edge_of t 1 ≤ k) × (k < edge_of t 6)
strobe_within t line k (inl same) low =
    low_between (bus_code 78) (handshake_changes t) (not t.lines.strobes.ds1) (edge_of t 1) (edge_of t 6) (edge_order t.late 1 6 (omega arith))
    (λ j v. first_strobe_after j t v) k (subst (λ l. line_at t l k ≡ Low) same low)
strobe_within t line k (inr same) low =
    low_between (bus_code 79) (handshake_changes t) (not t.lines.strobes.ds0) (edge_of t 1) (edge_of t 6) (edge_order t.late 1 6 (omega arith))
    (λ j v. second_strobe_after j t v) k (subst (λ l. line_at t l k ≡ Low) same low)

-- when an answer is low
pub answer_within : (t : Handshake) (line : Code) (k : ℕ) → IsAnswer line → line_at t line k ≡ Low → (edge_of t 3 ≤ k) × (k < edge_of t 8)
answer_within t line k (inl same) low =
    low_between (bus_code 82) (handshake_changes t) (not t.berr) (edge_of t 3) (edge_of t 8) (edge_order t.late 3 8 (omega arith))
    (λ j v. done_after j t v) k (subst (λ l. line_at t l k ≡ Low) same low)
answer_within t line k (inr same) low =
    low_between (bus_code 83) (handshake_changes t) t.berr (edge_of t 3) (edge_of t 8) (edge_order t.late 3 8 (omega arith))
    (λ j v. error_after j t v) k (subst (λ l. line_at t l k ≡ Low) same low)

-- a strobe is low only while AS* is
pub strobe_under : (t : Handshake) (line : Code) (k : ℕ) → IsStrobe line → line_at t line k ≡ Low → address_strobe_at t k ≡ Low
strobe_under t line k strobe low =
    let within = strobe_within t line k strobe low in
    under t.opens t.ends (handshake_changes t) (edge_of t 6) (λ j v. address_strobe_after j t v) k (omega (arith, within.0, after_first t.late)) within.1

-- DS1* is low between its edges, if the location has it low
first_low : (b : Bool) (t : Handshake) → b ≡ false
    → ((k : ℕ) (v : Value) → value_after (bus_code 78) k (handshake_changes t) v ≡ pulse Low High (not b) (not b) (edge_of t 1) (edge_of t 6) k v)
    → (k : ℕ) → edge_of t 1 ≤ k → k < edge_of t 6 → line_at t (bus_code 78) k ≡ Low
first_low false t asserted each k past soon = holds (bus_code 78) (handshake_changes t) Low High High true (edge_of t 1) (edge_of t 6) each k past soon
first_low true t asserted each k past soon = absurd (false≢true (sym asserted))

-- DS0* is low between its edges, if the location has it low
second_low : (b : Bool) (t : Handshake) → b ≡ false
    → ((k : ℕ) (v : Value) → value_after (bus_code 79) k (handshake_changes t) v ≡ pulse Low High (not b) (not b) (edge_of t 1) (edge_of t 6) k v)
    → (k : ℕ) → edge_of t 1 ≤ k → k < edge_of t 6 → line_at t (bus_code 79) k ≡ Low
second_low false t asserted each k past soon = holds (bus_code 79) (handshake_changes t) Low High High true (edge_of t 1) (edge_of t 6) each k past soon
second_low true t asserted each k past soon = absurd (false≢true (sym asserted))

-- a strobe is low between their edges
some_low : (t : Handshake) (k : ℕ) → HasStrobe t → edge_of t 1 ≤ k → k < edge_of t 6 → (line_at t (bus_code 78) k ≡ Low) ⊎ (line_at t (bus_code 79) k ≡ Low)
some_low t k (inl first) past soon = inl (first_low t.lines.strobes.ds1 t first (λ j v. first_strobe_after j t v) k past soon)
some_low t k (inr second) past soon = inr (second_low t.lines.strobes.ds0 t second (λ j v. second_strobe_after j t v) k past soon)

-- a line that falls and rises by one condition, and is low at an edge, is low at each edge between both
stays_low : (line : Code) (b : Bool) (t : Handshake) (down up : ℕ) → down < up
    → ((k : ℕ) (v : Value) → value_after line k (handshake_changes t) v ≡ pulse Low High b b down up k v)
    → (j : ℕ) → line_at t line j ≡ Low → (k : ℕ) → down ≤ k → k < up → line_at t line k ≡ Low
stays_low line true t down up order each j low k past soon = holds line (handshake_changes t) Low High High true down up each k past soon
stays_low line false t down up order each j low k past soon = absurd (never_low line (handshake_changes t) down up each j low)

-- an answer that is low at an edge is low at each of its edges
answer_stays : (t : Handshake) (line : Code) (j : ℕ) → IsAnswer line → line_at t line j ≡ Low → (k : ℕ) → edge_of t 3 ≤ k → k < edge_of t 8
    → line_at t line k ≡ Low
answer_stays t line j (inl same) low k past soon =
    subst (λ l. line_at t l k ≡ Low) (sym same)
    (stays_low (bus_code 82) (not t.berr) t (edge_of t 3) (edge_of t 8) (edge_order t.late 3 8 (omega arith)) (λ i v. done_after i t v) j
    (subst (λ l. line_at t l j ≡ Low) same low) k past soon)
answer_stays t line j (inr same) low k past soon =
    subst (λ l. line_at t l k ≡ Low) (sym same)
    (stays_low (bus_code 83) t.berr t (edge_of t 3) (edge_of t 8) (edge_order t.late 3 8 (omega arith)) (λ i v. error_after i t v) j
    (subst (λ l. line_at t l j ≡ Low) same low) k past soon)

-- an answer falls while a strobe is low
pub falls_under_strobe : (t : Handshake) (line : Code) (k : ℕ) → IsAnswer line → HasStrobe t → line_at t line k ≢ Low
    → line_at t line (suc k) ≡ Low → (line_at t (bus_code 78) (suc k) ≡ Low) ⊎ (line_at t (bus_code 79) (suc k) ≡ Low)
falls_under_strobe t line k answer strobed high low =
    let now = answer_within t line (suc k) answer low in
    elim (cases_lt k (edge_of t 3)) [
      | inl before ↦ some_low t (suc k) strobed (omega (arith, now.0, edge_order t.late 1 3 (omega arith)))
          (omega (arith, before, edge_order t.late 3 6 (omega arith)))
      | inr past ↦ absurd (high (answer_stays t line (suc k) answer low k past (omega (arith, now.1))))
    ]

-- an answer rises when both strobes are high
pub rises_after_strobes : (t : Handshake) (line strobe : Code) (k : ℕ) → IsAnswer line → IsStrobe strobe → line_at t line k ≡ Low
    → line_at t line (suc k) ≢ Low → line_at t strobe (suc k) ≢ Low
rises_after_strobes t line strobe k answer is_strobe low high strobe_low =
    let before = answer_within t line k answer low in
    let strobe_now = strobe_within t strobe (suc k) is_strobe strobe_low in
    high (answer_stays t line k answer low (suc k) (omega (arith, before.0)) (omega (arith, strobe_now.1, edge_order t.late 6 8 (omega arith))))

-- no handshake has both answers
pub one_answer : (t : Handshake) (j k : ℕ) → line_at t (bus_code 82) j ≡ Low → line_at t (bus_code 83) k ≢ Low
one_answer t j k = apart t.berr t (λ i v. done_after i t v) (λ i v. error_after i t v) j k
  where
    apart : (b : Bool) (t : Handshake)
        → ((i : ℕ) (v : Value) → value_after (bus_code 82) i (handshake_changes t) v ≡ pulse Low High (not b) (not b) (edge_of t 3) (edge_of t 8) i v)
        → ((i : ℕ) (v : Value) → value_after (bus_code 83) i (handshake_changes t) v ≡ pulse Low High b b (edge_of t 3) (edge_of t 8) i v)
        → (j k : ℕ) → line_at t (bus_code 82) j ≡ Low → line_at t (bus_code 83) k ≢ Low
    apart false t done error j k acknowledged refused = never_low (bus_code 83) (handshake_changes t) (edge_of t 3) (edge_of t 8) error k refused
    apart true t done error j k acknowledged refused = never_low (bus_code 82) (handshake_changes t) (edge_of t 3) (edge_of t 8) done j acknowledged

-- the data are driven before the answer
driven_before : (write late : Bool) → (if write then (if late then 12 else 3) else (if late then 10 else 1)) ≤ (if late then 13 else 4)
driven_before false false = omega arith
driven_before false true = omega arith
driven_before true false = omega arith
driven_before true true = omega arith

-- the data stand while the answer and a strobe are low
pub data_stand : (t : Handshake) (line strobe : Code) (k : ℕ) (before : Value) → IsTrue t.carries → IsAnswer line → IsStrobe strobe
    → line_at t line k ≡ Low → line_at t strobe k ≡ Low → value_at data_lines (handshake_changes t) before k ≡ Lanes (lower_lanes t.lines.lanes)
data_stand t line strobe k before carries answer is_strobe low strobe_low =
    stand t.carries carries t (λ i v. data_after i t v) (omega (arith, (answer_within t line k answer low).0, driven_before t.lines.write t.late))
    (omega (arith, (strobe_within t strobe k is_strobe strobe_low).1, edge_order t.late 6 7 (omega arith)))
  where
    stand : (b : Bool) → IsTrue b → (t : Handshake)
        → ((i : ℕ) (v : Value) → value_after (bus_code 80) i (handshake_changes t) v
        ≡ pulse (Lanes (lower_lanes t.lines.lanes)) no_lanes b b (drive_edge t) (edge_of t 7) i v)
        → drive_edge t ≤ k → k < edge_of t 7 → value_at (bus_code 80) (handshake_changes t) before k ≡ Lanes (lower_lanes t.lines.lanes)
    stand true sure t each past soon =
        holds (bus_code 80) (handshake_changes t) (Lanes (lower_lanes t.lines.lanes)) no_lanes before true (drive_edge t) (edge_of t 7) each k past soon
    stand false never t each past soon = absurd (false≢true never)
