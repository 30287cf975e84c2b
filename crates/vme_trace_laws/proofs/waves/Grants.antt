-- The grant lines, BBSY* and the bus request line of a slot in an event with a grant.
use Rattle.std.proofs.Common.{◌≡◌, ◌≢◌, ℕ, zero, suc, ◌+◌, ◌-◌, ◌^◌, ◌<◌, ◌≤◌, ◌==◌, ◌&&◌, Bool, true, false, if◌then◌else◌, Option, Some, None, refl, ap, ◌∙◌, arith, inl, inr}
use Rattle.std.specs.Prelude.{nat_le}
use Rattle.std.proofs.lemmas.Bool.{cases_Bool, false≢true, eq-eqb, le-leb, leb-true, leb-false, lt-leb}
use Rattle.vme_trace.specs.declared.observation.Observation.{Observation}
use Rattle.vme_trace.specs.declared.observation.grant.Grant.{Grant}
use Rattle.vme_trace.specs.declared.dump.change.Code.{Code}
use Rattle.vme_trace.specs.declared.dump.change.Value.{Value}
use Rattle.vme_trace.specs.declared.dump.change.Value.TheVariants.{Low, High, Grants}
use Rattle.vme_trace.specs.Variables.{slot_code}
use Rattle.vme_trace.specs.Events.{event_changes}
use Rattle.vme_trace.specs.Slots.{requests, releases, release_edge, grant_edge, is_granted, passes_grant, grant_lines, line_changes, request_changes, chain_changes, busy_changes, select_changes, own_port_changes, slot_changes}
use Rattle.vme_trace.specs.Shown.{is_code, value_after, value_at}
use Rattle.vme_trace_laws.specs.Events.{grant_lines_in}
use Rattle.vme_trace_laws.specs.Grants.{request_line, IsGrantEdge, low_on}
use Rattle.vme_trace_laws.specs.Values.{busy_line}
use Rattle.vme_trace_laws.proofs.waves.Afters.{own, last_own, silent, after_append}
use Rattle.vme_trace_laws.proofs.waves.Pulses.{pulse}
use Rattle.vme_trace_laws.proofs.waves.Quiet.{append_quiet}
use Rattle.vme_trace_laws.proofs.waves.Values.{pulse_at, at_pulse}
use Rattle.vme_trace_laws.proofs.waves.Slots.{IsNoPort, line_quiet, chain_quiet, busy_quiet, select_quiet, port_quiet, slot_part, busy_at}
use Rattle.vme_trace_laws.proofs.waves.SlotEnds.{chain_at}

-- a grant that passes a slot is for that slot or for one behind it
passed : (found : Option Grant) (board : ℕ) → passes_grant found board ≡ true → (g : Grant) × (found ≡ Some g) × (board ≤ g.board)
passed None board is = absurd (false≢true is)
passed (Some g) board is = (g, refl, leb-true board g.board is)

-- a line that shows a grant shows it at its edges alone
shown_between : (passes : Bool) (value rest : Value) (down up k : ℕ) → pulse_at value rest passes passes down up k rest ≢ rest
    → (passes ≡ true) × (down ≤ k) × (k < up)
shown_between false value rest down up k apart = absurd (apart refl)
shown_between true value rest down up k apart =
    elim (cases_Bool (nat_le up k)) [
      | inl late ↦ absurd (apart (rw late refl))
      | inr soon ↦ elim (cases_Bool (nat_le down k)) [
        | inl begun ↦ (refl, leb-true down k begun, leb-false up k soon)
        | inr early ↦ absurd (apart (rw (soon, early) refl))
      ]
    ]

-- the grant lines of a slot are low only in a grant to it or to one behind it
pub grant_low : (boards n : ℕ) (o : Observation) (board k : ℕ) → board < boards
    → value_at (grant_lines_in board) (event_changes boards n o) (Grants 15) k ≢ Grants 15
    → (g : Grant) × (o.grant ≡ Some g) × (board ≤ g.board) × IsGrantEdge o k
grant_low boards n o board k there low =
    let at = chain_at o board boards n there k (Grants 15) in
    let between = shown_between (passes_grant o.grant board) (Grants (grant_lines o.grant)) (Grants 15) (grant_edge o.activity) (grant_edge o.activity + 3) k
    (λ same. low (at ∙ same)) in
    let g = passed o.grant board between.0 in
    (g.0, g.1, g.2, (between.1, between.2))

-- a level's bit is low
bits_low : (level : ℕ) → level ≤ 3 → (if level == 0 then 14 else if level == 1 then 13 else if level == 2 then 11 else 7) ≡ 15 - 2 ^ level
bits_low zero below = refl
bits_low (suc zero) below = refl
bits_low (suc (suc zero)) below = refl
bits_low (suc (suc (suc zero))) below = refl
bits_low (suc (suc (suc (suc level)))) below = absurd (omega (arith, below))

-- in a grant its level is low at its slot and those before it
pub chain_low : (boards n : ℕ) (o : Observation) (g : Grant) (board k : ℕ) (before : Value) → o.grant ≡ Some g → g.level ≤ 3 → board < boards
    → board ≤ g.board → IsGrantEdge o k → value_at (grant_lines_in board) (event_changes boards n o) before k ≡ low_on g.level
chain_low boards n o g board k before is level there behind edge =
    let begun : nat_le (grant_edge o.activity) k ≡ true = le-leb (grant_edge o.activity) k edge.0 in
    let soon : nat_le (grant_edge o.activity + 3) k ≡ false = lt-leb (grant_edge o.activity + 3) k edge.1 in
    let passes : passes_grant o.grant board ≡ true = ap (λ (found : Option Grant). passes_grant found board) is ∙ le-leb board g.board behind in
    let lines : grant_lines o.grant ≡ 15 - 2 ^ g.level = ap grant_lines is ∙ bits_low g.level level in
    chain_at o board boards n there k before ∙ shown_now (passes_grant o.grant board) passes begun soon ∙ ap Grants lines
  where
    shown_now : (passes : Bool) → passes ≡ true → nat_le (grant_edge o.activity) k ≡ true → nat_le (grant_edge o.activity + 3) k ≡ false
        → pulse_at (Grants (grant_lines o.grant)) (Grants 15) passes passes (grant_edge o.activity) (grant_edge o.activity + 3) k before
        ≡ Grants (grant_lines o.grant)
    shown_now true all begun soon = rw (soon, begun) refl
    shown_now false all begun soon = absurd (false≢true all)

-- a value that a variable takes stays from its edge on
taken_late : (first later before : Value) (falls rises : Bool) (down up k : ℕ) → rises ≡ true → nat_le up k ≡ true
    → pulse_at first later falls rises down up k before ≡ later
taken_late first later before falls true down up k all late = rw late refl
taken_late first later before falls false down up k all late = absurd (false≢true all)

-- a grant is one to the board that it names
own_grant : (found : Option Grant) (g : Grant) → found ≡ Some g → is_granted found g.board ≡ true
own_grant found g is = ap (λ (one : Option Grant). is_granted one g.board) is ∙ eq-eqb g.board g.board refl

-- the slot that a grant is for drives BBSY* low
pub busy_taken : (boards n : ℕ) (o : Observation) (g : Grant) (k : ℕ) (before : Value) → o.grant ≡ Some g → g.board < boards
    → grant_edge o.activity + 1 ≤ k → value_at (busy_line g.board) (event_changes boards n o) before k ≡ Low
busy_taken boards n o g k before is there late =
    busy_at boards n o g.board there k before
    ∙ taken_late High Low before (o.board == g.board && releases o.activity) (is_granted o.grant g.board) (release_edge o.activity)
    (grant_edge o.activity + 1) k (own_grant o.grant g is) (le-leb (grant_edge o.activity + 1) k late)

-- the bus request line of a slot is moved by its own changes alone
request_of_slot : (o : Observation) (j k : ℕ) (v : Value)
    → value_after (slot_code j 98) k (slot_changes o j) v ≡ value_after (slot_code j 98) k (request_changes o j) v
unfolding slot_changes
request_of_slot o j k v =
    let code : Code = slot_code j 98 in
    let none : IsNoPort code j = record { chip = refl; write = refl; address = refl; lanes = refl; acknowledge = refl; error = refl } in
    let w = value_after code k (request_changes o j) v in
    silent code k (line_changes o j) _ v (line_quiet code o j refl k v)
    ∙ after_append code k (request_changes o j) _ v
    ∙ silent code k (chain_changes o j) _ w (chain_quiet code o j refl k w)
    ∙ silent code k (busy_changes o j) _ w (busy_quiet code o j refl k w)
    ∙ append_quiet code (select_changes o j) (own_port_changes o j) (select_quiet code o j refl) (port_quiet code o j none) k w

-- the bus request line in its own changes
request_own : (o : Observation) (board k : ℕ) (v : Value)
    → value_after (slot_code board 98) k (request_changes o board) v
    ≡ pulse Low High (o.board == board && requests o.activity) (is_granted o.grant board) 0 (grant_edge o.activity + 2) k v
unfolding request_changes
request_own o board k v =
    let code : Code = slot_code board 98 in
    let same : is_code code code ≡ true = eq-eqb (97 + board) (97 + board) refl in
    own code k (o.board == board && requests o.activity) 0 Low _ v same
    ∙ last_own code k (is_granted o.grant board) (grant_edge o.activity + 2) High _ same

-- the bus request line of a slot at an edge of an event
pub request_at : (boards n : ℕ) (o : Observation) (board : ℕ) → board < boards → (k : ℕ) (before : Value)
    → value_at (request_line board) (event_changes boards n o) before k
    ≡ pulse_at Low High (o.board == board && requests o.activity) (is_granted o.grant board) 0 (grant_edge o.activity + 2) k before
request_at boards n o board there k before =
    at_pulse (slot_code board 98) (event_changes boards n o) Low High before (o.board == board && requests o.activity) (is_granted o.grant board)
    0 (grant_edge o.activity + 2) (omega arith)
    (λ i v. slot_part 98 boards n o board there i v ∙ request_of_slot o board i v ∙ request_own o board i v) k

-- the slot that a grant is for releases its bus request line
pub request_released : (boards n : ℕ) (o : Observation) (g : Grant) (k : ℕ) (before : Value) → o.grant ≡ Some g → g.board < boards
    → grant_edge o.activity + 2 ≤ k → value_at (request_line g.board) (event_changes boards n o) before k ≡ High
request_released boards n o g k before is there late =
    request_at boards n o g.board there k before
    ∙ taken_late Low High before (o.board == g.board && requests o.activity) (is_granted o.grant g.board) 0 (grant_edge o.activity + 2) k
    (own_grant o.grant g is) (le-leb (grant_edge o.activity + 2) k late)
