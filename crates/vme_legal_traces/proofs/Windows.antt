-- The edges at which the lines that count stay driven, from the edge at which a handshake drives them.
use Rattle.std.proofs.Common.{◌≡◌, ℕ, suc, Bool, true, false, not, List, refl, ap, ◌∙◌, inl, inr}
use Rattle.std.proofs.lemmas.Bool.{cases_Bool}
use Rattle.vme_script.specs.Configurations.{Configuration}
use Rattle.vme_protocol.specs.Lines.{meet}
use Rattle.vme_trace.specs.declared.observation.Observation.{Observation}
use Rattle.vme_trace_laws.proofs.lemmas.Waves.{HasOne, HasTwo}
use Rattle.vme_legal_traces.specs.Samples.{edge_sample}
use Rattle.vme_legal_traces.proofs.Stable.{one_known, two_known}
use Rattle.vme_legal_traces.proofs.Standing.{one_undefined, two_undefined}
use Rattle.vme_legal_traces.proofs.Edges.{at_or, at_edge, both_of, one_lines_at, two_lines_at}
use Rattle.vme_legal_traces.proofs.Defined.{early_clear, late_clear}

-- not high
low_of : (write : Bool) → not write ≡ true → write ≡ false
low_of false h = refl
low_of true h = absurd cc

module _ (config : Configuration) (events : List Observation) (o : Observation) (set : ℕ) where
  -- lines of a set are driven in a sample
  abbrev pub Clear : ℕ → Type 0
  Clear k = meet set (edge_sample config events o k).lines_undefined ≡ false

  -- they are at the next edge, if they stand there
  clear_next : (k : ℕ) → (edge_sample config events o (suc k)).lines_undefined ≡ (edge_sample config events o k).lines_undefined → Clear k → Clear (suc k)
  clear_next k same clear = ap (meet set) same ∙ clear

  -- the lines that a single handshake drives
  pub one_window : (one : HasOne o) → one.t.late ≡ false → (one.t.lines.write ≡ true → Clear 3) → (one.t.lines.write ≡ false → Clear 1) → (k : ℕ)
      → early_clear one.t.lines.write k ≡ true → Clear k
  one_window one early read write k h =
      let level = one.t.lines.write in
      let step : (j : ℕ) → (one_known level).still (suc j) ≡ true → Clear j → Clear (suc j)
      = λ j still. clear_next j (one_undefined config events o one j (one_lines_at one.t early (suc j) still)) in
      let three : Clear 3 = elim (cases_Bool level) [
        | inl high ↦ read high
        | inr low ↦ step 2 (ap (λ (b : Bool). (one_known b).still 3) low) (step 1 refl (write low))
      ] in
      let four : Clear 4 = step 3 refl three in
      let five : Clear 5 = step 4 refl four in
      let six : Clear 6 = step 5 refl five in
      at_or Clear 3 k _ three (at_or Clear 4 k _ four (at_or Clear 5 k _ five (at_or Clear 6 k _ six
      (λ rest.
      let parts = both_of (not level) _ rest in
      let low = low_of level parts.0 in
      at_or Clear 1 k _ (write low) (at_edge Clear 2 k (step 1 refl (write low))) parts.1)))) h

  module _ (two : HasTwo o) where
    -- the lines stand at an edge of an event with two handshakes
    two_step : (j : ℕ) → (two_known two.t.lines.write two.u.lines.write).still (suc j) ≡ true → Clear j → Clear (suc j)
    two_step j still =
        let both = two_lines_at two.t two.u two.early two.late (suc j) still in clear_next j (two_undefined config events o two j both.0 both.1)

    -- the lines that the first of two drives
    pub first_window : (two.t.lines.write ≡ true → Clear 3) → (two.t.lines.write ≡ false → Clear 1) → (k : ℕ) → early_clear two.t.lines.write k ≡ true → Clear k
    first_window read write k h =
        let level = two.t.lines.write in
        let three : Clear 3 = elim (cases_Bool level) [
          | inl high ↦ read high
          | inr low ↦ two_step 2 (ap (λ (b : Bool). (two_known b two.u.lines.write).still 3) low) (two_step 1 refl (write low))
        ] in
        let four : Clear 4 = two_step 3 refl three in
        let five : Clear 5 = two_step 4 refl four in
        let six : Clear 6 = two_step 5 refl five in
        at_or Clear 3 k _ three (at_or Clear 4 k _ four (at_or Clear 5 k _ five (at_or Clear 6 k _ six
        (λ rest.
        let parts = both_of (not level) _ rest in
        let low = low_of level parts.0 in
        at_or Clear 1 k _ (write low) (at_edge Clear 2 k (two_step 1 refl (write low))) parts.1)))) h

    -- and those that the second drives
    pub second_window : (two.u.lines.write ≡ true → Clear 12) → (two.u.lines.write ≡ false → Clear 10) → (k : ℕ) → late_clear two.u.lines.write k ≡ true → Clear k
    second_window read write k h =
        let level = two.u.lines.write in
        let first = two.t.lines.write in
        let step : (j : ℕ) → (two_known true level).still (suc j) ≡ true → (two_known false level).still (suc j) ≡ true → Clear j → Clear (suc j)
        = λ j one other. two_step j (elim (cases_Bool first) [
          | inl high ↦ ap (λ (b : Bool). (two_known b level).still (suc j)) high ∙ one
          | inr low ↦ ap (λ (b : Bool). (two_known b level).still (suc j)) low ∙ other
        ]) in
        let twelve : Clear 12 = elim (cases_Bool level) [
          | inl high ↦ read high
          | inr low ↦
              step 11 (ap (λ (b : Bool). (two_known true b).still 12) low) (ap (λ (b : Bool). (two_known false b).still 12) low)
              (step 10 refl refl (write low))
        ] in
        let thirteen : Clear 13 = step 12 refl refl twelve in
        let fourteen : Clear 14 = step 13 refl refl thirteen in
        let fifteen : Clear 15 = step 14 refl refl fourteen in
        at_or Clear 12 k _ twelve (at_or Clear 13 k _ thirteen (at_or Clear 14 k _ fourteen (at_or Clear 15 k _ fifteen
        (λ rest.
        let parts = both_of (not level) _ rest in
        let low = low_of level parts.0 in
        at_or Clear 10 k _ (write low) (at_edge Clear 11 k (step 10 refl refl (write low))) parts.1)))) h
