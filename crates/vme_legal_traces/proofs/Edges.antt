-- The edges at which WRITE* and the lines of address and data stand.
use Rattle.std.proofs.Common.{◌≡◌, ℕ, suc, List, Bool, true, false, nat_eq, not, ◌&&◌, ◌||◌, if◌then◌else◌, refl, ap, sym, subst, ◌∙◌, inl, inr}
use Rattle.std.proofs.lemmas.Bool.{false≢true}
use Rattle.std.proofs.lemmas.Bool.Decides.{eqb_tells}
use Rattle.vme_script.specs.Configurations.{Configuration}
use Rattle.vme_trace.specs.declared.observation.Observation.{Observation}
use Rattle.vme_trace.specs.declared.dump.handshake.Handshake.{Handshake}
use Rattle.vme_trace_laws.proofs.lemmas.Waves.{HasTwo}
use Rattle.vme_legal_traces.specs.Samples.{edge_sample}
use Rattle.vme_legal_traces.proofs.Standing.{IsStill, KeepsLevel, two_write}
use Rattle.vme_legal_traces.proofs.Stable.{one_known, two_known}

-- one of two edges, or of others
pub at_or : (P : ℕ → Type 0) (n k : ℕ) (rest : Bool) → P n → (rest ≡ true → P k) → (nat_eq k n || rest) ≡ true → P k
at_or P n k rest here there h =
    elim (eqb_tells k n) [
      | inl same ↦ subst P (sym same.1) here
      | inr other ↦ there (ap (λ (b : Bool). b || rest) (sym other.0) ∙ h)
    ]

-- one edge
pub at_edge : (P : ℕ → Type 0) (n k : ℕ) → P n → nat_eq k n ≡ true → P k
at_edge P n k here h =
    elim (eqb_tells k n) [
      | inl same ↦ subst P (sym same.1) here
      | inr other ↦ absurd (false≢true (sym other.0 ∙ h))
    ]

-- one of two
pub either : (a b : Bool) (X : Type 0) → (a ≡ true → X) → (b ≡ true → X) → (a || b) ≡ true → X
either true b X one two h = one refl
either false b X one two h = two h

-- both of two
pub both_of : (a b : Bool) → (a && b) ≡ true → (a ≡ true) × (b ≡ true)
both_of true b h = (refl, h)
both_of false b h = absurd cc

-- a choice of numbers that are others
pub choice_off : (write : Bool) (a b k : ℕ) → nat_eq a k ≡ false → nat_eq b k ≡ false → nat_eq (if write then a else b) k ≡ false
choice_off true a b k one two = one
choice_off false a b k one two = two

-- not high
low_of : (write : Bool) → not write ≡ true → write ≡ false
low_of false h = refl
low_of true h = absurd cc

-- an edge at which WRITE* stands in an early handshake
pub early_level : (t : Handshake) → t.late ≡ false → (k : ℕ) → nat_eq 0 k ≡ false → nat_eq 10 k ≡ false → KeepsLevel t k
early_level t early k begin second = record { begin = begin; second = second; ended = rw early second }

-- an edge at which it stands in a late handshake
pub late_level : (u : Handshake) → u.late ≡ true → (k : ℕ) → nat_eq 0 k ≡ false → nat_eq 10 k ≡ false → nat_eq 19 k ≡ false → KeepsLevel u k
late_level u late k begin second ended = record { begin = begin; second = second; ended = rw late ended }

-- WRITE* stands at an edge of an event with two handshakes at which neither moves it
pub two_steady : (config : Configuration) (events : List Observation) (o : Observation) (two : HasTwo o) (j : ℕ) → nat_eq 0 (suc j) ≡ false
    → nat_eq 10 (suc j) ≡ false → nat_eq 19 (suc j) ≡ false → (edge_sample config events o (suc j)).write ≡ (edge_sample config events o j).write
two_steady config events o two j begin second ended =
    two_write config events o two j (early_level two.t two.early (suc j) begin second) (late_level two.u two.late (suc j) begin second ended)

-- an edge at which the lines stand in an early handshake
early_lines : (t : Handshake) → t.late ≡ false → (k : ℕ) → nat_eq 0 k ≡ false → nat_eq 10 k ≡ false → nat_eq 8 k ≡ false
    → nat_eq (if t.lines.write then 3 else 1) k ≡ false → IsStill t k
early_lines t early k begin second released driven =
    record { begin = begin; second = second; driven = rw early driven; released = rw early released; ended = rw early second }

-- an edge at which they stand in a late handshake
pub late_lines : (u : Handshake) → u.late ≡ true → (k : ℕ) → nat_eq 0 k ≡ false → nat_eq 10 k ≡ false → nat_eq 17 k ≡ false → nat_eq 19 k ≡ false
    → nat_eq (if u.lines.write then 12 else 10) k ≡ false → IsStill u k
late_lines u late k begin second released ended driven =
    record { begin = begin; second = second; driven = rw late driven; released = rw late released; ended = rw late ended }

-- the edges at which WRITE* stands in an event with one handshake
pub one_levels_at : (t : Handshake) → t.late ≡ false → (k : ℕ) → (one_known t.lines.write).steady k ≡ true → KeepsLevel t k
one_levels_at t early k =
    let here : (n : ℕ) → nat_eq 0 n ≡ false → nat_eq 10 n ≡ false → KeepsLevel t n = early_level t early in
    at_or (KeepsLevel t) 2 k _ (here 2 refl refl) (at_or (KeepsLevel t) 3 k _ (here 3 refl refl) (at_or (KeepsLevel t) 4 k _ (here 4 refl refl)
    (at_or (KeepsLevel t) 5 k _ (here 5 refl refl) (at_edge (KeepsLevel t) 6 k (here 6 refl refl)))))

-- the edges at which the lines stand in an event with one handshake
pub one_lines_at : (t : Handshake) → t.late ≡ false → (k : ℕ) → (one_known t.lines.write).still k ≡ true → IsStill t k
one_lines_at t early k =
    let w = t.lines.write in
    at_or (IsStill t) 2 k _ (early_lines t early 2 refl refl refl (choice_off w 3 1 2 refl refl))
    (at_or (IsStill t) 4 k _ (early_lines t early 4 refl refl refl (choice_off w 3 1 4 refl refl))
    (at_or (IsStill t) 5 k _ (early_lines t early 5 refl refl refl (choice_off w 3 1 5 refl refl))
    (at_or (IsStill t) 6 k _ (early_lines t early 6 refl refl refl (choice_off w 3 1 6 refl refl))
    (λ h. let parts = both_of (not w) (nat_eq k 3) h in
    at_edge (IsStill t) 3 k (early_lines t early 3 refl refl refl (ap (λ (b : Bool). nat_eq (if b then 3 else 1) 3) (low_of w parts.0))) parts.1))))

-- those of an event with two
abbrev pub PairLevel : Handshake → Handshake → ℕ → Type 0
PairLevel t u k = KeepsLevel t k × KeepsLevel u k

-- the lines of both
abbrev pub PairStill : Handshake → Handshake → ℕ → Type 0
PairStill t u k = IsStill t k × IsStill u k

module _ (t u : Handshake) (early : t.late ≡ false) (late : u.late ≡ true) where
  -- the edges at which WRITE* stands in an event with two handshakes
  pub two_levels_at : (k : ℕ) → (two_known t.lines.write u.lines.write).steady k ≡ true → PairLevel t u k
  two_levels_at k =
      let P : ℕ → Type 0 = PairLevel t u in
      let here : (n : ℕ) → nat_eq 0 n ≡ false → nat_eq 10 n ≡ false → nat_eq 19 n ≡ false → PairLevel t u n
      = λ n begin second ended. (early_level t early n begin second, late_level u late n begin second ended) in
      either _ _ (PairLevel t u k)
      (at_or P 2 k _ (here 2 refl refl refl) (at_or P 3 k _ (here 3 refl refl refl) (at_or P 4 k _ (here 4 refl refl refl)
      (at_or P 5 k _ (here 5 refl refl refl) (at_edge P 6 k (here 6 refl refl refl))))))
      (at_or P 11 k _ (here 11 refl refl refl) (at_or P 12 k _ (here 12 refl refl refl) (at_or P 13 k _ (here 13 refl refl refl)
      (at_or P 14 k _ (here 14 refl refl refl) (at_edge P 15 k (here 15 refl refl refl))))))

  -- the edges at which the lines stand in an event with two handshakes
  pub two_lines_at : (k : ℕ) → (two_known t.lines.write u.lines.write).still k ≡ true → PairStill t u k
  two_lines_at k =
      let P : ℕ → Type 0 = PairStill t u in
      let w = t.lines.write in
      let w' = u.lines.write in
      let at : (n : ℕ) → nat_eq 0 n ≡ false → nat_eq 10 n ≡ false → nat_eq 8 n ≡ false → nat_eq 17 n ≡ false → nat_eq 19 n ≡ false
      → nat_eq (if w then 3 else 1) n ≡ false → nat_eq (if w' then 12 else 10) n ≡ false → PairStill t u n
      = λ n begin second released released' ended driven driven'.
      (early_lines t early n begin second released driven, late_lines u late n begin second released' ended driven') in
      let any : (n : ℕ) → nat_eq 0 n ≡ false → nat_eq 10 n ≡ false → nat_eq 8 n ≡ false → nat_eq 17 n ≡ false → nat_eq 19 n ≡ false
      → nat_eq 3 n ≡ false → nat_eq 1 n ≡ false → nat_eq 12 n ≡ false → PairStill t u n
      = λ n begin second released released' ended three one twelve.
      at n begin second released released' ended (choice_off w 3 1 n three one) (choice_off w' 12 10 n twelve second) in
      either _ _ (PairStill t u k)
      (at_or P 2 k _ (any 2 refl refl refl refl refl refl refl refl) (at_or P 4 k _ (any 4 refl refl refl refl refl refl refl refl)
      (at_or P 5 k _ (any 5 refl refl refl refl refl refl refl refl) (at_or P 6 k _ (any 6 refl refl refl refl refl refl refl refl)
      (λ h. let parts = both_of (not w) (nat_eq k 3) h in
      at_edge P 3 k (at 3 refl refl refl refl refl (ap (λ (b : Bool). nat_eq (if b then 3 else 1) 3) (low_of w parts.0)) (choice_off w' 12 10 3 refl refl))
      parts.1)))))
      (at_or P 11 k _ (any 11 refl refl refl refl refl refl refl refl) (at_or P 13 k _ (any 13 refl refl refl refl refl refl refl refl)
      (at_or P 14 k _ (any 14 refl refl refl refl refl refl refl refl) (at_or P 15 k _ (any 15 refl refl refl refl refl refl refl refl)
      (λ h. let parts = both_of (not w') (nat_eq k 12) h in
      at_edge P 12 k (at 12 refl refl refl refl refl (choice_off w 3 1 12 refl refl) (ap (λ (b : Bool). nat_eq (if b then 12 else 10) 12) (low_of w' parts.0)))
      parts.1)))))
