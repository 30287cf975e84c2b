-- The value of a variable at any edge, if it takes one value at one edge and another at a later edge.
use Rattle.std.proofs.Common.{◌≡◌, ◌≢◌, ℕ, zero, suc, ◌<◌, ◌≤◌, ◌&&◌, Bool, true, false, nat_eq, if◌then◌else◌, List, refl, ap, sym, ◌∙◌, arith, inl, inr}
use Rattle.std.specs.Prelude.{nat_le}
use Rattle.std.proofs.lemmas.Bool.{ne_eqb, le-leb}
use Rattle.std.proofs.lemmas.Bool.Decides.{eqb_tells, leb_tells}
use Rattle.vme_trace.specs.declared.dump.change.Code.{Code}
use Rattle.vme_trace.specs.declared.dump.change.Change.{Change}
use Rattle.vme_trace.specs.declared.dump.change.Value.{Value}
use Rattle.vme_trace.specs.Shown.{value_after, value_at}
use Rattle.vme_trace_laws.proofs.waves.Pulses.{pulse}

-- a number is at most the next of another exactly if it is at most that number, or is the next
le_next : (n k : ℕ) → n ≢ suc k → nat_le n (suc k) ≡ nat_le n k
le_next n k apart =
    elim (leb_tells n k) [
      | inl below ↦ le-leb n (suc k) (omega (arith, below.1)) ∙ sym below.0
      | inr above ↦ elim (leb_tells n (suc k)) [
        | inl next ↦ absurd (apart (omega (arith, above.1, next.1)))
        | inr more ↦ more.0 ∙ sym above.0
      ]
    ]

-- a number is at most 0 exactly if it is 0
le_zero : (n : ℕ) → nat_eq n 0 ≡ nat_le n 0
le_zero n =
    elim (eqb_tells n 0) [
      | inl same ↦ same.0 ∙ sym (le-leb n 0 (omega (arith, same.1)))
      | inr other ↦ elim (leb_tells n 0) [
        | inl none ↦ absurd (other.1 (omega (arith, none.1)))
        | inr some ↦ other.0 ∙ sym some.0
      ]
    ]

-- the value at an edge of a variable that takes a value at one edge, if it does, and another at a later edge, if it does
abbrev pub pulse_at : Value → Value → Bool → Bool → ℕ → ℕ → ℕ → Value → Value
pulse_at first later falls rises down up k before =
    if rises && nat_le up k then later else (if falls && nat_le down k then first else before)

-- the first value, edge by edge
falls_next : (first before : Value) (falls : Bool) (down k : ℕ)
    → (if falls && nat_eq down (suc k) then first else (if falls && nat_le down k then first else before))
    ≡ (if falls && nat_le down (suc k) then first else before)
falls_next first before false down k = refl
falls_next first before true down k =
    elim (eqb_tells down (suc k)) [
      | inl same ↦ rw (same.0, le-leb down (suc k) (omega (arith, same.1))) refl
      | inr other ↦ rw (other.0, le_next down k other.1) refl
    ]

-- both values, edge by edge
pulse_next : (first later before : Value) (falls rises : Bool) (down up k : ℕ) → down < up
    → pulse first later falls rises down up (suc k) (pulse_at first later falls rises down up k before)
    ≡ pulse_at first later falls rises down up (suc k) before
pulse_next first later before falls false down up k order = falls_next first before falls down k
pulse_next first later before falls true down up k order =
    elim (eqb_tells up (suc k)) [
      | inl same ↦ rw (same.0, le-leb up (suc k) (omega (arith, same.1))) refl
      | inr other ↦ elim (leb_tells up k) [
        | inl past ↦ risen falls other.0 other.1 past.0 past.1
        | inr soon ↦ rw (other.0, le_next up k other.1, soon.0) (falls_next first before falls down k)
      ]
    ]
  where
    risen : (falls : Bool) → nat_eq up (suc k) ≡ false → up ≢ suc k → nat_le up k ≡ true → up ≤ k
        → pulse first later falls true down up (suc k) (pulse_at first later falls true down up k before)
        ≡ pulse_at first later falls true down up (suc k) before
    risen false apart other past below = rw (apart, le_next up k other, past) refl
    risen true apart other past below =
        rw (apart, le_next up k other, past, ne_eqb down (suc k) (λ same. absurd (omega (arith, same, order, below)))) refl

-- the value at the first edge
pulse_first : (first later before : Value) (falls rises : Bool) (down up : ℕ)
    → pulse first later falls rises down up 0 before ≡ pulse_at first later falls rises down up 0 before
pulse_first first later before falls rises down up = rw (le_zero up, le_zero down) refl

-- the value at any edge
pub at_pulse : (code : Code) (changes : List Change) (first later before : Value) (falls rises : Bool) (down up : ℕ) → down < up
    → ((k : ℕ) (v : Value) → value_after code k changes v ≡ pulse first later falls rises down up k v)
    → (k : ℕ) → value_at code changes before k ≡ pulse_at first later falls rises down up k before
unfolding value_at
at_pulse code changes first later before falls rises down up order each zero = each 0 before ∙ pulse_first first later before falls rises down up
at_pulse code changes first later before falls rises down up order each (suc k) =
    each (suc k) (value_at code changes before k)
    ∙ ap (pulse first later falls rises down up (suc k)) (at_pulse code changes first later before falls rises down up order each k)
    ∙ pulse_next first later before falls rises down up k order

-- after both edges
pub pulse_late : (first later before : Value) (falls rises : Bool) (down up k : ℕ) → nat_le down k ≡ true → nat_le up k ≡ true
    → pulse_at first later falls rises down up k before ≡ (if rises then later else (if falls then first else before))
pulse_late first later before false false down up k past over = refl
pulse_late first later before true false down up k past over = rw past refl
pulse_late first later before false true down up k past over = rw over refl
pulse_late first later before true true down up k past over = rw over refl

-- before the later edge
pub pulse_early : (first later before : Value) (falls rises : Bool) (down up k : ℕ) → nat_le up k ≡ false
    → pulse_at first later falls rises down up k before ≡ (if falls && nat_le down k then first else before)
pulse_early first later before falls false down up k soon = refl
pulse_early first later before falls true down up k soon = rw soon refl
