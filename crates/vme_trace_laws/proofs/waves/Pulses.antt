-- A line that falls at an edge and rises at a later one.
use Rattle.std.proofs.Common.{◌≡◌, ℕ, zero, suc, ◌<◌, ◌≤◌, ◌&&◌, Bool, true, false, nat_eq, if◌then◌else◌, List, refl, ap, sym, ◌∙◌, arith, inl, inr}
use Rattle.std.proofs.lemmas.Bool.{false≢true, ne_eqb, eq-eqb}
use Rattle.std.proofs.lemmas.Bool.Decides.{eqb_tells}
use Rattle.vme_trace.specs.declared.dump.change.Code.{Code}
use Rattle.vme_trace.specs.declared.dump.change.Change.{Change}
use Rattle.vme_trace.specs.declared.dump.change.Value.{Value}
use Rattle.vme_trace.specs.declared.dump.change.Value.TheVariants.{Low, High, Free, Released, Number, Lanes, Grants}
use Rattle.vme_trace.specs.Shown.{value_after, value_at}

-- whether a value is low
abbrev is_low : Value → Bool
is_low Low = true
is_low High = false
is_low Free = false
is_low Released = false
is_low (Number width number) = false
is_low (Lanes lanes) = false
is_low (Grants bits) = false

-- no line is low and high
pub not_both : High ≡ Low → ⊥
not_both same = false≢true (ap is_low same)

-- the value after an edge of a line that takes a value at one edge, if it does, and another value at another edge, if it does
abbrev pub pulse : Value → Value → Bool → Bool → ℕ → ℕ → ℕ → Value → Value
pulse first later falls rises down up k before = if rises && nat_eq up k then later else (if falls && nat_eq down k then first else before)

-- a line that never falls stays high
stays_high : (line : Code) (changes : List Change) (down up : ℕ)
    → ((k : ℕ) (v : Value) → value_after line k changes v ≡ pulse Low High false false down up k v) → (k : ℕ) → value_at line changes High k ≡ High
unfolding value_at
stays_high line changes down up each zero = each 0 High
stays_high line changes down up each (suc k) =
    each (suc k) (value_at line changes High k) ∙ stays_high line changes down up each k

-- a line that falls and rises is low only between both edges
falls_between : (line : Code) (changes : List Change) (down up : ℕ) → down < up
    → ((k : ℕ) (v : Value) → value_after line k changes v ≡ pulse Low High true true down up k v)
    → (k : ℕ) → value_at line changes High k ≡ Low → (down ≤ k) × (k < up)
unfolding value_at
falls_between line changes down up order each zero low =
    elim (eqb_tells up 0) [
      | inl rise ↦ absurd (not_both (sym (each 0 High ∙ rw rise.1 refl) ∙ low))
      | inr later ↦ elim (eqb_tells down 0) [
        | inl fall ↦ (omega (arith, fall.1), omega (arith, fall.1, order))
        | inr no_fall ↦ absurd (not_both (sym (each 0 High ∙ rw (later.0, no_fall.0) refl) ∙ low))
      ]
    ]
falls_between line changes down up order each (suc k) low =
    let v = value_at line changes High k in
    elim (eqb_tells up (suc k)) [
      | inl rise ↦ absurd (not_both (sym (each (suc k) v ∙ rw rise.0 refl) ∙ low))
      | inr later ↦ elim (eqb_tells down (suc k)) [
        | inl fall ↦ (omega (arith, fall.1), omega (arith, fall.1, order))
        | inr no_fall ↦
            let same : value_at line changes High (suc k) ≡ v = each (suc k) v ∙ rw (later.0, no_fall.0) refl in
            let before = falls_between line changes down up order each k (sym same ∙ low) in
            (omega (arith, before.0), omega (arith, before.1, later.1))
      ]
    ]

-- a line that never falls is never low
pub never_low : (line : Code) (changes : List Change) (down up : ℕ)
    → ((k : ℕ) (v : Value) → value_after line k changes v ≡ pulse Low High false false down up k v)
    → (k : ℕ) → value_at line changes High k ≡ Low → ⊥
never_low line changes down up each k low = not_both (sym (stays_high line changes down up each k) ∙ low)

-- a line that falls and rises at most once is low only between both edges
pub low_between : (line : Code) (changes : List Change) (b : Bool) (down up : ℕ) → down < up
    → ((k : ℕ) (v : Value) → value_after line k changes v ≡ pulse Low High b b down up k v)
    → (k : ℕ) → value_at line changes High k ≡ Low → (down ≤ k) × (k < up)
low_between line changes false down up order each k low = absurd (not_both (sym (stays_high line changes down up each k) ∙ low))
low_between line changes true down up order each k low = falls_between line changes down up order each k low

-- a line that is low before stays low until it rises
pub still_low : (line : Code) (changes : List Change) (rises : Bool) (down up : ℕ)
    → ((k : ℕ) (v : Value) → value_after line k changes v ≡ pulse Low High false rises down up k v)
    → (k : ℕ) → k < up → value_at line changes Low k ≡ Low
unfolding value_at
still_low line changes rises down up each zero soon = each 0 Low ∙ not_yet rises
  where
    not_yet : (rises : Bool) → pulse Low High false rises down up 0 Low ≡ Low
    not_yet false = refl
    not_yet true = rw (ne_eqb up 0 (λ same. absurd (omega (arith, same, soon)))) refl
still_low line changes rises down up each (suc k) soon =
    each (suc k) (value_at line changes Low k) ∙ not_yet rises ∙ still_low line changes rises down up each k (omega (arith, soon))
  where
    not_yet : (rises : Bool) → pulse Low High false rises down up (suc k) (value_at line changes Low k) ≡ value_at line changes Low k
    not_yet false = refl
    not_yet true = rw (ne_eqb up (suc k) (λ same. absurd (omega (arith, same, soon)))) refl

-- a variable that takes a value has it from then on, until it takes another
pub holds : (line : Code) (changes : List Change) (first later before : Value) (rises : Bool) (down up : ℕ)
    → ((k : ℕ) (v : Value) → value_after line k changes v ≡ pulse first later true rises down up k v)
    → (k : ℕ) → down ≤ k → k < up → value_at line changes before k ≡ first
unfolding value_at
holds line changes first later before rises down up each zero past soon = each 0 before ∙ falls rises
  where
    falls : (rises : Bool) → pulse first later true rises down up 0 before ≡ first
    falls false = rw (eq-eqb down 0 (omega (arith, past))) refl
    falls true = rw (ne_eqb up 0 (λ same. absurd (omega (arith, same, soon))), eq-eqb down 0 (omega (arith, past))) refl
holds line changes first later before rises down up each (suc k) past soon =
    elim (eqb_tells down (suc k)) [
      | inl fall ↦ each (suc k) v ∙ falls fall.0 rises
      | inr no_fall ↦ each (suc k) v ∙ stays no_fall.0 rises
          ∙ holds line changes first later before rises down up each k (omega (arith, past, no_fall.1)) (omega (arith, soon))
    ]
  where
    v : Value
    v = value_at line changes before k

    not_up : nat_eq up (suc k) ≡ false
    not_up = ne_eqb up (suc k) (λ same. absurd (omega (arith, same, soon)))

    falls : nat_eq down (suc k) ≡ true → (rises : Bool) → pulse first later true rises down up (suc k) v ≡ first
    falls now false = rw now refl
    falls now true = rw (not_up, now) refl

    stays : nat_eq down (suc k) ≡ false → (rises : Bool) → pulse first later true rises down up (suc k) v ≡ v
    stays now false = rw now refl
    stays now true = rw (not_up, now) refl
