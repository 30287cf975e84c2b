-- Case distinctions.
use Rattle.std.proofs.Common.{◌≡◌, ℕ, ◌+◌, ◌⊎◌, Option, None, Some, Result, Ok, Err, refl, inl, inr, arith}
use Rattle.std.specs.Prelude.{◌==◌}
use Rattle.std.proofs.lemmas.Bool.{cases_Bool, eqb-true, eqb-false, eq-eqb, ne_eqb}
use Rattle.vme_grammar.specs.declared.fault.LineFault.{LineFault}

-- a value is absent or present
pub cases_Option : {A : Type 0} (value : Option A) → (value ≡ None) ⊎ ((x : A) × (value ≡ Some x))
cases_Option None = inl refl
cases_Option (Some x) = inr (x, refl)

-- a result is a refusal or a value
pub cases_Result : {A : Type 0} (value : Result A LineFault) → ((fault : LineFault) × (value ≡ Err fault)) ⊎ ((x : A) × (value ≡ Ok x))
cases_Result (Ok x) = inr (x, refl)
cases_Result (Err fault) = inl (fault, refl)

-- two counts are equal exactly if they are equal with the same number added
pub same_count : (m n more p q : ℕ) → p ≡ m + more → q ≡ n + more → (p == q) ≡ (m == n)
same_count m n more p q first second =
    elim (cases_Bool (m == n)) [
      | inl same ↦ rw same (eq-eqb p q (omega (arith, first, second, eqb-true m n same)))
      | inr other ↦ rw other (ne_eqb p q (λ e. eqb-false m n other (omega (arith, first, second, e))))
    ]
