-- The first finding of a file has the refusal of the file.
use Rattle.std.proofs.Common.{◌≡◌, ℕ, ◌+◌, arith, Bool, true, false, not, ◌&&◌, inl, inr, refl, subst, sym}
use Rattle.std.proofs.Common.{List, [], ◌∷◌, Option, Some, None, is_none, Result, Ok, Err}
use Rattle.std.specs.Prelude.{◌==◌, if◌then◌else◌}
use Rattle.std.specs.List.{count_by, list_all}
use Rattle.std.proofs.lemmas.Bool.{cases_Bool, ne_eqb}
use Rattle.std.proofs.lemmas.List.Sums.{sum_by-cons}
use Rattle.vme_script.specs.declared.fault.ConfigFault.{ConfigFault}
use Rattle.vme_script.specs.Configurations.{Configuration}
use Rattle.vme_engines.specs.Files.{Configures}
use Rattle.vme_faults.specs.declared.finding.Finding.{Finding}
use Rattle.vme_faults.specs.declared.cause.Cause.{Cause}
use Rattle.vme_faults.specs.declared.cause.Cause.TheVariants as causes
use Rattle.vme_faults.specs.Causes.{refusal_of, severity_of}
use Rattle.vme_faults.specs.Severities.{is_of_warning, is_warning}
use Rattle.vme_check.specs.Verdicts.{IsVerdict, Agree, AreFindingsOf, first_refusal, is_error}
use Rattle.vme_check.specs.Answers.{IsAnswer}

-- each of two that are both true is true
both_true : (a b : Bool) → (a && b) ≡ true → (a ≡ true) × (b ≡ true)
both_true true b both = (refl, both)
both_true false b both = absurd (cc)

-- the cause of a warning has no refusal
no_refusal : (cause : Cause) → is_of_warning (severity_of cause) ≡ true → is_none (refusal_of cause) ≡ true
no_refusal (causes.Document cause) warning = cc
no_refusal (causes.Board cause) warning = cc
no_refusal (causes.Schedule cause) warning = cc
no_refusal (causes.Mailbox cause) warning = cc
no_refusal (causes.Script slot number cause) warning = cc
no_refusal (causes.Refused fault) warning = cc
no_refusal (causes.File it) warning = refl
no_refusal (causes.Line slot number it) warning = refl
no_refusal (causes.RequestLine cause) warning = cc
no_refusal (causes.RequestCycle cause) warning = cc
no_refusal causes.RequestBoard warning = refl

-- for an input that is a configuration, no refusal is the answer
without_refusal : (input : List ℕ) (config : Configuration) → Configures input config → (refusal : Option ConfigFault)
    → is_none refusal ≡ true → IsAnswer input refusal
without_refusal input config configures None none = (config, configures)
without_refusal input config configures (Some fault) none = cc

-- for an input that is a configuration, warnings alone have the right first refusal, none
of_warnings : (input : List ℕ) (config : Configuration) → Configures input config → (findings : List Finding)
    → list_all is_warning findings ≡ true → IsAnswer input (first_refusal findings)
of_warnings input config configures [] all = (config, configures)
of_warnings input config configures (finding ∷ more) all =
    without_refusal input config configures (refusal_of finding.cause)
    (no_refusal finding.cause (both_true (is_warning finding) (list_all is_warning more) all).0)

-- if findings agree with the verdict on an input, their first refusal is the answer
of_verdict : (input : List ℕ) (findings : List Finding) (verdict : Result Configuration ConfigFault) → IsVerdict input verdict
    → Agree findings verdict → IsAnswer input (first_refusal findings)
of_verdict input findings (Ok config) configures agree = of_warnings input config configures findings agree
of_verdict input findings (Err fault) refused agree = subst (IsAnswer input) (sym agree) refused

-- the refusal of the first finding is what `vme` answers
pub answered : (input : List ℕ) (findings : List Finding) → AreFindingsOf input findings → IsAnswer input (first_refusal findings)
answered input findings found = of_verdict input findings found.0 found.1 found.2

-- a warning is counted as no error
zero_of : (warning : Bool) → warning ≡ true → ◌≡◌ {A = ℕ} (if not warning then 1 else 0) 0
zero_of warning is = rw is refl

-- what is no warning is counted as an error
one_of : (warning : Bool) → warning ≡ false → ◌≡◌ {A = ℕ} (if not warning then 1 else 0) 1
one_of warning is = rw is refl

-- the count of findings with one before them
count_first : (finding : Finding) (more : List Finding)
    → count_by is_error (finding ∷ more) ≡ (if not (is_warning finding) then 1 else 0) + count_by is_error more
count_first finding more = sum_by-cons (λ one. if not (is_warning one) then 1 else 0) finding more

-- warnings alone have no error
no_errors : (findings : List Finding) → list_all is_warning findings ≡ true → count_by is_error findings ≡ 0
no_errors [] all = refl
no_errors (finding ∷ more) all =
    let both = both_true (is_warning finding) (list_all is_warning more) all in
    omega (arith, count_first finding more, zero_of (is_warning finding) both.0, no_errors more both.1)

-- a cause with a refusal is none of a warning
of_error : (cause : Cause) (fault : ConfigFault) → refusal_of cause ≡ Some fault → is_of_warning (severity_of cause) ≡ false
of_error cause fault refused =
    elim (cases_Bool (is_of_warning (severity_of cause))) [
      | inl warning ↦ absurd (let none = no_refusal cause warning in cc)
      | inr error ↦ error
    ]

-- findings that begin with a refusal have an error
some_error : (findings : List Finding) (fault : ConfigFault) → first_refusal findings ≡ Some fault
    → (count_by is_error findings == 0) ≡ false
some_error [] fault first = cc
some_error (finding ∷ more) fault first =
    ne_eqb _ 0 (λ none. omega (arith, none, count_first finding more, one_of (is_warning finding) (of_error finding.cause fault first)))

-- warnings alone have no refusal
none_first : (findings : List Finding) → list_all is_warning findings ≡ true → is_none (first_refusal findings) ≡ true
none_first [] all = refl
none_first (finding ∷ more) all =
    no_refusal finding.cause (both_true (is_warning finding) (list_all is_warning more) all).0

-- findings that agree with a verdict have an error exactly if the first has a refusal
by_verdict : (findings : List Finding) (verdict : Result Configuration ConfigFault) → Agree findings verdict
    → is_none (first_refusal findings) ≡ (count_by is_error findings == 0)
by_verdict findings (Ok config) agree = rw (none_first findings agree, no_errors findings agree) refl
by_verdict findings (Err fault) agree =
    let refused : first_refusal findings ≡ Some fault = agree in
    rw (refused, some_error findings fault refused) refl

-- there is an error exactly if the first finding has a refusal
pub counted : (input : List ℕ) (findings : List Finding) → AreFindingsOf input findings
    → is_none (first_refusal findings) ≡ (count_by is_error findings == 0)
counted input findings found = by_verdict findings found.0 found.2
