-- Lists of warnings.
use Rattle.std.proofs.Common.{◌≡◌, Bool, true, false, List, [], ◌∷◌, ◌++◌, refl}
use Rattle.std.specs.Prelude.{if◌then◌else◌}
use Rattle.std.specs.List.{list_all}
use Rattle.std.proofs.lemmas.List.Folds.{list_all-append}
use Rattle.vme_faults.specs.declared.finding.Finding.{Finding}
use Rattle.vme_faults.specs.declared.cause.Severity.TheVariants.{Warning}
use Rattle.vme_faults.specs.Causes.{severity_of}
use Rattle.vme_faults.specs.Severities.{is_warning}

-- warnings, and perhaps one more, are warnings
pub still_warnings :
    (before after : List Finding) (finding : Finding) (ok : Bool) → after ≡ (if ok then before ++ finding ∷ [] else before)
    → list_all is_warning before ≡ true → severity_of finding.cause ≡ Warning → list_all is_warning after ≡ true
still_warnings before after finding false is all warning = rw is all
still_warnings before after finding true is all warning =
    rw (is, list_all-append is_warning before (finding ∷ []), all, warning) refl
