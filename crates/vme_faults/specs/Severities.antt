-- Whether a finding is a warning.
use Rattle.std.specs.Prelude.{Bool, true, false}
use Rattle.vme_faults.specs.declared.cause.Severity.{Severity}
use Rattle.vme_faults.specs.declared.cause.Severity.TheVariants.{Error, Warning}
use Rattle.vme_faults.specs.declared.finding.Finding.{Finding}
use Rattle.vme_faults.specs.Causes.{severity_of}

-- whether a severity is that of a warning
abbrev pub is_of_warning : Severity → Bool
is_of_warning Error = false
is_of_warning Warning = true

-- whether a finding is a warning
abbrev pub is_warning : Finding → Bool
is_warning finding = is_of_warning (severity_of finding.cause)
