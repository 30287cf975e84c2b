-- The findings of a file, and how they relate to its refusal.
use Rattle.std.specs.Prelude.{◌≡◌, ℕ, Bool, true, not, List, [], ◌∷◌, Option, Some, None, Result, Ok, Err}
use Rattle.std.specs.List.{list_all}
use Rattle.vme_script.specs.declared.fault.ConfigFault.{ConfigFault}
use Rattle.vme_script.specs.Configurations.{Configuration}
use Rattle.vme_engines.specs.Files.{Configures, IsRefusedAs}
use Rattle.vme_faults.specs.declared.finding.Finding.{Finding}
use Rattle.vme_faults.specs.Causes.{refusal_of}
use Rattle.vme_faults.specs.Severities.{is_warning}

-- the bytes of a file are this configuration, or have this refusal
abbrev pub IsVerdict : List ℕ → Result Configuration ConfigFault → Type 0
IsVerdict input (Ok config) = Configures input config
IsVerdict input (Err fault) = IsRefusedAs input fault

-- whether a finding is an error
abbrev pub is_error : Finding → Bool
is_error finding = not (is_warning finding)

-- the refusal of the first finding
abbrev pub first_refusal : List Finding → Option ConfigFault
first_refusal [] = None
first_refusal (finding ∷ more) = refusal_of finding.cause

-- findings of a file that is this configuration, or has this refusal: a configuration has warnings alone, and another
-- file begins with its refusal
abbrev pub Agree : List Finding → Result Configuration ConfigFault → Type 0
Agree findings (Ok config) = list_all is_warning findings ≡ true
Agree findings (Err fault) = first_refusal findings ≡ Some fault

-- the findings of a file: those of a configuration are warnings, and those of another file begin with its refusal
abbrev pub AreFindingsOf : List ℕ → List Finding → Type 0
AreFindingsOf input findings = (verdict : Result Configuration ConfigFault) × IsVerdict input verdict × Agree findings verdict
