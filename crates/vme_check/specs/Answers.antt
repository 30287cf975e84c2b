-- The refusal that `vme` has for the bytes of a file.
use Rattle.std.specs.Prelude.{ℕ, List, Option, Some, None}
use Rattle.vme_script.specs.declared.fault.ConfigFault.{ConfigFault}
use Rattle.vme_script.specs.Configurations.{Configuration}
use Rattle.vme_engines.specs.Files.{Configures, IsRefusedAs}

-- the bytes of a file have this refusal, or are a configuration if there is none
abbrev pub IsAnswer : List ℕ → Option ConfigFault → Type 0
IsAnswer input None = (config : Configuration) × Configures input config
IsAnswer input (Some fault) = IsRefusedAs input fault
