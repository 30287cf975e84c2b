-- The configuration that the bytes of a file encode.
use Rattle.std.specs.Prelude.{ℕ, ◌≡◌, List, Ok, Err, IsUtf8}
use Rattle.toml.specs.Parse.{parse_document}
use Rattle.vme_script.specs.declared.fault.ConfigFault.{ConfigFault}
use Rattle.vme_script.specs.declared.fault.ConfigFault.TheVariants.{NotToml}
use Rattle.vme_script.specs.Configurations.{Configuration}
use Rattle.vme_script.specs.Readings.{configuration_in}

-- the bytes of a file are a UTF-8 text that encodes this configuration
abbrev pub Configures : List ℕ → Configuration → Type 0
Configures input config = IsUtf8 input × (configuration_in (parse_document input) ≡ Ok config)

-- the bytes of a file are refused with this fault: a UTF-8 text with that of its document, other bytes with `NotToml` (C6)
abbrev pub IsRefusedAs : List ℕ → ConfigFault → Type 0
IsRefusedAs input fault =
    (IsUtf8 input → configuration_in (parse_document input) ≡ Err fault) × ((IsUtf8 input → ⊥) → fault ≡ NotToml)
