-- A configuration that the bytes of a file encode is lawful.
use Rattle.std.proofs.Common.{◌≡◌, List, ℕ, Option, Some, None, Ok}
use Rattle.std.specs.Option.{ok_or}
use Rattle.toml.specs.Data.{Members}
use Rattle.toml.specs.Parse.{parse_document}
use Rattle.vme_config_toml.specs.Files.{FileValues}
use Rattle.vme_config_toml.specs.Keys.{file_values}
use Rattle.vme_script.specs.declared.fault.ConfigFault.TheVariants.{BadKey}
use Rattle.vme_script.specs.Answers.{◌>>=◌}
use Rattle.vme_script.specs.Configurations.{Configuration, configuration_of}
use Rattle.vme_script.specs.Lawful.{IsLawful}
use Rattle.vme_script.specs.Readings.{configuration_in}
use Rattle.vme_script.proofs.lemmas.Lawful.{configuration_known}
use Rattle.vme_engines.specs.Files.{Configures}

-- a configuration of a file's values is lawful
by_values : (values : Option FileValues) (config : Configuration) → (ok_or values BadKey >>= configuration_of) ≡ Ok config
    → IsLawful config
by_values None config is = absurd cc
by_values (Some file) config is = configuration_known file config is

-- a configuration in a document is lawful
by_document : (document : Option Members) (config : Configuration) → configuration_in document ≡ Ok config → IsLawful config
unfolding configuration_in
by_document None config is = absurd cc
by_document (Some keys) config is = by_values (file_values keys) config is

-- the configuration that the bytes of a file encode is lawful
pub read_lawful : (input : List ℕ) (config : Configuration) → Configures input config → IsLawful config
read_lawful input config configures = by_document (parse_document input) config configures.1
