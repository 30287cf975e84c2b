-- The configuration of a file's document.
use Rattle.std.specs.Prelude.{Option, Result}
use Rattle.std.specs.Option.{ok_or}
use Rattle.toml.specs.Data.{Members}
use Rattle.vme_script.specs.declared.fault.ConfigFault.{ConfigFault}
use Rattle.vme_script.specs.declared.fault.ConfigFault.TheVariants.{NotToml, BadKey}
use Rattle.vme_script.specs.Answers.{◌>>=◌}
use Rattle.vme_config_toml.specs.Keys.{file_values}
use Rattle.vme_script.specs.Configurations.{Configuration, configuration_of}

-- the configuration of a document, or its first refusal; None is a text that is not a document
unfoldable pub configuration_in : Option Members → Result Configuration ConfigFault
configuration_in document = do
  keys ← ok_or document NotToml
  file ← ok_or (file_values keys) BadKey
  configuration_of file
