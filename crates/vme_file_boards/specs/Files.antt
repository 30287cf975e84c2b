-- The boards of a configuration file.
use Rattle.std.specs.Prelude.{◌≡◌, Option, Ok}
use Rattle.toml.specs.Data.{Members}
use Rattle.vme_script.specs.Configurations.{Configuration}
use Rattle.vme_script.specs.Readings.{configuration_in}
use Rattle.vme_file_boards.specs.declared.file.FileBoards.{FileBoards}

-- the boards and the arbiter are those of the configuration of a document
pub record HasBoards (document : Option Members) (found : FileBoards) : Type 0 where
  pub config : Configuration
  pub read : configuration_in document ≡ Ok config
  pub boards : found.boards.items ≡ config.boards
  pub arbiter : found.arbiter ≡ config.arbiter
