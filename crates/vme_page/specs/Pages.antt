-- The page of a run.
use Rattle.std.specs.Prelude.{ℕ, List, ◌++◌, Option}
use Rattle.std.specs.Io.KnownBytes.{Appends}
use Rattle.vme_script.specs.Configurations.{Configuration}
use Rattle.vme_stepper.specs.Schedules.{file_turns}
use Rattle.vme_stepper.specs.Reports.{run_text}

-- a byte model grew by some bytes
pub record Grows (old new : Option (List ℕ)) : Type 0 where
  pub text : List ℕ
  pub appends : Appends old new text

-- a byte model grew by a page: a head with diagrams, the report of `vme step`, and an end
pub record AppendsPage (config : Configuration) (old new : Option (List ℕ)) : Type 0 where
  pub head : List ℕ
  pub end : List ℕ
  pub appends : Appends old new (head ++ (run_text config (file_turns config) ++ end))
