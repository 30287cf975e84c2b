-- The value change dump of a file, and the part of it that one turn adds.
use Rattle.std.specs.Prelude.{ℕ, ◌≡◌, List, [], Option, Some, None}
use Rattle.vme_script.specs.Configurations.{Configuration}
use Rattle.vme_stepper.specs.Schedules.{file_turns}
use Rattle.vme_engines.specs.Files.{Configures}
use Rattle.vme_trace.specs.declared.observation.Observation.{Observation}
use Rattle.vme_trace.specs.declared.dump.values.Shown.{Shown}
use Rattle.vme_trace.specs.declared.progress.Selection.{Selection}
use Rattle.vme_trace.specs.declared.progress.Progress.{Progress}
use Rattle.vme_trace.specs.Selections.{next_progress}
use Rattle.vme_trace.specs.Dumps.{next_text, next_values, vcd_text}

-- the text of a turn: nothing if it does nothing
abbrev pub turn_text : Configuration → Progress → List Shown → Option Observation → List ℕ
turn_text config p values None = []
turn_text config p values (Some o) = next_text config p values o

-- how far a dump is after a turn
abbrev pub turn_progress : Progress → Option Observation → Progress
turn_progress p None = p
turn_progress p (Some o) = next_progress p o

-- the values of the variables after a turn, as long as no event is shown
abbrev pub turn_values : Configuration → Progress → Option Observation → List Shown → List Shown
turn_values config p None values = values
turn_values config p (Some o) values = next_values config p o values

-- a text is the value change dump of the selected events of the run on one thread, by the file's own turns, of the
-- configuration that the bytes of a file encode
pub record IsTraceText (selection : Selection) (input text : List ℕ) : Type 0 where
  pub config : Configuration
  pub configures : Configures input config
  pub whole : text ≡ vcd_text selection config (file_turns config)
