-- The diagrams of a page: before each event they have the values of the dump.
use Rattle.std.specs.Prelude.{ℕ, ◌≡◌, nat_lt, Bool, ◌||◌, List, ◌++◌, length}
use Rattle.vme_script.specs.Configurations.{Configuration}
use Rattle.vme_stepper.specs.Schedules.{file_turns}
use Rattle.vme_trace.specs.declared.observation.Observation.{Observation}
use Rattle.vme_trace.specs.Observations.{observations}
use Rattle.vme_trace.specs.declared.range.EventRange.{EventRange}
use Rattle.vme_page.specs.Levels.{levels_after_run}
use Rattle.vme_page.specs.Layouts.{bars_after_run}
use Rattle.vme_page.specs.Diagrams.{DiagramView}

-- the diagrams after the events so far, and how many these are
pub record DrawingView : Type 0 where
  pub diagram : DiagramView
  pub count : ℕ

-- whether an event is not shown
abbrev pub is_left_out : EventRange → ℕ → Bool
is_left_out range number = nat_lt number range.first || nat_lt range.last number

-- after the first events of a run the lines of the bus and the bars have the values that the dump gives their variables
pub record ShowsRun (config : Configuration) (events : List Observation) (d : DrawingView) : Type 0 where
  pub count : d.count ≡ length events
  pub levels : d.diagram.levels ≡ levels_after_run (length config.boards) events
  pub bars : d.diagram.layout.bars ≡ bars_after_run config events

-- the diagrams show the first events of the run of a configuration by the turns of its file
pub record ShowsFirst (config : Configuration) (d : DrawingView) : Type 0 where
  pub events : List Observation
  pub later : List Observation
  pub whole : events ++ later ≡ observations config (file_turns config)
  pub shows : ShowsRun config events d
