-- The diagrams of a run, event by event.
use Rattle.std.specs.Prelude.{ℕ, ◌≡◌, ◌≤◌, List}
use Rattle.vme_trace.specs.declared.dump.change.Change.{Change}
use Rattle.vme_trace.specs.declared.dump.edge.TheConstants.{BEGIN, EDGES}
use Rattle.vme_page.specs.declared.diagram.levels.Levels.{Levels}
use Rattle.vme_page.specs.declared.diagram.window.Window.{Window}
use Rattle.vme_page.specs.declared.diagram.window.Window.TheVariants.{Whole}
use Rattle.vme_page.specs.Windows.{first_edge, end_edge}
use Rattle.vme_page.specs.Levels.{levels_past}
use Rattle.vme_page.specs.Layouts.{LayoutView, layout_past}

-- the values of the lines before the next cell, the bars and local ports, and how many cells the open strip has (0 if none is
-- open)
pub record DiagramView : Type 0 where
  pub layout : LayoutView
  pub levels : Levels
  pub column : ℕ

-- the one cell of an event shows all of its edges
pub record IsOneCell (window : Window) : Type 0 where
  pub begins : first_edge window ≡ BEGIN
  pub ends : end_edge window ≡ EDGES

-- of the two cells of an event the second begins where the first ends, and both together show all of its edges
pub record AreTwoCells (first second : Window) : Type 0 where
  pub begins : first_edge first ≡ BEGIN
  pub within : end_edge first ≤ EDGES
  pub joined : first_edge second ≡ end_edge first
  pub ends : end_edge second ≡ EDGES

-- the diagrams after all edges of an event, whose changes these are
pub record IsWholeEvent (changes : List Change) (old new : DiagramView) : Type 0 where
  pub levels : new.levels ≡ levels_past Whole changes old.levels
  pub layout : new.layout ≡ layout_past Whole changes old.layout
