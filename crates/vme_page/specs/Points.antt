-- The values of a variable in a cell.
use Rattle.std.specs.Prelude.{ℕ, ◌-◌, Bool, ◌&&◌, if◌then◌else◌, List, [], ◌∷◌, flat_map, Option, slice_get}
use Rattle.std.specs.Option.{option_map}
use Rattle.vme_trace.specs.declared.dump.change.Code.{Code}
use Rattle.vme_trace.specs.declared.dump.change.Value.{Value}
use Rattle.vme_trace.specs.declared.dump.change.Value.TheVariants.{Low, High, Free, Released, Number, Lanes, Grants}
use Rattle.vme_trace.specs.declared.dump.change.Change.{Change}
use Rattle.vme_trace.specs.Shown.{is_code, value_over}
use Rattle.vme_page.specs.declared.diagram.point.Point.{Point}
use Rattle.vme_page.specs.declared.diagram.window.Window.{Window}
use Rattle.vme_page.specs.Windows.{first_edge, end_edge, shows, place}

-- whether a change is one of a variable in a cell
abbrev pub is_in : Window → Code → Change → Bool
is_in window code c = is_code code c.code && shows window c.edge

-- the point of a change, if it is one of a variable in a cell
abbrev pub point_in : Window → Code → Change → List Point
point_in window code c = if is_in window code c then record { x = place window c.edge; value = c.value } ∷ [] else []

-- the points of a variable in a cell: its value at the begin, and the changes that the cell shows
abbrev pub line_points : Window → Code → Value → List Change → List Point
line_points window code value changes = record { x = 0; value = value } ∷ flat_map (point_in window code) changes

-- the value of a variable after the edges that a cell shows, by its value before them
abbrev pub value_past : Window → Code → List Change → Value → Value
value_past window code changes before = value_over code changes (first_edge window) (end_edge window - first_edge window) before

-- the first value that a variable changes to in a cell, if it changes
abbrev pub first_value : Window → Code → List Change → Option Value
first_value window code changes = option_map (λ p. p.value) (slice_get (line_points window code Free changes) 1)

-- the number that a value is; 0 if it is none
abbrev pub number_of : Value → ℕ
number_of Low = 0
number_of High = 0
number_of Free = 0
number_of Released = 0
number_of (Number width number) = number
number_of (Lanes lanes) = 0
number_of (Grants bits) = 0
