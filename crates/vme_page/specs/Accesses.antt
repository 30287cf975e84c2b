-- The accesses of the local ports.
use Rattle.std.specs.Prelude.{ℕ, Bool, true, false, List, Option, Some, None}
use Rattle.vme_trace.specs.declared.dump.change.Value.{Value}
use Rattle.vme_trace.specs.declared.dump.change.Value.TheVariants.{Low, High, Free, Released, Number, Lanes, Grants}
use Rattle.vme_trace.specs.declared.dump.change.Change.{Change}
use Rattle.vme_page.specs.declared.diagram.access.Access.{Access}
use Rattle.vme_page.specs.declared.diagram.layout.LocalPort.{LocalPort}
use Rattle.vme_page.specs.declared.diagram.window.Window.{Window}
use Rattle.vme_page.specs.declared.diagram.window.Window.TheVariants.{Whole}
use Rattle.vme_page.specs.Points.{first_value, number_of}

-- whether a line is high
abbrev pub is_high : Value → Bool
is_high Low = false
is_high High = true
is_high Free = false
is_high Released = false
is_high (Number width number) = false
is_high (Lanes lanes) = false
is_high (Grants bits) = false

-- whether a line becomes high
abbrev pub is_raised : Option Value → Bool
is_raised None = false
is_raised (Some value) = is_high value

-- the number that a line changes to; 0 if it is none
abbrev pub number_in : Option Value → ℕ
number_in None = 0
number_in (Some value) = number_of value

-- what a cell shows of an access by a local port, by the level of its write line
abbrev pub access_by : Window → List Change → LocalPort → Value → Access
access_by window changes port write = record {
  write = is_high write;
  offset = number_in (first_value Whole port.offset changes);
  error = is_raised (first_value window port.error changes);
  bytes = first_value window port.bytes changes;
}
