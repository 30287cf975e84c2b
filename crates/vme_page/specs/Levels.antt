-- The values of the lines of the bus before a cell.
use Rattle.std.specs.Prelude.{ℕ, ◌-◌, List}
use Rattle.vme_trace.specs.declared.observation.Observation.{Observation}
use Rattle.vme_trace.specs.declared.dump.change.Change.{Change}
use Rattle.vme_trace.specs.declared.dump.change.Value.TheVariants.{High, Free, Released}
use Rattle.vme_trace.specs.declared.dump.variable.Variable.TheVariants.{AddressStrobe, AddressModifier, AddressLines, LongWord, WriteLine, FirstStrobe, SecondStrobe, DataLines, UpperDataLines, Acknowledge, BusError}
use Rattle.vme_trace.specs.Variables.{code_of}
use Rattle.vme_trace.specs.Changes.{no_lanes}
use Rattle.vme_trace.specs.Shown.{value_over, value_after_run}
use Rattle.vme_page.specs.declared.diagram.levels.Levels.{Levels}
use Rattle.vme_page.specs.declared.diagram.window.Window.{Window}
use Rattle.vme_page.specs.Windows.{first_edge, end_edge}

-- the values before the first event
abbrev pub idle : Levels
idle = record {
  address_strobe = High;
  address_modifier = Released;
  address_lines = Released;
  long_word = Free;
  write_line = Free;
  first_strobe = High;
  second_strobe = High;
  data_lines = no_lanes;
  upper_data_lines = no_lanes;
  acknowledge = High;
  bus_error = High;
}

-- the values after so many edges of an event from one on
unfoldable pub levels_over : List Change → ℕ → ℕ → Levels → Levels
levels_over changes edge count l = record {
  address_strobe = value_over (code_of AddressStrobe) changes edge count l.address_strobe;
  address_modifier = value_over (code_of AddressModifier) changes edge count l.address_modifier;
  address_lines = value_over (code_of AddressLines) changes edge count l.address_lines;
  long_word = value_over (code_of LongWord) changes edge count l.long_word;
  write_line = value_over (code_of WriteLine) changes edge count l.write_line;
  first_strobe = value_over (code_of FirstStrobe) changes edge count l.first_strobe;
  second_strobe = value_over (code_of SecondStrobe) changes edge count l.second_strobe;
  data_lines = value_over (code_of DataLines) changes edge count l.data_lines;
  upper_data_lines = value_over (code_of UpperDataLines) changes edge count l.upper_data_lines;
  acknowledge = value_over (code_of Acknowledge) changes edge count l.acknowledge;
  bus_error = value_over (code_of BusError) changes edge count l.bus_error;
}

-- the values after a cell
abbrev pub levels_past : Window → List Change → Levels → Levels
levels_past window changes l = levels_over changes (first_edge window) (end_edge window - first_edge window) l

-- the values that the dump has after the first events of a run, on a backplane with so many boards
unfoldable pub levels_after_run : ℕ → List Observation → Levels
levels_after_run boards events = record {
  address_strobe = value_after_run (code_of AddressStrobe) boards events High;
  address_modifier = value_after_run (code_of AddressModifier) boards events Released;
  address_lines = value_after_run (code_of AddressLines) boards events Released;
  long_word = value_after_run (code_of LongWord) boards events Free;
  write_line = value_after_run (code_of WriteLine) boards events Free;
  first_strobe = value_after_run (code_of FirstStrobe) boards events High;
  second_strobe = value_after_run (code_of SecondStrobe) boards events High;
  data_lines = value_after_run (code_of DataLines) boards events no_lanes;
  upper_data_lines = value_after_run (code_of UpperDataLines) boards events no_lanes;
  acknowledge = value_after_run (code_of Acknowledge) boards events High;
  bus_error = value_after_run (code_of BusError) boards events High;
}
