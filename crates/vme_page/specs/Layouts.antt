-- The slots that a strip shows: their bars and their local ports.
use Rattle.std.specs.Prelude.{ℕ, Bool, true, false, not, if◌then◌else◌, List, [], ◌∷◌, flat_map, length, map}
use Rattle.std.specs.List.{list_any, range_with_len}
use Rattle.vme_grammar.specs.declared.line.Line.{Line}
use Rattle.vme_grammar.specs.declared.line.Line.TheVariants as lines
use Rattle.vme_script.specs.Configurations.{Configuration}
use Rattle.vme_line_task.specs.Scripts.{slot_at, level_at, lines_at}
use Rattle.vme_trace.specs.declared.observation.Observation.{Observation}
use Rattle.vme_trace.specs.declared.dump.change.Code.{Code}
use Rattle.vme_trace.specs.declared.dump.change.Value.TheVariants.{High}
use Rattle.vme_trace.specs.declared.dump.change.Change.{Change}
use Rattle.vme_trace.specs.declared.dump.variable.Variable.TheVariants.{RequestLine, BusyLine, PortWrite, PortOffset, PortData, PortError}
use Rattle.vme_trace.specs.Variables.{code_of}
use Rattle.vme_trace.specs.Shown.{value_after_run}
use Rattle.vme_page.specs.declared.diagram.layout.Bar.{Bar}
use Rattle.vme_page.specs.declared.diagram.layout.LocalPort.{LocalPort}
use Rattle.vme_page.specs.declared.diagram.window.Window.{Window}
use Rattle.vme_page.specs.Points.{value_past}

-- the bars of slots that request the bus, and the local ports
pub record LayoutView : Type 0 where
  pub bars : List Bar
  pub ports : List LocalPort

-- whether a line is one of the local port
abbrev pub is_local : Line → Bool
is_local (lines.Bus request) = false
is_local (lines.Local command) = true
is_local (lines.Await am addr bytes) = false
is_local (lines.Lock am addr) = false
is_local (lines.Unlock am addr) = false
is_local (lines.Put mailbox word) = false
is_local (lines.Take mailbox) = false

-- whether a line is one of the local port, or else whether it is one over the bus
abbrev pub is_kind : Bool → Line → Bool
is_kind true line = is_local line
is_kind false line = not (is_local line)

-- the bar of the slot of a board, with the values that the dump has after the first events of a run
abbrev pub bar_with : Configuration → List Observation → ℕ → Bar
bar_with config events board = record {
  slot = slot_at config board;
  level = level_at config board;
  request_code = code_of (RequestLine board);
  request = value_after_run (code_of (RequestLine board)) (length config.boards) events High;
  busy_code = code_of (BusyLine board);
  busy = value_after_run (code_of (BusyLine board)) (length config.boards) events High;
}

-- the bar of a slot whose script has a line over the bus
abbrev pub bar_of : Configuration → List Observation → ℕ → List Bar
bar_of config events board = if list_any (is_kind false) (lines_at config board) then bar_with config events board ∷ [] else []

-- the bars after the first events of a run
unfoldable pub bars_after_run : Configuration → List Observation → List Bar
bars_after_run config events = flat_map (bar_of config events) (range_with_len 0 (length config.boards))

-- the local port of a slot whose script has a line of it
abbrev pub port_of : Configuration → ℕ → List LocalPort
port_of config board =
    if list_any (is_kind true) (lines_at config board)
    then record {
      slot = slot_at config board;
      write = code_of (PortWrite board);
      offset = code_of (PortOffset board);
      bytes = code_of (PortData board);
      error = code_of (PortError board);
    } ∷ []
    else []

-- the local ports
unfoldable pub ports_of : Configuration → List LocalPort
ports_of config = flat_map (port_of config) (range_with_len 0 (length config.boards))

-- a bar after a cell: its BRn* and its BBSY*
abbrev pub bar_past : Window → List Change → Bar → Bar
bar_past window changes bar = record bar {
  request = value_past window bar.request_code changes bar.request;
  busy = value_past window bar.busy_code changes bar.busy;
}

-- a layout after a cell
abbrev pub layout_past : Window → List Change → LayoutView → LayoutView
layout_past window changes layout = record layout { bars = map (bar_past window changes) layout.bars }
