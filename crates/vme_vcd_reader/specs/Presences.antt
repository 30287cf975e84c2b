-- Which lines a dump has, by the variables that are lines of the bus.
use Rattle.std.specs.Prelude.{ℕ, true, false, List, [], ◌∷◌}
use Rattle.vme_line_map.specs.declared.group.Group.{Group}
use Rattle.vme_line_map.specs.declared.group.Group.TheVariants as groups
use Rattle.vme_vcd_reader.specs.declared.presence.Presence.{Presence}
use Rattle.vme_vcd_reader.specs.declared.variable.Mapped.{Mapped}
use Rattle.vme_vcd_reader.specs.Buses.{with_slot}

-- a dump with none of them
abbrev pub no_lines : Presence
no_lines = record {
  bus_error = false;
  interrupt_acknowledge = false;
  busy = false;
  drivers = 0;
  requests = 0;
  grants = 0;
  ports = 0;
}

-- a dump that has lines of a group too
abbrev pub with_lines : Presence → Group → Presence
with_lines p groups.BusError = record p { bus_error = true }
with_lines p groups.InterruptAcknowledge = record p { interrupt_acknowledge = true }
with_lines p groups.Busy = record p { busy = true }
with_lines p (groups.SlotBusy slot) = record p { drivers = with_slot p.drivers slot true }
with_lines p (groups.SlotRequest slot) = record p { requests = with_slot p.requests slot true }
with_lines p (groups.SlotGrant slot) = record p { grants = with_slot p.grants slot true }
with_lines p (groups.PortDone slot) = record p { ports = with_slot p.ports slot true }
with_lines p group = p

-- a dump with lines of these variables too
abbrev pub with_each : Presence → List (ℕ × Mapped) → Presence
with_each p [] = p
with_each p (line ∷ lines) = with_each (with_lines p line.1.group) lines

-- a dump with lines of these variables
abbrev pub presence_of : List (ℕ × Mapped) → Presence
presence_of lines = with_each no_lines lines
