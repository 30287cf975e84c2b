-- What the lines of the local ports show.
use Rattle.std.specs.Prelude.{ℕ, nat_le, ◌&&◌, if◌then◌else◌, Option, Some, None}
use Rattle.vme_protocol.specs.declared.port.Port.{Port}
use Rattle.vme_vcd_reader.specs.declared.bus.BusLines.{BusLines}
use Rattle.vme_vcd_reader.specs.Buses.{port_of}

-- lines of the bus of whose local ports none has a change
abbrev pub without_changes : BusLines → BusLines
without_changes b = record b { changed_ports = 0 }

-- what a slot's local port shows, if there is such a slot
abbrev pub port_in : BusLines → ℕ → Option Port
port_in b slot = if nat_le 1 slot && nat_le slot 21 then Some ((port_of b slot).port) else None
