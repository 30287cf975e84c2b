-- Defines what contracts see of a port.
use Rattle.std.specs.Prelude.{ℕ, ◌≡◌}
use Rattle.atomic_table.specs.Seated.{TableId}
use Rattle.vme_port.specs.declared.port.Port.{Port}
use Rattle.vme_port.specs.Passes.{PassView}

module _ {S C R : Type 0} where
  -- the identity of a port
  abbrev pub port_id : Port S C R → TableId
  port_id port = port.table.shared.table_id

  -- the object that a port was opened with
  abbrev pub opening : Port S C R → S
  opening port = port.table.shared.key.start.value

  -- the number of passes that a port was opened for
  abbrev pub passes_of : Port S C R → ℕ
  passes_of port = port.passes

  -- the pass belongs to this port
  abbrev pub IsPassOf : Port S C R → PassView C R → Type 0
  IsPassOf port p = p.port ≡ port_id port
