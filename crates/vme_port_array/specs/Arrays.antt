-- Defines what contracts see of an array.
use Rattle.std.specs.Prelude.{ℕ, ◌≡◌, List}
use Rattle.atomic_table.specs.Seated.{TableId}
use Rattle.vme_port.specs.Passes.{PassView}
use Rattle.vme_port_array.specs.declared.indexed.Indexed.{Indexed}
use Rattle.vme_port_array.specs.declared.port_array.PortArray.{PortArray}

module _ {S C R : Type 0} where
  -- the identity of an array
  abbrev pub array_id : PortArray S C R → TableId
  array_id array = array.table.shared.table_id

  -- the objects that an array was opened with, in the order of their indexes
  abbrev pub opening : PortArray S C R → List S
  opening array = array.table.shared.key.starts.value.items

  -- the number of passes that an array was opened for
  abbrev pub passes_of : PortArray S C R → ℕ
  passes_of array = array.passes

  -- the number of objects of an array
  abbrev pub objects_of : PortArray S C R → ℕ
  objects_of array = array.objects

  -- the pass belongs to this array
  abbrev pub IsPassOf : PortArray S C R → PassView (Indexed C) R → Type 0
  IsPassOf array p = p.port ≡ array_id array
