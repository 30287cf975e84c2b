-- Bytes in a value or on the heap, and their capacity: for this crate's own functions.
use Rattle.std.specs.Prelude.{ℕ, ◌≤◌, List, length, vec_capacity}
use Rattle.vme_cycle.specs.declared.repr.Repr.{Repr}
use Rattle.vme_cycle.specs.declared.repr.Repr.TheVariants.{Short, Long}
use Rattle.vme_cycle.specs.BlockBuffers.{BufferView, inline_capacity}

-- the bytes of a representation
abbrev pub repr_bytes : Repr → List ℕ
repr_bytes (Short bytes) = bytes.items
repr_bytes (Long bytes buffer) = bytes.items

-- the capacity of a representation, in bytes
abbrev pub repr_capacity : Repr → ℕ
repr_capacity (Short bytes) = inline_capacity
repr_capacity (Long bytes buffer) = buffer

-- the allocated memory is enough for the capacity
abbrev pub HasCapacity : Repr → Type 0
HasCapacity (Short bytes) = Unit {0}
HasCapacity (Long bytes buffer) = buffer ≤ vec_capacity bytes

-- the invariant of a buffer
pub record IsBuffer (repr : Repr) : Type 0 where
  pub capacity_fits : HasCapacity repr
  pub least : inline_capacity ≤ repr_capacity repr
  pub within : length (repr_bytes repr) ≤ repr_capacity repr

-- the model of a buffer with this representation
abbrev pub buffer_view : Repr → BufferView
buffer_view repr = record { items = repr_bytes repr; capacity = repr_capacity repr }
