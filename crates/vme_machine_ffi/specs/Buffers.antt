-- The buffers of the end of a machine.
use Rattle.std.specs.Prelude.{ℕ, ◌≡◌, ◌≤◌, [], vec_capacity}
use Rattle.vme_machine_ffi.specs.declared.buffers.Buffers.{Buffers}

-- the buffers are empty, and have capacity for all processors and for all objects of a machine
pub record AreReady (count : ℕ) (b : Buffers) : Type 0 where
  pub boxes : (b.boxes.items ≡ []) × (count ≤ vec_capacity b.boxes)
  pub processors : (b.processors.items ≡ []) × (count ≤ vec_capacity b.processors)
  pub members : (b.members.items ≡ []) × (count ≤ vec_capacity b.members)
  pub passes : (b.passes.items ≡ []) × (count ≤ vec_capacity b.passes)
  pub homes : (b.homes.items ≡ []) × (64 ≤ vec_capacity b.homes)
