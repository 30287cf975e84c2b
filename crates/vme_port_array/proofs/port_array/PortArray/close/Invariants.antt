use Rattle.std.proofs.Common.{◌≡◌, ℕ, ◌<◌, ◌≤◌, true, false, slice_index_or, vec_len, vec_capacity}
use lib.ListN.{get_elem?}
use Rattle.vme_port_array.proofs.port_array.PortArray.close.Given as goal

-- the objects before this index are taken, and the others are not
abbrev pub invariant-loop-index : goal.invariant-loop-index
invariant-loop-index g l =
    ((k : ℕ) → l.index ≤ k → k < l.closed.slots.len → slice_index_or l.closed.slots.filled k false ≡ true)
    × ((k : ℕ) → k < l.index → slice_index_or l.closed.slots.filled k false ≡ false)
    × (l.closed.slots.items ≡ l.initial.closed.slots.items)
    × (l.closed.slots.len ≡ l.initial.closed.slots.len)
    × (vec_len l.homes ≡ l.index)
    × (l.objects ≤ vec_capacity l.homes)
    × ((k : ℕ) → k < l.index → get_elem? l.homes.items k ≡ get_elem? l.initial.closed.slots.items k)
