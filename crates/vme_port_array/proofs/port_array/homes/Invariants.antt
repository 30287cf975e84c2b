use Rattle.std.proofs.Common.{◌≡◌, ◌+◌, ◌≤◌, length, vec_capacity}
use Rattle.std.specs.Vec.Iter.{into_iter_items, into_iter_len}
use Rattle.vme_port_array.proofs.Opens.{HaveHomes}
use Rattle.vme_port_array.proofs.port_array.homes.Given as goal

-- the objects so far have homes without entries, and there is capacity for the others
abbrev pub invariant-loop-object : goal.invariant-loop-object
invariant-loop-object g l =
    HaveHomes l.fn.objects.items (into_iter_items l.object-iterator) l.homes.items
    × (length l.homes.items + into_iter_len l.object-iterator ≤ vec_capacity l.homes)
    × (into_iter_len l.object-iterator ≡ length (into_iter_items l.object-iterator))
    × (goal.iterator-loop-object g).can_next l.object-iterator
    × (goal.iterator-loop-object g).is_finite l.object-iterator
