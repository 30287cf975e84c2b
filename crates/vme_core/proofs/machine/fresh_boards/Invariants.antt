use Rattle.std.proofs.Common.{◌≡◌, ◌+◌, ◌≤◌, ◌++◌, length, map, vec_capacity}
use Rattle.std.specs.Vec.Iter.{into_iter_items, into_iter_len}
use Rattle.vme_core.specs.CountedStates.{fresh_count}
use Rattle.vme_core.proofs.machine.fresh_boards.Given as goal

-- the boards so far, followed by those of the remaining memories, are those of all memories, and capacity for them
-- remains
abbrev pub invariant-loop-memory : goal.invariant-loop-memory
invariant-loop-memory l =
    (l.boards.items ++ map (fresh_count l.fn.k) (into_iter_items l.memory-iterator) ≡ map (fresh_count l.fn.k) l.fn.memories.items)
    × (length l.boards.items + into_iter_len l.memory-iterator ≤ vec_capacity l.boards)
    × (into_iter_len l.memory-iterator ≡ length (into_iter_items l.memory-iterator))
    × (goal.iterator-loop-memory).can_next l.memory-iterator
    × (goal.iterator-loop-memory).is_finite l.memory-iterator
