use Rattle.std.proofs.Common.{◌≡◌, ◌-◌, ◌*◌, ◌/◌, take, drop}
use Rattle.vme_sparse_memory.proofs.memory.SparseMemory.row.Given as goal

abbrev pub invariant-loop-at : goal.invariant-loop-at
invariant-loop-at l = l.row.items ≡ take (4 * (l.at - l.offset / 4)) (drop l.offset l.self.bytes)
