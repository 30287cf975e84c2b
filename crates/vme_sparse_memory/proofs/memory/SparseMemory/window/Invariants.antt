use Rattle.std.proofs.Common.{◌≡◌, ◌+◌, ◌*◌, take, slice_range}
use Rattle.vme_memory.specs.Boards.{bytes_after_write, zeros}
use Rattle.vme_sparse_memory.proofs.memory.SparseMemory.window.Given as goal

abbrev pub invariant-loop-i : goal.invariant-loop-i
invariant-loop-i l = l.window ≡ record {
  bytes = bytes_after_write (zeros (4 * l.count)) 0 (take (4 * l.i) (slice_range l.self.bytes (4 * l.word) (4 * l.word + 12)));
  class = l.self.class;
}
