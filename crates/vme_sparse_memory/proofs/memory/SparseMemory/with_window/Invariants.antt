use Rattle.std.proofs.Common.{◌≡◌, ◌*◌, take}
use Rattle.vme_memory.specs.Words.{bytes_of_words}
use Rattle.vme_memory.specs.Boards.{bytes_after_write}
use Rattle.vme_sparse_memory.specs.Entries.{words_with}
use Rattle.vme_sparse_memory.proofs.memory.SparseMemory.with_window.Given as goal

abbrev pub invariant-loop-i : goal.invariant-loop-i
invariant-loop-i l = bytes_of_words (words_with l.entries.items l.self-inside.words)
    ≡ bytes_after_write l.self.bytes (4 * l.word) (take (4 * l.i) l.window.bytes)
