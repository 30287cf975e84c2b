use Rattle.std.proofs.Common.{◌≡◌, ◌<◌, ℕ, slice_index_or, drop}
use Rattle.vme_sparse_memory.specs.Entries.{words_with}
use Rattle.vme_sparse_memory.proofs.entry.word_at.Given as goal

abbrev pub invariant-loop-entry : goal.invariant-loop-entry
invariant-loop-entry l = (n : ℕ) → l.at < n → slice_index_or (words_with l.entries n) l.at 0 ≡ slice_index_or (words_with (drop l.entry-index l.entries) n) l.at 0
