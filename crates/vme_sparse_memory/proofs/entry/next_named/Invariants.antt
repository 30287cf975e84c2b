use Rattle.std.proofs.Common.{◌≡◌, ◌<◌, ◌≤◌, ℕ, slice_index_or, drop}
use Rattle.vme_sparse_memory.specs.Entries.{words_with}
use Rattle.vme_sparse_memory.proofs.entry.next_named.Given as goal

abbrev pub invariant-loop-entry : goal.invariant-loop-entry
invariant-loop-entry l = (l.next ≤ l.end) × (l.next < l.end → l.first ≤ l.next)
    × ((n at : ℕ) → l.first ≤ at → at < l.next
    → slice_index_or (words_with l.entries n) at 0 ≡ slice_index_or (words_with (drop l.entry-index l.entries) n) at 0)
