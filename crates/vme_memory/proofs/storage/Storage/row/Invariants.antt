-- The row so far has the bytes of the words so far.
use Rattle.std.proofs.Common.{◌≡◌, ◌≤◌, ◌-◌, ◌*◌, take, drop, length}
use Rattle.vme_memory.specs.Words.{bytes_of_words}
use Rattle.vme_memory.proofs.storage.Storage.row.Given as goal

abbrev pub invariant-loop-i : goal.invariant-loop-i
invariant-loop-i l = record {
  from : l.first ≤ l.i;
  bytes : l.row.items ≡ bytes_of_words (take (l.i - l.first) (drop l.first l.self-inside.words.items));
  len : length l.row.items ≡ 4 * (l.i - l.first);
}
