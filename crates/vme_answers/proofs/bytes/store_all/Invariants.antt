use Rattle.std.proofs.Common.{◌≡◌, ◌+◌, drop, length}
use Rattle.vme_answers.specs.Bytes.{stores, all_after}
use Rattle.vme_answers.proofs.bytes.store_all.Given as goal

abbrev pub invariant-loop-byte : goal.invariant-loop-byte
invariant-loop-byte l = record {
  place : l.place ≡ l.fn.at + l.byte-index;
  len : length l.known ≡ length l.fn.known;
  known : all_after l.fn.known (stores l.fn.at l.bytes) ≡ all_after l.known (stores l.place (drop l.byte-index l.bytes));
}
