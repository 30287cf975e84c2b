use Rattle.std.proofs.Common.{ℕ, ◌≡◌, ◌≤◌, length, take, drop}
use Rattle.vme_machine_ffi.specs.Closings.{counts_of}
use Rattle.vme_machine_ffi.proofs.settled.write_counts.Given as goal

-- the numbers before i are written, and the others are as they were
abbrev pub invariant-loop-i : goal.invariant-loop-i
invariant-loop-i l = record {
  taken : take l.i l.steps ≡ take l.i (counts_of l.fn.homes);
  kept : (n : ℕ) → l.i ≤ n → drop n l.steps ≡ drop n l.fn.steps;
  same : length l.steps ≡ length l.fn.steps;
}
