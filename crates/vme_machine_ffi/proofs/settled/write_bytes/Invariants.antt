use Rattle.std.proofs.Common.{ℕ, ◌≡◌, ◌≤◌, length, take, drop}
use Rattle.vme_machine_ffi.specs.Closings.{bytes_of}
use Rattle.vme_machine_ffi.proofs.settled.write_bytes.Given as goal

-- the bytes before i are written, and the others are as they were
abbrev pub invariant-loop-i : goal.invariant-loop-i
invariant-loop-i l = record {
  taken : take l.i l.bytes ≡ take l.i (bytes_of l.fn.homes);
  kept : (n : ℕ) → l.i ≤ n → drop n l.bytes ≡ drop n l.fn.bytes;
  same : length l.bytes ≡ length l.fn.bytes;
  within : l.i ≤ length (bytes_of l.fn.homes);
}
