use Rattle.std.proofs.Common.{◌≡◌, ◌≤◌, ◌++◌, length, drop, vec_len, vec_capacity}
use Rattle.vme_machine_ffi.specs.Structs.{processors_in, full, values_of}
use Rattle.vme_machine_ffi.proofs.structs.take_all.Given as goal

-- the processors of the structs before i are taken, and the others are where they were
abbrev pub invariant-loop-i : goal.invariant-loop-i
invariant-loop-i l = record {
  all : full (values_of l.boxes.items) ++ processors_in (drop l.i l.all) ≡ processors_in l.fn.all;
  structs : length l.all ≡ length l.fn.all;
  taken : vec_len l.boxes ≡ l.i;
  capacity : length l.fn.all ≤ vec_capacity l.boxes;
}
