use Rattle.std.proofs.Common.{◌≡◌, ◌≤◌, ◌++◌, length, map, drop, vec_len, vec_capacity}
use Rattle.vme_machine_ffi.specs.Openings.{memory_of}
use Rattle.vme_machine_ffi.proofs.opening.memories_of.Given as goal

-- the boards before i have memories, and those of the rest are to come
abbrev pub invariant-loop-i : goal.invariant-loop-i
invariant-loop-i l = record {
  items : l.memories.items ++ map memory_of (drop l.i l.fn.boards) ≡ map memory_of l.fn.boards;
  len : vec_len l.memories ≡ l.i;
  capacity : length l.fn.boards ≤ vec_capacity l.memories;
}
