use Rattle.std.proofs.Common.{◌≡◌, ◌+◌, ◌≤◌, ◌++◌, vec_len, vec_capacity}
use Rattle.std.specs.Vec.Iter.{into_iter_items, into_iter_len}
use Rattle.vme_machine_ffi.specs.Structs.{values_of}
use Rattle.vme_machine_ffi.proofs.structs.boxed.Given as goal

-- the processors so far are boxed, and the rest is to come
abbrev pub invariant-loop-processor : goal.invariant-loop-processor
invariant-loop-processor l = record {
  items : values_of l.boxes.items ++ into_iter_items l.processor-iterator ≡ l.fn.processors.items;
  len : vec_len l.boxes + into_iter_len l.processor-iterator ≡ vec_len l.fn.processors;
  capacity : vec_len l.fn.processors ≤ vec_capacity l.boxes;
}
