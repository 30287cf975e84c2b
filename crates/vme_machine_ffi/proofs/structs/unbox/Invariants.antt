use Rattle.std.proofs.Common.{◌≡◌, ◌+◌, ◌≤◌, ◌++◌, vec_len, vec_capacity}
use Rattle.std.specs.Vec.Iter.{into_iter_items, into_iter_len}
use Rattle.vme_machine_ffi.specs.Structs.{values_of}
use Rattle.vme_machine_ffi.proofs.structs.unbox.Given as goal

-- the processors of the boxes so far are taken, and those of the rest are to come
abbrev pub invariant-loop-processor : goal.invariant-loop-processor
invariant-loop-processor l = record {
  items : l.processors.items ++ values_of (into_iter_items l.processor-iterator) ≡ values_of l.fn.boxes.items;
  len : vec_len l.processors + into_iter_len l.processor-iterator ≡ vec_len l.fn.boxes;
  capacity : vec_len l.fn.boxes ≤ vec_capacity l.processors;
}
