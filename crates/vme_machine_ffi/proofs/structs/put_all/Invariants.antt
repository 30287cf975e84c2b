use Rattle.std.proofs.Common.{◌≡◌, ◌≤◌, ◌++◌, length, drop, vec_len}
use Rattle.vme_machine_ffi.specs.Structs.{processors_in, full, values_of}
use Rattle.vme_machine_ffi.proofs.structs.put_all.Given as goal

-- the last boxes so far are in their structs
abbrev pub invariant-loop-processor : goal.invariant-loop-processor
invariant-loop-processor l = record {
  all : full (values_of l.boxes.items) ++ processors_in (drop (vec_len l.boxes) l.all)
      ≡ full (values_of l.fn.boxes.items) ++ processors_in (drop (vec_len l.fn.boxes) l.fn.all);
  most : vec_len l.boxes ≤ length l.all;
}

-- each round puts one processor
abbrev pub decreases-loop-processor : goal.decreases-loop-processor
decreases-loop-processor l = vec_len l.boxes
