use Rattle.std.proofs.Common.{◌≡◌, ◌+◌, ◌≤◌, ◌++◌, map, vec_len, vec_capacity}
use Rattle.std.specs.Vec.Iter.{into_iter_items, into_iter_len}
use Rattle.vme_threads.specs.declared.worker.Ran.{Ran}
use Rattle.vme_threads.proofs.gather_report.collect_passes.Given as goal

-- the passes, counts and lines of the workers so far are appended, and those of the rest are to come
abbrev pub invariant-loop-ran : goal.invariant-loop-ran
invariant-loop-ran l = record {
  passes_len : vec_len l.passes + into_iter_len l.ran-iterator ≡ vec_len l.fn.rans;
  passes_capacity : vec_len l.fn.rans ≤ vec_capacity l.passes;
  passes :
      l.passes.items ++ map (λ (r : Ran). r.processor_pass.pass) (into_iter_items l.ran-iterator)
      ≡ map (λ (r : Ran). r.processor_pass.pass) l.fn.rans.items;
  counts_len : vec_len l.counts + into_iter_len l.ran-iterator ≡ vec_len l.fn.rans;
  counts_capacity : vec_len l.fn.rans ≤ vec_capacity l.counts;
  counts :
      l.counts.items ++ map (λ (r : Ran). r.processor_pass.made) (into_iter_items l.ran-iterator)
      ≡ map (λ (r : Ran). r.processor_pass.made) l.fn.rans.items;
  lines_len : vec_len l.lines + into_iter_len l.ran-iterator ≡ vec_len l.fn.rans;
  lines_capacity : vec_len l.fn.rans ≤ vec_capacity l.lines;
  lines :
      l.lines.items ++ map (λ (r : Ran). r.lines) (into_iter_items l.ran-iterator) ≡ map (λ (r : Ran). r.lines) l.fn.rans.items;
}
