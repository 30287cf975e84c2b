use Rattle.std.proofs.Common.{◌≡◌, ◌+◌, ◌≤◌, vec_len, vec_capacity}
use Rattle.std.specs.Vec.Iter.{into_iter_items, into_iter_len}
use Rattle.vme_object.specs.Each.{Each}
use Rattle.vme_threads.specs.Reports.{HaveRun}
use Rattle.vme_threads.specs.Threads.{IsPromiseOf}
use Rattle.vme_threads.proofs.threads.join_all.Given as goal

-- each thread so far returned its finished worker
abbrev pub invariant-loop-child : goal.invariant-loop-child
invariant-loop-child g l = record {
  count : vec_len l.rans + into_iter_len l.child-iterator ≡ vec_len l.fn.children;
  capacity : vec_len l.fn.children ≤ vec_capacity l.rans;
  rest : Each (λ i c. IsPromiseOf l.config l.ports (vec_len l.rans + i) c.promise) (into_iter_items l.child-iterator);
  runs : HaveRun l.config l.ports l.rans.items;
}
