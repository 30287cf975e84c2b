use Rattle.std.proofs.Common.{◌≡◌, ◌+◌, ◌≤◌, vec_len, vec_capacity}
use Rattle.std.specs.Vec.Iter.{into_iter_items, into_iter_len}
use Rattle.vme_object.specs.Each.{Each}
use Rattle.vme_threads.specs.Ports.{IsWorkerOf}
use Rattle.vme_threads.specs.Threads.{IsPromiseOf}
use Rattle.vme_threads.proofs.threads.start_all.Given as goal

-- each worker so far has its thread, whose promise is to run that worker
abbrev pub invariant-loop-worker : goal.invariant-loop-worker
invariant-loop-worker g l = record {
  count : vec_len l.children + into_iter_len l.worker-iterator ≡ vec_len l.fn.workers;
  capacity : vec_len l.fn.workers ≤ vec_capacity l.children;
  rest : Each (λ i w. IsWorkerOf l.config l.ports (vec_len l.children + i) w) (into_iter_items l.worker-iterator);
  promised : Each (λ k c. IsPromiseOf l.config l.ports k c.promise) l.children.items;
}
