use Rattle.std.proofs.Common.{◌≡◌, ◌+◌, ◌≤◌, vec_len, vec_capacity}
use Rattle.std.specs.Vec.Iter.{into_iter_items, into_iter_len}
use Rattle.vme_object.specs.Each.{Each}
use Rattle.vme_port.specs.Passes.{IsUnused}
use Rattle.vme_port_array.specs.Arrays.{array_id}
use Rattle.vme_threads.specs.Ports.{IsNewWorker}
use Rattle.vme_threads.proofs.workers.new_workers.Given as goal

-- each taken pass has its worker, and the remaining passes have the next numbers
abbrev pub invariant-loop-pass : goal.invariant-loop-pass
invariant-loop-pass l = record {
  count : vec_len l.workers + into_iter_len l.pass-iterator ≡ l.count;
  capacity : l.count ≤ vec_capacity l.workers;
  rest : Each (λ i p. IsUnused (array_id l.array) (vec_len l.workers + i) p) (into_iter_items l.pass-iterator);
  new_worker : Each (IsNewWorker l.config l.array) l.workers.items;
}
