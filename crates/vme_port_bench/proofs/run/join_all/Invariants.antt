use Rattle.std.proofs.Common.{◌≡◌, ◌+◌, ◌≤◌, All, vec_len, vec_capacity}
use Rattle.std.specs.Vec.Iter.{into_iter_items, into_iter_len}
use Rattle.vme_port_bench.specs.Workers.{HasBumped, IsSameWork}
use Rattle.vme_port_bench.proofs.run.join_all.Given as goal

-- each collected pass made its calls, and the remaining threads have their promise
abbrev pub invariant-loop-child : goal.invariant-loop-child
invariant-loop-child g l = (vec_len l.passes + into_iter_len l.child-iterator ≡ vec_len l.fn.children)
    × (vec_len l.fn.children ≤ vec_capacity l.passes)
    × All (λ c. IsSameWork c.promise l.promise) (into_iter_items l.child-iterator)
    × All (HasBumped l.promise.port.now l.promise.calls) l.passes.items
