use Rattle.std.proofs.Common.{◌≡◌, ◌+◌, ◌≤◌, All, vec_len, vec_capacity}
use Rattle.std.specs.Vec.Iter.{into_iter_items, into_iter_len}
use Rattle.vme_port_bench.specs.Workers.{HasBumped, IsSameWork}
use Rattle.vme_port_bench.proofs.run.start_all.Given as goal

-- each started thread has its promise, and the remaining passes made no call
abbrev pub invariant-loop-pass : goal.invariant-loop-pass
invariant-loop-pass g l = (vec_len l.children + into_iter_len l.pass-iterator ≡ vec_len l.fn.passes)
    × (vec_len l.fn.passes ≤ vec_capacity l.children)
    × All (HasBumped l.promise.port.now 0) (into_iter_items l.pass-iterator)
    × All (λ c. IsSameWork c.promise l.promise) l.children.items
