use Rattle.std.proofs.Common.{◌≡◌, ◌≤◌, vec_len, vec_capacity}
use Rattle.vme_bus_wait.proofs.waiters.BusWaiters.new.Given as goal

-- a sleeper for each processor so far, and capacity for the others
abbrev pub invariant-loop : goal.invariant-loop
invariant-loop l = (vec_len l.sleepers ≡ l.counter) × (l.fn.count ≤ vec_capacity l.sleepers)
