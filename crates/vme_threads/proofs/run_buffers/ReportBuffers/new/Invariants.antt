use Rattle.std.proofs.Common.{◌≡◌, ◌≤◌, vec_len, vec_capacity}
use Rattle.vme_threads.specs.RunBuffers.{AreForCounts}
use Rattle.vme_threads.proofs.run_buffers.ReportBuffers.new.Given as goal

-- there are as many empty buffers for counts as iterations so far
abbrev pub invariant-loop : goal.invariant-loop
invariant-loop l = (vec_len l.made ≡ l.counter) × (l.count ≤ vec_capacity l.made) × AreForCounts l.count l.made.items
