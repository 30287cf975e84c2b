use Rattle.std.proofs.Common.{◌≡◌, ℕ, length, subst, arith}
use Rattle.vme_threads.specs.Ports.{IsWorkerOf}
use Rattle.vme_thread_tests.proofs.runs.workers.two_workers_meet.Goals as goal

-- the second worker is the last of two
pub run_two-first-requires-clause-second : goal.run_two-first-requires-clause-second
run_two-first-requires-clause-second g c κs =
    let left = c.next_worker-second.new.workers.items in
    let one : length left ≡ 1 = omega (arith, c.next_worker-second.ensures.len, c.in-Ok-build.ensures.workers.count, c.boards.ensures.value) in
    subst (λ (n : ℕ). IsWorkerOf c.in-Ok.config c.in-Ok-build.ports n c.next_worker-second.result) one c.next_worker-second.ensures.worker
