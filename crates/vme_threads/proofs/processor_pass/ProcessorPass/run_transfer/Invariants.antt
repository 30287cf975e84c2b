use Rattle.vme_threads.proofs.Once.{IsRequestInProgress}
use Rattle.vme_threads.proofs.processor_pass.ProcessorPass.run_transfer.Given as goal

-- the request is in progress
abbrev pub invariant-loop : goal.invariant-loop
invariant-loop g l = IsRequestInProgress l.config l.request l.fn.self l.self l.task
