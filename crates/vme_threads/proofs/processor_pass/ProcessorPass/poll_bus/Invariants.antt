use Rattle.std.proofs.Common.{[]}
use Rattle.vme_master.specs.declared.phase.Phase.TheVariants.{Polling}
use Rattle.vme_threads.specs.ProcessorPasses.{MatchesPorts}
use Rattle.vme_threads.specs.Reads.{job_of, read_task, RunsTask}
use Rattle.vme_threads.proofs.processor_pass.ProcessorPass.poll_bus.Given as goal

-- the read polls
abbrev pub invariant-loop : goal.invariant-loop
invariant-loop g l = record {
  fits : MatchesPorts l.ports l.self;
  runs : RunsTask (read_task (job_of l.read) Polling []) (read_task (job_of l.read) Polling []) l.fn.self l.self;
}
