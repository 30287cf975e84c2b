use Rattle.std.proofs.Common.{◌≡◌}
use Rattle.vme_grammar.specs.declared.line.Line.{Line}
use Rattle.vme_script.specs.Configurations.{Configuration}
use Rattle.vme_threads.specs.declared.processor_pass.ProcessorPass.{ProcessorPass}
use Rattle.vme_threads.specs.ProcessorPasses.{MatchesPorts}
use Rattle.vme_threads.specs.Reads.{job_of, IsAwaitInProgress}
use Rattle.vme_threads.proofs.processor_pass.ProcessorPass.run_reads.Given as goal

-- the line stays in progress
abbrev pub invariant-loop : goal.invariant-loop
invariant-loop g l = record {
  fits : MatchesPorts l.ports l.self;
  boards : l.self.boards ≡ l.fn.self.boards;
  progress : (config : Configuration) (line : Line) (before : ProcessorPass)
      → IsAwaitInProgress config line before l.fn.self (job_of l.read) l.want l.fn.left
      → IsAwaitInProgress config line before l.self (job_of l.read) l.want l.left;
}
