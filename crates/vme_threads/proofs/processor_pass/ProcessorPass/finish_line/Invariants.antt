use Rattle.std.proofs.Common.{ℕ}
use Rattle.vme_script.specs.Configurations.{Configuration}
use Rattle.vme_line_task.specs.Machine.{IsLineBelow}
use Rattle.vme_threads.specs.declared.processor_pass.ProcessorPass.{ProcessorPass}
use Rattle.vme_threads.specs.ProcessorPasses.{MatchesPorts}
use Rattle.vme_threads.specs.Progress.{IsLineInProgress}
use Rattle.vme_threads.proofs.processor_pass.ProcessorPass.finish_line.Given as goal

-- a line in progress stays in progress
abbrev pub invariant-loop : goal.invariant-loop
invariant-loop g l = record {
  fits : MatchesPorts l.ports l.self;
  below : IsLineBelow l.self.boards l.task;
  progress : (config : Configuration) (place : ℕ) (before : ProcessorPass) → IsLineInProgress config place before l.fn.self l.fn.task
      → IsLineInProgress config place before l.self l.task;
}
