use Rattle.std.proofs.Common.{◌≡◌, ◌≤◌, ◌*◌, ◌++◌, [], length}
use Rattle.vme_master.specs.declared.job.Job.TheVariants.{Bus}
use Rattle.vme_master.specs.Machine.{phase_at}
use Rattle.vme_threads.specs.Reads.{job_of, read_task, RunsTask}
use Rattle.vme_threads.proofs.processor_pass.ProcessorPass.gather_data.Given as goal

-- the first data were read
abbrev pub invariant-loop-i : goal.invariant-loop-i
invariant-loop-i g l = record {
  runs : RunsTask (read_task (job_of l.read.bus.now) (phase_at (Bus (job_of l.read.bus.now)) 0) [])
      (read_task (job_of l.read.bus.now) (phase_at (Bus (job_of l.read.bus.now)) l.i) (l.bytes.items ++ l.gathered.items)) l.fn.self l.self;
  len : length (l.bytes.items ++ l.gathered.items) ≤ l.read.n * l.i;
  capacity : l.bytes.capacity ≡ l.fn.bytes.capacity;
}
