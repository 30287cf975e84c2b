use Rattle.vme_threads.specs.Reads.{job_of}
use Rattle.vme_threads.proofs.ReadRuns.{no_board}
use Rattle.vme_threads.proofs.processor_pass.ProcessorPass.read_data.Goals as goal

-- without a board, the bus is released at once
pub returns-in-None-clause-runs : goal.returns-in-None-clause-runs
returns-in-None-clause-runs g c =
    no_board (job_of c.args.read.now) c.args.bytes.now.items c.args.self.now c.in-None.is c.requires.none
