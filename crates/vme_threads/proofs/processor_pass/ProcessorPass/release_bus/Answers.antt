use Rattle.std.proofs.Common.{ap, true, false}
use Rattle.vme_threads.specs.Reads.{job_of, phase_freed}
use Rattle.vme_threads.proofs.ReadRuns.{phase_done, released}
use Rattle.vme_threads.proofs.processor_pass.ProcessorPass.release_bus.Goals as goal

pub returns-in-Freed : goal.returns-in-Freed
returns-in-Freed g c =
    released (job_of c.args.read.now) c.args.berr c.in_ok-ask_bus.field-0 (phase_freed c.args.berr true) c.args.self.now
    c.ask_bus.new.self (ap (phase_done c.args.berr) c.in-Freed.is) c.in_ok-ask_bus.ensures

pub returns-in-Granted : goal.returns-in-Granted
returns-in-Granted g c =
    released (job_of c.args.read.now) c.args.berr c.in_ok-ask_bus.field-0 (phase_freed c.args.berr false) c.args.self.now
    c.ask_bus.new.self (ap (phase_done c.args.berr) c.in-Granted.is) c.in_ok-ask_bus.ensures

pub returns-in-Waiting : goal.returns-in-Waiting
returns-in-Waiting g c =
    released (job_of c.args.read.now) c.args.berr c.in_ok-ask_bus.field-0 (phase_freed c.args.berr false) c.args.self.now
    c.ask_bus.new.self (ap (phase_done c.args.berr) c.in-Waiting.is) c.in_ok-ask_bus.ensures

pub returns-in-Denied : goal.returns-in-Denied
returns-in-Denied g c =
    released (job_of c.args.read.now) c.args.berr c.in_ok-ask_bus.field-0 (phase_freed c.args.berr false) c.args.self.now
    c.ask_bus.new.self (ap (phase_done c.args.berr) c.in-Denied.is) c.in_ok-ask_bus.ensures
