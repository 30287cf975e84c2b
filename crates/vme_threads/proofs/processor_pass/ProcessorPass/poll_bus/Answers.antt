use Rattle.std.proofs.Common.{[], ap, true}
use Rattle.vme_master.specs.declared.job.Job.TheVariants.{Bus}
use Rattle.vme_master.specs.declared.phase.Phase.TheVariants.{Polling, Denied}
use Rattle.vme_master.specs.Machine.{phase_answered}
use Rattle.vme_threads.specs.Reads.{job_of, read_task, phase_asked}
use Rattle.vme_threads.proofs.ReadRuns.{runs_none, runs_fit, polled}
use Rattle.vme_threads.proofs.processor_pass.ProcessorPass.poll_bus.Goals as goal

pub loop-init : goal.loop-init
loop-init g c = record { fits = c.requires; runs = runs_none (read_task (job_of c.args.read.now) Polling []) c.args.self.now }

pub loop-preserved : goal.loop-preserved
loop-preserved g c =
    let job = job_of c.args.read.now in
    let runs =
    polled job c.in_ok-ask_bus.field-0 Polling c.args.self.now c.loop.self c.ask_bus.new.self
    (ap (phase_answered (Bus job)) c.in-Waiting.is) c.loop.invariant.runs c.in_ok-ask_bus.ensures in
    record {
      fits =
          runs_fit c.args.ports.now (read_task job Polling []) (read_task job Polling []) c.args.self.now c.ask_bus.new.self
          runs c.requires;
      runs = runs;
    }

pub returns-in-Granted : goal.returns-in-Granted
returns-in-Granted g c =
    let job = job_of c.args.read.now in
    polled job c.in_ok-ask_bus.field-0 (phase_asked job true) c.args.self.now c.loop.self c.ask_bus.new.self
    (ap (phase_answered (Bus job)) c.in-Granted.is) c.loop.invariant.runs c.in_ok-ask_bus.ensures

pub returns-in-Freed : goal.returns-in-Freed
returns-in-Freed g c =
    let job = job_of c.args.read.now in
    polled job c.in_ok-ask_bus.field-0 Denied c.args.self.now c.loop.self c.ask_bus.new.self
    (ap (phase_answered (Bus job)) c.in-Freed.is) c.loop.invariant.runs c.in_ok-ask_bus.ensures

pub returns-in-Denied : goal.returns-in-Denied
returns-in-Denied g c =
    let job = job_of c.args.read.now in
    polled job c.in_ok-ask_bus.field-0 Denied c.args.self.now c.loop.self c.ask_bus.new.self
    (ap (phase_answered (Bus job)) c.in-Denied.is) c.loop.invariant.runs c.in_ok-ask_bus.ensures
