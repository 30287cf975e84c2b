use Rattle.std.proofs.Common.{[], ap, true}
use Rattle.vme_master.specs.declared.job.Job.TheVariants.{Bus}
use Rattle.vme_master.specs.declared.phase.Phase.TheVariants.{Requesting, Polling, Denied}
use Rattle.vme_master.specs.Machine.{phase_answered}
use Rattle.vme_threads.specs.Reads.{job_of, read_task, phase_asked}
use Rattle.vme_threads.proofs.ReadRuns.{runs_fit, asked, then_polled}
use Rattle.vme_threads.proofs.processor_pass.ProcessorPass.request_bus.Goals as goal

pub poll_bus-requires : goal.poll_bus-requires
poll_bus-requires g c =
    let job = job_of c.args.read.now in
    runs_fit c.args.ports.now (read_task job Requesting []) (read_task job Polling []) c.args.self.now c.ask_bus.new.self
    (asked job c.in_ok-ask_bus.field-0 Polling c.args.self.now c.ask_bus.new.self (ap (phase_answered (Bus job)) c.in-Waiting.is)
    c.in_ok-ask_bus.ensures) c.requires

pub returns-in-Granted : goal.returns-in-Granted
returns-in-Granted g c =
    let job = job_of c.args.read.now in
    asked job c.in_ok-ask_bus.field-0 (phase_asked job true) c.args.self.now c.ask_bus.new.self
    (ap (phase_answered (Bus job)) c.in-Granted.is) c.in_ok-ask_bus.ensures

pub returns-in-Waiting : goal.returns-in-Waiting
returns-in-Waiting g c =
    let job = job_of c.args.read.now in
    then_polled job c.in_ok-ask_bus.field-0 c.poll_bus.result c.args.self.now c.ask_bus.new.self c.poll_bus.new.self
    (ap (phase_answered (Bus job)) c.in-Waiting.is) c.in_ok-ask_bus.ensures c.poll_bus.ensures

pub returns-in-Freed : goal.returns-in-Freed
returns-in-Freed g c =
    let job = job_of c.args.read.now in
    asked job c.in_ok-ask_bus.field-0 Denied c.args.self.now c.ask_bus.new.self
    (ap (phase_answered (Bus job)) c.in-Freed.is) c.in_ok-ask_bus.ensures

pub returns-in-Denied : goal.returns-in-Denied
returns-in-Denied g c =
    let job = job_of c.args.read.now in
    asked job c.in_ok-ask_bus.field-0 Denied c.args.self.now c.ask_bus.new.self
    (ap (phase_answered (Bus job)) c.in-Denied.is) c.in_ok-ask_bus.ensures
