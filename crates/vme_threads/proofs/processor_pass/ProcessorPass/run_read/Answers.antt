use Rattle.std.proofs.Common.{[], true, false}
use Rattle.vme_master.specs.declared.phase.Phase.TheVariants.{Requesting, Releasing}
use Rattle.vme_threads.specs.declared.read.ReadEnd.TheVariants as ends
use Rattle.vme_threads.specs.Reads.{job_of, read_task, phase_asked}
use Rattle.vme_threads.proofs.ReadRuns.{runs_fit, then_read, then_released}
use Rattle.vme_threads.proofs.processor_pass.ProcessorPass.run_read.Goals as goal

pub read_data-requires-clause-fits : goal.read_data-requires-clause-fits
read_data-requires-clause-fits g c =
    let job = job_of c.args.read.now in
    runs_fit c.args.ports.now (read_task job Requesting []) (read_task job (phase_asked job c.in_ok-request_bus.field-0) [])
    c.args.self.now c.request_bus.new.self c.in_ok-request_bus.ensures c.requires.fits

-- the data were denied
pub returns-in-Denied-clause-runs : goal.returns-in-Denied-clause-runs
returns-in-Denied-clause-runs g c =
    let job = job_of c.args.read.now in
    then_read job c.in_ok-request_bus.field-0 c.in_ok-berr.field-0 ends.Denied c.read_data.new.bytes.items c.args.self.now
    c.request_bus.new.self c.read_data.new.self c.if-not-branch.false c.in-Denied.is c.in_ok-request_bus.ensures
    c.in_ok-berr.ensures.runs

pub release_bus-requires : goal.release_bus-requires
release_bus-requires g c =
    let job = job_of c.args.read.now in
    runs_fit c.args.ports.now (read_task job Requesting [])
    (read_task job (Releasing c.in-Ended.berr) c.read_data.new.bytes.items) c.args.self.now c.read_data.new.self
    (then_read job c.in_ok-request_bus.field-0 c.in_ok-berr.field-0 (ends.Ended c.in-Ended.berr) c.read_data.new.bytes.items c.args.self.now
    c.request_bus.new.self c.read_data.new.self c.if-not-branch.false c.in-Ended.is c.in_ok-request_bus.ensures
    c.in_ok-berr.ensures.runs) c.requires.fits

-- the release was denied
pub returns-then-not-branch-2-clause-runs : goal.returns-then-not-branch-2-clause-runs
returns-then-not-branch-2-clause-runs g c =
    let job = job_of c.args.read.now in
    let read =
    then_read job c.in_ok-request_bus.field-0 c.in_ok-berr.field-0 (ends.Ended c.in-Ended.berr) c.read_data.new.bytes.items c.args.self.now
    c.request_bus.new.self c.read_data.new.self c.if-not-branch.false c.in-Ended.is c.in_ok-request_bus.ensures
    c.in_ok-berr.ensures.runs in
    then_released job c.in-Ended.berr c.in_ok-release_bus.field-0 false c.read_data.new.bytes.items c.args.self.now
    c.read_data.new.self c.release_bus.new.self c.if-not-branch-2.true read
    (c.in_ok-release_bus.ensures c.read_data.new.bytes.items)

-- the bus was freed
pub returns-clause-runs : goal.returns-clause-runs
returns-clause-runs g c =
    let job = job_of c.args.read.now in
    let read =
    then_read job c.in_ok-request_bus.field-0 c.in_ok-berr.field-0 (ends.Ended c.in-Ended.berr) c.read_data.new.bytes.items c.args.self.now
    c.request_bus.new.self c.read_data.new.self c.if-not-branch.false c.in-Ended.is c.in_ok-request_bus.ensures
    c.in_ok-berr.ensures.runs in
    then_released job c.in-Ended.berr c.in_ok-release_bus.field-0 true c.read_data.new.bytes.items c.args.self.now
    c.read_data.new.self c.release_bus.new.self c.if-not-branch-2.false read
    (c.in_ok-release_bus.ensures c.read_data.new.bytes.items)
