use Rattle.std.proofs.Common.{[], ◌++◌, refl, ap, sym, ◌∙◌, arith}
use Rattle.vme_master.specs.declared.expected.ExpectedReply.TheVariants as expected_replies
use Rattle.vme_master.specs.declared.job.Job.TheVariants.{Bus}
use Rattle.vme_master.specs.Machine.{phase_at}
use Rattle.vme_threads.specs.declared.take.Taken.TheVariants as takens
use Rattle.vme_threads.specs.Reads.{job_of, read_task}
use Rattle.vme_threads.proofs.ReadRuns.{runs_fit, reads_none, reads_on, reads_all, len_none, len_next}
use Rattle.vme_threads.proofs.processor_pass.ProcessorPass.gather_data.Goals as goal

pub loop-i-init : goal.loop-i-init
loop-i-init g c =
    let bytes = c.args.bytes.now.items ++ c.args.gathered.now.items in
    record {
      runs = reads_none (job_of c.args.read.now.bus.now) bytes c.args.self.now c.requires.none;
      len = len_none bytes c.args.read.now.n c.requires.none;
      capacity = refl;
    }

-- one more datum was read
pub loop-i-preserved : goal.loop-i-preserved
loop-i-preserved g c =
    let read = c.args.read.now in
    let bytes = c.loop-i.bytes.items ++ c.loop-i.gathered.items in
    let before = c.make_room.new.bytes.items in
    let old = c.make_room.new.gathered.items in
    let new = c.read_datum.new.gathered.items in
    record {
      runs =
          reads_on (job_of read.bus.now) read.board read.offset c.loop-i.i read.n c.in_ok-read_datum.ensures.reply c.args.self.now c.loop-i.self
          c.read_datum.new.self bytes before old new c.in_ok-read_datum.field-0 takens.Bytes c.in-Bytes.is read.place
          (omega (arith, c.loop-i-test.true, c.requires.count))
          (read.bus.now.is.expected ∙ ap expected_replies.Read (sym read.len)) c.make_room.ensures.bytes c.loop-i.invariant.runs
          c.in_ok-read_datum.ensures.made c.in_ok-read_datum.ensures.took;
      len = len_next read.n c.loop-i.i bytes before old new c.loop-i.invariant.len c.make_room.ensures.bytes c.in_ok-read_datum.ensures.took.len;
      capacity = c.make_room.ensures.capacity ∙ c.loop-i.invariant.capacity;
    }

pub read_datum-requires-clause-fits : goal.read_datum-requires-clause-fits
read_datum-requires-clause-fits g c =
    let job = job_of c.args.read.now.bus.now in
    runs_fit c.args.ports.now (read_task job (phase_at (Bus job) 0) [])
    (read_task job (phase_at (Bus job) c.loop-i.i) (c.loop-i.bytes.items ++ c.loop-i.gathered.items)) c.args.self.now c.loop-i.self
    c.loop-i.invariant.runs c.requires.fits

-- a bus error ends the data
pub returns-in-Berr-clause-runs : goal.returns-in-Berr-clause-runs
returns-in-Berr-clause-runs g c =
    let read = c.args.read.now in
    reads_on (job_of read.bus.now) read.board read.offset c.loop-i.i read.n c.in_ok-read_datum.ensures.reply c.args.self.now c.loop-i.self
    c.read_datum.new.self (c.loop-i.bytes.items ++ c.loop-i.gathered.items) c.make_room.new.bytes.items
    c.make_room.new.gathered.items c.read_datum.new.gathered.items c.in_ok-read_datum.field-0 takens.Berr c.in-Berr.is read.place
    (omega (arith, c.loop-i-test.true, c.requires.count)) (read.bus.now.is.expected ∙ ap expected_replies.Read (sym read.len))
    c.make_room.ensures.bytes c.loop-i.invariant.runs c.in_ok-read_datum.ensures.made c.in_ok-read_datum.ensures.took

-- a reply that does not fit ends the data
pub returns-in-Denied-clause-runs : goal.returns-in-Denied-clause-runs
returns-in-Denied-clause-runs g c =
    let read = c.args.read.now in
    reads_on (job_of read.bus.now) read.board read.offset c.loop-i.i read.n c.in_ok-read_datum.ensures.reply c.args.self.now c.loop-i.self
    c.read_datum.new.self (c.loop-i.bytes.items ++ c.loop-i.gathered.items) c.make_room.new.bytes.items
    c.make_room.new.gathered.items c.read_datum.new.gathered.items c.in_ok-read_datum.field-0 takens.Denied c.in-Denied.is read.place
    (omega (arith, c.loop-i-test.true, c.requires.count)) (read.bus.now.is.expected ∙ ap expected_replies.Read (sym read.len))
    c.make_room.ensures.bytes c.loop-i.invariant.runs c.in_ok-read_datum.ensures.made c.in_ok-read_datum.ensures.took

-- all data were read
pub returns-clause-runs : goal.returns-clause-runs
returns-clause-runs g c =
    let read = c.args.read.now in
    reads_all (job_of read.bus.now) read.board read.offset c.loop-i.i (c.loop-i.bytes.items ++ c.loop-i.gathered.items)
    c.args.self.now c.loop-i.self read.place (omega (arith, c.loop-i-test.false, c.loop-i.auto.i-end, c.requires.count))
    c.loop-i.invariant.runs
