use Rattle.std.proofs.Common.{[], get_or}
use Rattle.vme_vcd_reader.specs.Headers.{beginning}
use Rattle.vme_judge.proofs.DumpBlanks.{blank_at, line_more, reader_on}
use Rattle.vme_judge.proofs.run.skip_blanks.Goals as goal

pub loop-byte-preserved : goal.loop-byte-preserved
loop-byte-preserved c = record {
  reader = λ map are is.
      reader_on map (get_or c.args.blanks.now c.loop-byte.byte-index 0) c.in-Ok._step c.push.new.self
      (blank_at c.args.blanks.now c.loop-byte.byte-index 0 are c.loop-byte-test.true)
      (c.in-Ok.ensures.heading map beginning [] (c.loop-byte.invariant.reader map are is));
  line = line_more c.args.blanks.now c.loop-byte.byte-index 0 c.loop-byte.vcd.line c.push.new.self.line _ c.loop-byte-test.true
      c.in-Ok.ensures.line c.loop-byte.invariant.line;
}
