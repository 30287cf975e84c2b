use Rattle.std.proofs.Common.{arith, rules}
use Rattle.vme_vcd_reader.specs.Bodies.{byte_said}
use Rattle.vme_vcd_reader.specs.Headers.{byte_read}
use Rattle.vme_vcd_reader.specs.Readers.{TakesHeading, TakesRead, rows_of}
use Rattle.vme_vcd_reader.proofs.Headings.{takes_line}
use Rattle.vme_vcd_reader.proofs.Taken.{takes_byte}
use Rattle.vme_vcd_reader.proofs.reader.VcdReader.push.Goals as goal
use Rattle.vme_vcd_reader.proofs.reader.VcdReader.push.Goals.{then-self+in_ok-step, else-self+in_ok-step-2}

pub returns-then-byte-eq10-clause-heading : goal.returns-then-byte-eq10-clause-heading
returns-then-byte-eq10-clause-heading c = λ map h ds is.
    let takes : TakesHeading map (byte_read h c.args.byte) ds c.if-self.step c.if-self.self =
    elim c.if-self.branch [
      | then-self+in_ok-step w ↦ first_of (search rules, grind arith)
      | else-self+in_ok-step-2 w ↦ first_of (search rules, grind arith)
    ] in
    takes_line map (byte_read h c.args.byte) ds c.if-self.step c.if-self.self _ takes

pub returns-else-byte-eq10-clause-says : goal.returns-else-byte-eq10-clause-says
returns-else-byte-eq10-clause-says c = λ r is.
    let takes : TakesRead (byte_said (rows_of c.args.self.now) r c.args.byte) c.if-self.step c.if-self.self =
    elim c.if-self.branch [
      | then-self+in_ok-step w ↦ first_of (search rules, grind arith)
      | else-self+in_ok-step-2 w ↦ first_of (search rules, grind arith)
    ] in
    takes_byte (byte_said (rows_of c.args.self.now) r c.args.byte) c.args.byte c.if-self.step c.if-self.self c.if-byte-eq10.false takes
