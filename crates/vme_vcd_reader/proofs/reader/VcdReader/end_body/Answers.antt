use Rattle.std.proofs.Common.{◌≢◌, arith, rules}
use Rattle.vme_vcd_reader.specs.declared.reader.Step.TheVariants as steps
use Rattle.vme_vcd_reader.specs.Bodies.{byte_said}
use Rattle.vme_vcd_reader.specs.Faults.{byte_flaw}
use Rattle.vme_vcd_reader.specs.Readers.{rows_of}
use Rattle.vme_vcd_reader.proofs.Ends.{blank_clear, none_ends}
use Rattle.vme_vcd_reader.proofs.reader.VcdReader.end_body.Goals as goal

pub returns-clause-says : goal.returns-clause-says
returns-clause-says c = λ r is.
    let other : c.in_ok-step.step ≢ steps.Sample = λ same. first_of (search rules, cc (rw same at c.if-eq.ensures), grind arith) in
    none_ends (byte_said (rows_of c.args.self.now) r 32) (byte_flaw r 32) c.in_ok-step.step c.last_sample.result c.push_body.new.self c.last_sample.new.self c.may_end.result
    (blank_clear (rows_of c.args.self.now) r r.awaited r.word) (c.in_ok-step.ensures.says r is) c.may_end.ensures c.if-not-may_end.false other
    c.last_sample.ensures
