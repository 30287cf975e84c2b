use Rattle.std.proofs.Common.{refl}
use Rattle.vme_vcd_reader.proofs.Taken.{line_falls, line_times}
use Rattle.vme_vcd_reader.proofs.Words.{on_err}
use Rattle.vme_vcd_reader.proofs.reader.VcdReader.push_time.Goals as goal

pub returns-clause-says : goal.returns-clause-says
returns-clause-says c = λ r is gap.
    line_times r c.args.self.now c.at_time.new.self c.args.text.now c.in-Some.quick.rest.now c.in-Some.quick.time c.in_ok-step.step _ is gap
    c.in-Some.ensures (c.in_ok-step.ensures.says r is) refl

pub returns-in_err-step-clause-fault : goal.returns-in_err-step-clause-fault
returns-in_err-step-clause-fault c = λ r is gap.
    on_err c.from_residual.result
    (line_falls r c.args.self.now c.args.text.now c.in-Some.quick.rest.now c.in-Some.quick.time is gap c.in-Some.ensures
    (c.in_err-step.ensures.fault r is))
