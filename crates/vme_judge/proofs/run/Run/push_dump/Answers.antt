use Rattle.std.proofs.Common.{◌∙◌}
use Rattle.vme_vcd_reader.specs.Faults.{byte_flaw}
use Rattle.vme_judge.specs.DumpRuns.{InBody, InHeader}
use Rattle.vme_judge.proofs.DumpHeaders.{heading_judged, heading_rejected}
use Rattle.vme_judge.proofs.DumpRuns.{byte_judged, bytes_rejected, rejected_stops}
use Rattle.vme_judge.proofs.run.Run.push_dump.Goals as goal

pub returns-in-Ok-clause-dump : goal.returns-in-Ok-clause-dump
returns-in-Ok-clause-dump c map (InHeader h ds) is going =
    heading_judged map c.args.self.now c.take_step.new.self c.push.new.self h ds c.args.byte c.in-Ok.step c.take_step.result going
    (c.in-Ok.ensures.heading map h ds is) c.in-Ok.ensures.line (λ shown reports. c.take_step.ensures.sample shown reports going)
    c.take_step.ensures.header (c.take_step.ensures.going going)
returns-in-Ok-clause-dump c map (InBody r) is going =
    byte_judged map c.args.self.now c.take_step.new.self c.push.new.self r c.args.byte c.in-Ok.step c.take_step.result
    (c.in-Ok.ensures.says r is) (c.push.ensures.rows r is) (λ shown reports. c.take_step.ensures.sample shown reports going)
    (c.take_step.ensures.going going)

pub returns-in-Err-clause-dump : goal.returns-in-Err-clause-dump
returns-in-Err-clause-dump c map (InHeader h ds) is going =
    heading_rejected map c.args.self.now c.reject_dump.new.self h ds c.args.byte c.push.new.self.line c.in-Err.fault c.reject_dump.result going
    (c.in-Err.ensures.rejects map h ds is) c.reject_dump.ensures.stops c.reject_dump.ensures.rejected c.reject_dump.ensures.cause
    c.in-Err.ensures.same_line c.reject_dump.ensures.judge c.reject_dump.ensures.why
returns-in-Err-clause-dump c map (InBody r) is going =
    bytes_rejected map c.args.self.now c.reject_dump.new.self r _ (byte_flaw r c.args.byte) c.push.new.self.line c.in-Err.fault
    c.reject_dump.result going (c.in-Err.ensures.fault r is) c.reject_dump.ensures.stops c.reject_dump.ensures.rejected
    c.reject_dump.ensures.cause (c.in-Err.ensures.same_line ∙ is.line) (c.in-Err.ensures.why r is) c.reject_dump.ensures.judge

pub returns-in-Err-clause-going : goal.returns-in-Err-clause-going
returns-in-Err-clause-going c = λ going.
    rejected_stops c.reject_dump.new.self c.reject_dump.result c.reject_dump.ensures.stops c.reject_dump.ensures.rejected
