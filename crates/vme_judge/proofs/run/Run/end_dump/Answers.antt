use Rattle.vme_vcd_reader.specs.Samples.{End}
use Rattle.vme_judge.specs.DumpRuns.{InBody, InHeader}
use Rattle.vme_judge.proofs.DumpHeaders.{body_cut, header_cut, header_ended}
use Rattle.vme_judge.proofs.DumpRuns.{ended_as}
use Rattle.vme_judge.proofs.run.Run.end_dump.Goals as goal

pub returns-in-Ok-clause-dump : goal.returns-in-Ok-clause-dump
returns-in-Ok-clause-dump c map (InHeader h ds) is going =
    header_ended map c.args.self.now c.take_last.new.self c.end.new.self h ds c.take_last.result (c.in-Ok.ensures.heading map h ds is)
    (c.take_last.ensures.samples End (c.in-Ok.ensures.header is.before) going)
returns-in-Ok-clause-dump c map (InBody r) is going =
    ended_as map c.args.self.now c.take_last.new.self c.end.new.self r c.take_last.result
    (c.take_last.ensures.samples _ (c.in-Ok.ensures.says r is) going)

pub returns-in_ok-reject_dump-in-Err-clause-dump : goal.returns-in_ok-reject_dump-in-Err-clause-dump
returns-in_ok-reject_dump-in-Err-clause-dump c map (InHeader h ds) is going =
    header_cut map c.args.self.now c.reject_dump.new.self h ds c.end.new.self.line c.in-Err.fault going (c.in-Err.ensures.rejects map h ds is)
    c.in_ok-reject_dump-in-Err.ensures.why c.in_ok-reject_dump-in-Err.ensures.rejected c.in_ok-reject_dump-in-Err.ensures.cause c.in-Err.ensures.same_line
    c.in_ok-reject_dump-in-Err.ensures.judge
returns-in_ok-reject_dump-in-Err-clause-dump c map (InBody r) is going =
    body_cut map c.args.self.now c.reject_dump.new.self r c.end.new.self.line c.in-Err.fault going is (c.in-Err.ensures.fault r is)
    (c.in-Err.ensures.why r is) c.in_ok-reject_dump-in-Err.ensures.rejected c.in_ok-reject_dump-in-Err.ensures.cause c.in-Err.ensures.same_line
    c.in_ok-reject_dump-in-Err.ensures.judge
