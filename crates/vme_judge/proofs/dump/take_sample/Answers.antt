use Rattle.vme_judge.specs.DumpRuns.{shown_by}
use Rattle.vme_judge.proofs.DumpSamples.{reads, shown_passed, shown_read, stopped_read}
use Rattle.vme_judge.proofs.Dumps.{taken_stands}
use Rattle.vme_judge.proofs.dump.take_sample.Goals as goal

pub returns-then-is_passed : goal.returns-then-is_passed
returns-then-is_passed c = λ stood.
    shown_passed c.args.judge.now c.pass.new.self c.args.ports.now.last (shown_by c.args.vcd.now) c.is_passed.result c.is_passed.ensures
    c.if-is_passed.true stood c.pass.ensures.standing

pub returns-then-not-goes_on : goal.returns-then-not-goes_on
returns-then-not-goes_on c = λ stood.
    stopped_read (shown_by c.args.vcd.now) c.sample-sample.result c.undefined_at-undefined.result c.bus-bus.result.now c.sample_line.result
    c.time-time.result _
    (reads _ _ _ _ _ _ c.sample-sample.ensures c.undefined_at-undefined.ensures c.bus-bus.ensures c.sample_line.ensures c.time-time.ensures)
    c.args.judge.now c.take_lines.new.judge c.args.ports.now.last c.is_passed.result c.in_ok-goes_on.goes_on c.is_passed.ensures
    c.if-is_passed.false (c.in_ok-goes_on.ensures stood) c.if-not-goes_on.true

pub returns : goal.returns
returns c = λ stood.
    shown_read (shown_by c.args.vcd.now) c.sample-sample.result c.undefined_at-undefined.result c.bus-bus.result.now c.sample_line.result
    c.time-time.result _
    (reads _ _ _ _ _ _ c.sample-sample.ensures c.undefined_at-undefined.ensures c.bus-bus.ensures c.sample_line.ensures c.time-time.ensures)
    c.args.judge.now c.take_lines.new.judge c.take.new.judge c.args.ports.now.last c.take.new.self.last c.changed_ports.result
    c.is_passed.result c.in_ok-goes_on.goes_on c.take.result c.is_passed.ensures c.if-is_passed.false c.changed_ports.ensures
    (c.in_ok-goes_on.ensures stood) c.if-not-goes_on.false
    (c.take.ensures.judged (taken_stands _ _ _ _ (c.in_ok-goes_on.ensures stood) c.if-not-goes_on.false)) c.take.ensures.shown
