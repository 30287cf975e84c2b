use Rattle.std.proofs.Common.{[]}
use Rattle.vme_vcd_reader.specs.Headers.{beginning}
use Rattle.vme_judge.specs.DumpRuns.{InHeader}
use Rattle.vme_judge.proofs.DumpBlanks.{dump_barred, dump_begun}
use Rattle.vme_judge.proofs.run.Run.begin_dump.Goals as goal

pub returns-then-not-branch-clause-first : goal.returns-then-not-branch-clause-first
returns-then-not-branch-clause-first c = λ map line form is going.
    dump_barred map line c.args.self.now c.push_blanks.new.self c.args.bytes.now c.cut_blanks.result.0.now c.cut_blanks.result.1.now c.in_ok-push_blanks.field-0
    c.if-not-branch.true going (c.in_ok-push_blanks.ensures.blanks map line c.cut_blanks.ensures.blanks is).takes c.cut_blanks.ensures.parts

pub returns-clause-first : goal.returns-clause-first
returns-clause-first c = λ map line form is going.
    let skips = c.in_ok-push_blanks.ensures.blanks map line c.cut_blanks.ensures.blanks is in
    dump_begun map line c.args.self.now c.push_blanks.new.self c.push_dump_all.new.self c.args.bytes.now c.cut_blanks.result.0.now c.cut_blanks.result.1.now
    c.in_ok-push_blanks.field-0 c.push_dump_all.result c.if-not-branch.false skips.takes skips.counts c.cut_blanks.ensures.blanks
    (c.cut_blanks.ensures.first form) c.cut_blanks.ensures.parts going (c.push_dump_all.ensures.dump map (InHeader beginning []) skips.reader)
