use Rattle.std.proofs.Common.{ap, sym, ◌∙◌}
use Rattle.vme_judge.specs.Runs.{form_after, is_no_dump}
use Rattle.vme_judge.proofs.DumpPieces.{piece_known}
use Rattle.vme_judge.proofs.Pieces.{takes_more, takes_none}
use Rattle.vme_judge.proofs.run.Run.push_all.Goals as goal

pub returns-in-Dump-clause-log : goal.returns-in-Dump-clause-log
returns-in-Dump-clause-log c = λ log on. absurd (takes_none c.args.self.now c.args.bytes.now c.in-Dump.is log)

pub returns-in-Log-clause-log : goal.returns-in-Log-clause-log
returns-in-Log-clause-log c = λ log on.
    takes_more c.args.self.now c.push_log_all.new.self c.args.bytes.now c.push_log_all.result c.push_log_all.ensures.judges c.push_log_all.ensures.kind
    c.in-Log.is on

pub returns-in-Unknown-clause-log : goal.returns-in-Unknown-clause-log
returns-in-Unknown-clause-log c = λ log on.
    c.push_unknown.ensures.log (ap (λ kind. is_no_dump (form_after kind c.args.bytes.now)) (sym c.in-Unknown.is) ∙ log) c.in-Unknown.is on

pub returns-in-Dump-clause-blanks : goal.returns-in-Dump-clause-blanks
returns-in-Dump-clause-blanks c = λ map line unknown are is. absurd (cc (c.in-Dump.is, unknown))

pub returns-in-Dump-clause-first : goal.returns-in-Dump-clause-first
returns-in-Dump-clause-first c = λ map line unknown form is on. absurd (cc (c.in-Dump.is, unknown))

pub returns-in-Dump-clause-dump : goal.returns-in-Dump-clause-dump
returns-in-Dump-clause-dump c = λ map reached dump is on.
    piece_known map c.args.self.now c.push_dump_all.new.self reached c.args.bytes.now c.push_dump_all.result
    (c.push_dump_all.ensures.dump map reached is on) c.push_dump_all.ensures.kind c.in-Dump.is

pub returns-in-Log-clause-blanks : goal.returns-in-Log-clause-blanks
returns-in-Log-clause-blanks c = λ map line unknown are is. absurd (cc (c.in-Log.is, unknown))

pub returns-in-Log-clause-first : goal.returns-in-Log-clause-first
returns-in-Log-clause-first c = λ map line unknown form is on. absurd (cc (c.in-Log.is, unknown))

pub returns-in-Log-clause-dump : goal.returns-in-Log-clause-dump
returns-in-Log-clause-dump c = λ map reached dump is on. absurd (cc (c.in-Log.is, dump))

pub returns-in-Unknown-clause-blanks : goal.returns-in-Unknown-clause-blanks
returns-in-Unknown-clause-blanks c = λ map line unknown are is. c.push_unknown.ensures.blanks map line are is

pub returns-in-Unknown-clause-first : goal.returns-in-Unknown-clause-first
returns-in-Unknown-clause-first c = λ map line unknown form is on. c.push_unknown.ensures.first map line form is on

pub returns-in-Unknown-clause-dump : goal.returns-in-Unknown-clause-dump
returns-in-Unknown-clause-dump c = λ map reached dump is on. absurd (cc (c.in-Unknown.is, dump))
