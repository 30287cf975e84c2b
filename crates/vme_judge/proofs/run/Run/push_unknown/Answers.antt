use Rattle.std.proofs.Common.{ap, sym, ◌∙◌}
use Rattle.std.proofs.lemmas.Bool.{false≢true}
use Rattle.vme_judge.specs.Runs.{is_no_dump, run_so_far}
use Rattle.vme_judge.proofs.DumpBlanks.{piece_first, piece_further, so_far_formed}
use Rattle.vme_judge.proofs.Pieces.{takes_first}
use Rattle.vme_judge.proofs.run.Run.push_unknown.Goals as goal

pub returns-in-Log-clause-log : goal.returns-in-Log-clause-log
unfolding run_so_far
returns-in-Log-clause-log c = λ log unknown on.
    takes_first c.args.self.now c.push_log_all.new.self c.args.bytes.now c.push_log_all.result c.form_of-self.result c.push_log_all.ensures.judges
    c.push_log_all.ensures.kind c.form_of-self.ensures unknown on

pub returns-in-Unknown-clause-log : goal.returns-in-Unknown-clause-log
unfolding run_so_far
returns-in-Unknown-clause-log c = λ log unknown on.
    takes_first c.args.self.now c.push_blanks.new.self c.args.bytes.now c.push_blanks.result c.form_of-self.result c.push_blanks.ensures.judges
    c.push_blanks.ensures.kind c.form_of-self.ensures unknown on

pub returns-in-Dump-clause-log : goal.returns-in-Dump-clause-log
returns-in-Dump-clause-log c = λ log unknown on.
    absurd (false≢true (ap is_no_dump (sym c.in-Dump.is ∙ c.form_of-self.ensures) ∙ log))

pub returns-in-Dump-clause-blanks : goal.returns-in-Dump-clause-blanks
returns-in-Dump-clause-blanks c = λ map line are is. absurd (cc (c.form_of-self.ensures, c.in-Dump.is, are))

pub returns-in-Dump-clause-first : goal.returns-in-Dump-clause-first
returns-in-Dump-clause-first c = λ map line form is on.
    piece_first map line c.args.self.now c.begin_dump.new.self c.args.bytes.now c.form_of-self.result c.begin_dump.result
    (c.begin_dump.ensures.first map line form (so_far_formed map line c.args.self.now c.form_of-self.result is) on) c.begin_dump.ensures.kind
    c.in-Dump.is

pub returns-in-Log-clause-blanks : goal.returns-in-Log-clause-blanks
returns-in-Log-clause-blanks c = λ map line are is. absurd (cc (c.form_of-self.ensures, c.in-Log.is, are))

pub returns-in-Log-clause-first : goal.returns-in-Log-clause-first
returns-in-Log-clause-first c = λ map line form is on. absurd (cc (c.form_of-self.ensures, c.in-Log.is, form))

pub returns-in-Unknown-clause-blanks : goal.returns-in-Unknown-clause-blanks
returns-in-Unknown-clause-blanks c = λ map line are is.
    piece_further map line c.args.self.now c.push_blanks.new.self c.args.bytes.now c.form_of-self.result c.push_blanks.result
    (c.push_blanks.ensures.blanks map line are (so_far_formed map line c.args.self.now c.form_of-self.result is)) c.push_blanks.ensures.kind
    c.in-Unknown.is

pub returns-in-Unknown-clause-first : goal.returns-in-Unknown-clause-first
returns-in-Unknown-clause-first c = λ map line form is on. absurd (cc (c.form_of-self.ensures, c.in-Unknown.is, form))
