use Rattle.vme_judge.specs.Runs.{run_so_far}
use Rattle.vme_judge.proofs.DumpBlanks.{blanks_skipped}
use Rattle.vme_judge.proofs.run.Run.push_blanks.Goals as goal

pub returns-clause-judges : goal.returns-clause-judges
unfolding run_so_far
returns-clause-judges c = c.push_log_all.ensures.judges

pub returns-clause-blanks : goal.returns-clause-blanks
returns-clause-blanks c = λ map line are is.
    blanks_skipped map line c.args.self.now c.push_log_all.new.self c.skip_blanks.new.vcd c.args.bytes.now c.push_log_all.result
    (c.in_ok-skip_blanks.ensures.reader map are is.reader) c.in_ok-skip_blanks.ensures.line c.push_log_all.ensures.vcd (c.push_log_all.ensures.blanks line are is.begin)
