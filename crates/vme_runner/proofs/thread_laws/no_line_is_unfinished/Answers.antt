use Rattle.vme_runner.proofs.Finished.{report_finished}
use Rattle.vme_runner.proofs.thread_laws.no_line_is_unfinished.Goals as goal

pub returns : goal.returns
returns c config report is = report_finished config report is
