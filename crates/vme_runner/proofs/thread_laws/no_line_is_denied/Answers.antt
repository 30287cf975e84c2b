use Rattle.vme_runner.proofs.Granted.{report_granted}
use Rattle.vme_runner.proofs.thread_laws.no_line_is_denied.Goals as goal

pub returns : goal.returns
returns c = report_granted
