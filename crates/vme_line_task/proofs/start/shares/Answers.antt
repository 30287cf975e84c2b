use Rattle.vme_line_task.specs.Scripts.{shared_job}
use Rattle.vme_line_task.proofs.Shares.{shares_so}
use Rattle.vme_line_task.proofs.start.shares.Goals as goal

pub returns : goal.returns
returns c = shares_so (shared_job c.args.config.now c.args.board c.args.request) c.in_ok-task.task c.in_ok-task.ensures
