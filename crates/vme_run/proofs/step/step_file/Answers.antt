use Rattle.std.proofs.Common.{sym}
use Rattle.vme_run.proofs.Runs.{step_file_prefix_written}
use Rattle.vme_run.proofs.step.step_file.Goals as goal

pub returns-in_err-status-clause-prefix : goal.returns-in_err-status-clause-prefix
returns-in_err-status-clause-prefix g c =
    step_file_prefix_written c.args.file.items _ _ _ c.in_ok-config.config
    (rw (sym c.as_slice.ensures.value) c.in_ok-config.ensures.config) c.in_err-status.ensures.prefix
