use Rattle.vme_run.proofs.Runs.{step_prefix_written}
use Rattle.vme_run.proofs.step.step_engine.Goals as goal

pub returns-in_err-status-clause-prefix : goal.returns-in_err-status-clause-prefix
returns-in_err-status-clause-prefix g c =
    step_prefix_written _ _ _ _ c.in_ok-config.config c.in_ok-config.ensures.config c.in_err-status.ensures.prefix
