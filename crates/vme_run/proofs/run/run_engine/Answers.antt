use Rattle.vme_run.proofs.Runs.{text_written, prefix_written}
use Rattle.vme_run.proofs.run.run_engine.Goals as goal

pub returns-in_err-status-clause-prefix : goal.returns-in_err-status-clause-prefix
returns-in_err-status-clause-prefix g c =
    prefix_written _ _ _ _ c.in_ok-config.config c.in_ok-report.report c.in_ok-config.ensures.config c.in_ok-report.ensures.report
    c.in_err-status.ensures.prefix

pub returns-clause-text : goal.returns-clause-text
returns-clause-text g c =
    text_written _ _ _ c.in_ok-config.config c.in_ok-report.report c.in_ok-status.status c.in_ok-config.ensures.config c.in_ok-report.ensures.report
    c.in_ok-status.ensures.status c.in_ok-status.ensures.text
