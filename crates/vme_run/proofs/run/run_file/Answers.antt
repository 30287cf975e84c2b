use Rattle.std.proofs.Common.{sym}
use Rattle.vme_run.proofs.Runs.{file_text_written, file_prefix_written, nothing_written}
use Rattle.vme_run.proofs.run.run_file.Goals as goal

pub returns-in_err-report-clause-prefix : goal.returns-in_err-report-clause-prefix
returns-in_err-report-clause-prefix g c = nothing_written _ _ _

pub returns-in_err-status-clause-prefix : goal.returns-in_err-status-clause-prefix
returns-in_err-status-clause-prefix g c =
    file_prefix_written c.args.file.items _ _ _ c.in_ok-config.config c.in_ok-report.report
    (rw (sym c.as_slice.ensures.value) c.in_ok-config.ensures.config) c.in_ok-report.ensures.report c.in_err-status.ensures.prefix

pub returns-clause-text : goal.returns-clause-text
returns-clause-text g c =
    file_text_written c.args.file.items _ _ c.in_ok-config.config c.in_ok-report.report c.in_ok-status.status
    (rw (sym c.as_slice.ensures.value) c.in_ok-config.ensures.config) c.in_ok-report.ensures.report c.in_ok-status.ensures.status
    c.in_ok-status.ensures.text
