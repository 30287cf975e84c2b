use Rattle.vme_stepper.specs.Schedules.{file_turns}
use Rattle.vme_stepper.proofs.Reporting.{stepper_reported}
use Rattle.vme_stepper.proofs.run.run_configured.Goals as goal

pub returns-clause-text : goal.returns-clause-text
returns-clause-text g c =
    rw (← stepper_reported c.args.config.now c.run_configured.new.self (file_turns c.args.config.now) c.new.ensures.lawful c.run_configured.ensures.run) c.report.ensures.text

pub returns-clause-prefix : goal.returns-clause-prefix
returns-clause-prefix g c =
    rw (← stepper_reported c.args.config.now c.run_configured.new.self (file_turns c.args.config.now) c.new.ensures.lawful c.run_configured.ensures.run) c.report.ensures.prefix

pub returns-clause-status : goal.returns-clause-status
returns-clause-status g c =
    rw (← stepper_reported c.args.config.now c.run_configured.new.self (file_turns c.args.config.now) c.new.ensures.lawful c.run_configured.ensures.run) c.report.ensures.status
