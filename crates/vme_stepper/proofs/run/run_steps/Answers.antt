use Rattle.vme_stepper.proofs.Reporting.{stepper_reported}
use Rattle.vme_stepper.proofs.run.run_steps.Goals as goal

pub returns-clause-text : goal.returns-clause-text
returns-clause-text g c =
    rw (← stepper_reported c.args.config.now c.run.new.self c.args.slots.now c.new.ensures.lawful c.run.ensures.run) c.report.ensures.text

pub returns-clause-prefix : goal.returns-clause-prefix
returns-clause-prefix g c =
    rw (← stepper_reported c.args.config.now c.run.new.self c.args.slots.now c.new.ensures.lawful c.run.ensures.run) c.report.ensures.prefix

pub returns-clause-status : goal.returns-clause-status
returns-clause-status g c =
    rw (← stepper_reported c.args.config.now c.run.new.self c.args.slots.now c.new.ensures.lawful c.run.ensures.run) c.report.ensures.status
