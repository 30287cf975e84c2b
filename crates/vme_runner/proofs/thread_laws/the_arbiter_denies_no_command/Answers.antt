use Rattle.vme_arbiter.proofs.lemmas.Turns.{no_denial_from_opening}
use Rattle.vme_runner.proofs.Granted.{report_turns}
use Rattle.vme_runner.proofs.thread_laws.the_arbiter_denies_no_command.Goals as goal

pub returns-clause-law : goal.returns-clause-law
returns-clause-law c = no_denial_from_opening

pub returns-clause-report : goal.returns-clause-report
returns-clause-report c = report_turns
