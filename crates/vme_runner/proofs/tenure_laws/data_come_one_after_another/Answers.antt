use Rattle.vme_runner.proofs.OneAfterAnother.{at_datum, answered_all}
use Rattle.vme_runner.proofs.tenure_laws.data_come_one_after_another.Goals as goal

pub returns-clause-calls : goal.returns-clause-calls
returns-clause-calls c = at_datum

pub returns-clause-replies : goal.returns-clause-replies
returns-clause-replies c = answered_all
