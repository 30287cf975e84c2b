use Rattle.vme_runner.proofs.LinePlaces.{line_of}
use Rattle.vme_runner.proofs.Blocks.{one_tenure}
use Rattle.vme_runner.proofs.tenure_laws.a_block_has_one_tenure.Goals as goal

pub returns-clause-line : goal.returns-clause-line
returns-clause-line c = line_of

pub returns-clause-tenure : goal.returns-clause-tenure
returns-clause-tenure c = one_tenure
