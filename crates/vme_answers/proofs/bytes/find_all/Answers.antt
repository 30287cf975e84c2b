use Rattle.std.proofs.Common.{◌∙◌}
use Rattle.vme_answers.proofs.Finding.{found_stored}
use Rattle.vme_answers.proofs.bytes.find_all.Goals as goal

pub returns-clause-known : goal.returns-clause-known
returns-clause-known c = λ found. c.store_all.ensures.known ∙ found_stored c.args.known.now c.args.at c.args.bytes.now
