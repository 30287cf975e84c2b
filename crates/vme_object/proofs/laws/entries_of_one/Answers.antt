use Rattle.vme_object.proofs.lemmas.Histories.{own_within}
use Rattle.vme_object.proofs.laws.entries_of_one.Goals as goal

pub returns-clause-within : goal.returns-clause-within
returns-clause-within g c = λ who h. own_within who h
