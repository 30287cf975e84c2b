use Rattle.vme_cycle.proofs.lemmas.Sums.{number_of-sum_of, length-sum_of}
use Rattle.vme_cycle.proofs.laws.sums_are_modulo.Goals as goal

pub returns : goal.returns
returns c = record { value = number_of-sum_of; len = length-sum_of }
