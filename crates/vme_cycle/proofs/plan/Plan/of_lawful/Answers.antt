-- A request that is required to be lawful is lawful.
use Rattle.vme_cycle.proofs.lemmas.Transfers.{row_of_lawful, none_of_lawful}
use Rattle.vme_cycle.proofs.plan.Plan.of_lawful.Goals as goal

pub invariant_of-result : goal.invariant_of-result
invariant_of-result c = (row_of_lawful _ c.requires, none_of_lawful _ c.requires)
