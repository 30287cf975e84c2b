use Rattle.vme_shared.proofs.lemmas.Stands.{by_the_given}
use Rattle.vme_shared.proofs.lemmas.Tenures.{end_stays}
use Rattle.vme_shared.proofs.Denials.{misfit_denied, absent_denied, early_denied}
use Rattle.vme_shared.proofs.laws.shared_tasks_go_by_the_table.Goals as goal

pub returns-clause-table : goal.returns-clause-table
returns-clause-table c = by_the_given

pub returns-clause-misfit : goal.returns-clause-misfit
returns-clause-misfit c = misfit_denied

pub returns-clause-absent : goal.returns-clause-absent
returns-clause-absent c = absent_denied

pub returns-clause-early : goal.returns-clause-early
returns-clause-early c = early_denied

pub returns-clause-end : goal.returns-clause-end
returns-clause-end c = end_stays
