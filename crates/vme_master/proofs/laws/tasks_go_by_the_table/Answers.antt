use Rattle.std.proofs.Common.{refl}
use Rattle.vme_master.proofs.laws.tasks_go_by_the_table.Goals as goal

pub returns-clause-misfit : goal.returns-clause-misfit
returns-clause-misfit c = λ job given call reply made misfit. rw (made, misfit) refl

pub returns-clause-absent : goal.returns-clause-absent
returns-clause-absent c = λ job given call made. rw made refl

pub returns-clause-end : goal.returns-clause-end
returns-clause-end c = λ job given outcome last ended. rw ended refl
