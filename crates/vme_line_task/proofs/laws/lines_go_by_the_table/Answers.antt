use Rattle.vme_line_task.proofs.lemmas.Lines.{by_the_given, by_the_given_with, by_the_replies}
use Rattle.vme_line_task.proofs.Ends.{answer_stays}
use Rattle.vme_line_task.proofs.laws.lines_go_by_the_table.Goals as goal

pub returns-clause-given : goal.returns-clause-given
returns-clause-given c = by_the_given

pub returns-clause-tries : goal.returns-clause-tries
returns-clause-tries c = by_the_given_with

pub returns-clause-replies : goal.returns-clause-replies
returns-clause-replies c = by_the_replies

pub returns-clause-end : goal.returns-clause-end
returns-clause-end c = answer_stays
