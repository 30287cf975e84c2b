use Rattle.vme_line_task.proofs.lemmas.Traces.{follows_call, follows_answer}
use Rattle.vme_line_task.proofs.laws.traces_go_line_by_line.Goals as goal

pub returns-clause-call : goal.returns-clause-call
returns-clause-call c = follows_call

pub returns-clause-answer : goal.returns-clause-answer
returns-clause-answer c = follows_answer
