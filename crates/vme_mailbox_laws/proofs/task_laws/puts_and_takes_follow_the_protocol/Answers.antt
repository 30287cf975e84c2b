use Rattle.vme_mailbox_laws.proofs.Ends.{goes_on, ends}
use Rattle.vme_mailbox_laws.proofs.task_laws.puts_and_takes_follow_the_protocol.Goals as goal

pub returns-clause-rows : goal.returns-clause-rows
returns-clause-rows c = λ s given board m uses good counts. goes_on s given board m uses good counts

pub returns-clause-leaves : goal.returns-clause-leaves
returns-clause-leaves c = λ s given board m outcome uses good counts end. (ends s given board m uses good counts outcome end).is

pub returns-clause-fine : goal.returns-clause-fine
returns-clause-fine c = λ s given board m outcome uses good counts end. (ends s given board m uses good counts outcome end).fine

pub returns-clause-put : goal.returns-clause-put
returns-clause-put c = λ s given board m outcome uses good counts end. (ends s given board m uses good counts outcome end).put_is

pub returns-clause-taken : goal.returns-clause-taken
returns-clause-taken c = λ s given board m outcome uses good counts end. (ends s given board m uses good counts outcome end).taken_is
