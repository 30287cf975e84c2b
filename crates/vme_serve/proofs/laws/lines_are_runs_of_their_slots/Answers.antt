use Rattle.vme_serve.proofs.Running.{line_turns, line_refused}
use Rattle.vme_serve.proofs.laws.lines_are_runs_of_their_slots.Goals as goal

pub returns-clause-calls : goal.returns-clause-calls
returns-clause-calls c = line_turns

pub returns-clause-refused : goal.returns-clause-refused
returns-clause-refused c = line_refused
