use Rattle.vme_line_task.proofs.lemmas.Below.{next_below}
use Rattle.vme_line_task.proofs.laws.lines_call_boards_that_are_there.Goals as goal

pub returns : goal.returns
returns c = next_below
