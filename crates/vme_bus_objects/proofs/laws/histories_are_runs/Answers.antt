use Rattle.vme_bus_objects.proofs.lemmas.Histories.{board_history, arbiter_history, transitions_of_run}
use Rattle.vme_bus_objects.proofs.laws.histories_are_runs.Goals as goal

pub returns-clause-boards : goal.returns-clause-boards
returns-clause-boards c = board_history

pub returns-clause-arbiter : goal.returns-clause-arbiter
returns-clause-arbiter c = arbiter_history

pub returns-clause-processors : goal.returns-clause-processors
returns-clause-processors c = transitions_of_run
