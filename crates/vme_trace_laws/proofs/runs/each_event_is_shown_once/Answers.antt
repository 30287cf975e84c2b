use Rattle.vme_trace_laws.proofs.turns.Runs.{run_shown}
use Rattle.vme_trace_laws.proofs.turns.Orders.{run_data}
use Rattle.vme_trace_laws.proofs.turns.Counts.{steps_are_shown, all_are_shown}
use Rattle.vme_trace_laws.proofs.turns.Numbers.{run_number}
use Rattle.vme_trace_laws.proofs.runs.each_event_is_shown_once.Goals as goal

pub returns-clause-run : goal.returns-clause-run
returns-clause-run c = run_shown

pub returns-clause-data : goal.returns-clause-data
returns-clause-data c = λ config slots lawful. run_data config lawful slots

pub returns-clause-steps : goal.returns-clause-steps
returns-clause-steps c = steps_are_shown

pub returns-clause-all : goal.returns-clause-all
returns-clause-all c = all_are_shown

pub returns-clause-number : goal.returns-clause-number
returns-clause-number c = λ config slots before lawful some. run_number config lawful slots before some
