use Rattle.vme_line_task.proofs.lemmas.Kept.{line_begins, line_first, line_command_allowed, line_holds, line_slot_state, line_datum, line_ends}
use Rattle.vme_line_task.proofs.laws.lines_keep_their_tenure.Goals as goal

pub returns-clause-begin : goal.returns-clause-begin
returns-clause-begin c = line_begins

pub returns-clause-first : goal.returns-clause-first
returns-clause-first c = line_first

pub returns-clause-command_allowed : goal.returns-clause-command_allowed
returns-clause-command_allowed c = line_command_allowed

pub returns-clause-holds : goal.returns-clause-holds
returns-clause-holds c = line_holds

pub returns-clause-slot_state : goal.returns-clause-slot_state
returns-clause-slot_state c = line_slot_state

pub returns-clause-datum : goal.returns-clause-datum
returns-clause-datum c = line_datum

pub returns-clause-granted : goal.returns-clause-granted
returns-clause-granted c = λ config board line replies call reply answer made good ends.
    (line_ends config board line replies call reply answer made good ends).granted

pub returns-clause-end : goal.returns-clause-end
returns-clause-end c = λ config board line replies call reply answer bus slot made good ends stands.
    (line_ends config board line replies call reply answer made good ends).free bus slot stands
