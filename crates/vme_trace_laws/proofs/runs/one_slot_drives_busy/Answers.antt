use Rattle.vme_trace_laws.proofs.turns.Busy.{holder_drives, one_drives}
use Rattle.vme_trace_laws.proofs.turns.Holders.{holder_after_run, busy_after_run}
use Rattle.vme_trace_laws.proofs.runs.one_slot_drives_busy.Goals as goal

pub returns-clause-slot : goal.returns-clause-slot
returns-clause-slot c = λ config slots board lawful there. holder_drives config lawful board there slots

pub returns-clause-one : goal.returns-clause-one
returns-clause-one c = λ config slots events later o k a b lawful there_a there_b. one_drives config lawful slots events later o k a b there_a there_b

pub returns-clause-holder : goal.returns-clause-holder
returns-clause-holder c = λ config slots lawful. holder_after_run config lawful slots

pub returns-clause-busy : goal.returns-clause-busy
returns-clause-busy c = λ config slots lawful. busy_after_run config lawful slots
