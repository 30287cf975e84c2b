use Rattle.vme_trace_laws.proofs.waves.Polls.{bus_waits, slot_waits}
use Rattle.vme_trace_laws.proofs.polls.waiting_polls_change_no_line.Goals as goal

pub returns-clause-bus : goal.returns-clause-bus
returns-clause-bus c = bus_waits

pub returns-clause-slots : goal.returns-clause-slots
returns-clause-slots c = slot_waits
