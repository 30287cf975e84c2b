use Rattle.vme_trace_laws.proofs.turns.PendingRequests.{request_after_run}
use Rattle.vme_trace_laws.proofs.turns.Granted.{slot_granted, request_granted, busy_granted}
use Rattle.vme_trace_laws.proofs.grants.grants_go_to_slots_that_request.Goals as goal

pub returns-clause-slot : goal.returns-clause-slot
returns-clause-slot c = λ config slots events later o g lawful whole is. slot_granted config lawful slots events later o g whole is

pub returns-clause-request : goal.returns-clause-request
returns-clause-request c = λ config slots events later o g lawful whole is. request_granted config lawful slots events later o g whole is

pub returns-clause-free : goal.returns-clause-free
returns-clause-free c = λ config slots events later o g lawful whole is. busy_granted config lawful slots events later o g whole is

pub returns-clause-pending : goal.returns-clause-pending
returns-clause-pending c = λ config slots board lawful there. request_after_run config lawful board there slots
