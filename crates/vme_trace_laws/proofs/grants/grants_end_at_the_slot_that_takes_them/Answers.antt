use Rattle.vme_trace_laws.proofs.waves.Grants.{grant_low, chain_low, busy_taken, request_released}
use Rattle.vme_trace_laws.proofs.grants.grants_end_at_the_slot_that_takes_them.Goals as goal

pub returns-clause-low : goal.returns-clause-low
returns-clause-low c = grant_low

pub returns-clause-chain : goal.returns-clause-chain
returns-clause-chain c = chain_low

pub returns-clause-taken : goal.returns-clause-taken
returns-clause-taken c = busy_taken

pub returns-clause-released : goal.returns-clause-released
returns-clause-released c = request_released
