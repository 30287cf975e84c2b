use Rattle.vme_trace_laws.proofs.turns.AddressLines.{address_begins, address_stays, write_stays}
use Rattle.vme_trace_laws.proofs.addresses.the_address_stays_over_a_transfer.Goals as goal

pub returns-clause-begins : goal.returns-clause-begins
returns-clause-begins c = address_begins

pub returns-clause-stays : goal.returns-clause-stays
returns-clause-stays c = address_stays

pub returns-clause-write : goal.returns-clause-write
returns-clause-write c = write_stays
