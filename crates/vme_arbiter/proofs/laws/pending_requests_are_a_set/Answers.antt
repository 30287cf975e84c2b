use Rattle.vme_arbiter.proofs.Sets.{with-contains, contains-with, without-contains, contains-without, same_list}
use Rattle.vme_arbiter.proofs.laws.pending_requests_are_a_set.Goals as goal

pub returns-clause-added : goal.returns-clause-added
returns-clause-added c = λ pending new r. (contains-with new r pending, with-contains new r pending)

pub returns-clause-taken_out : goal.returns-clause-taken_out
returns-clause-taken_out c = λ pending slot r.
    (contains-without slot r pending, λ member. without-contains slot r pending member.0 member.1)

pub returns-clause-same : goal.returns-clause-same
returns-clause-same c = same_list
