use Rattle.std.proofs.Common.{◌∙◌}
use Rattle.vme_shared.specs.Words.{put_by, taken_by, all_idle}
use Rattle.vme_mailbox_laws.proofs.lemmas.Groups.{own_words}
use Rattle.vme_shared.proofs.lemmas.Opening.{is_queue}
use Rattle.vme_mailbox_laws.proofs.lemmas.Shared.{proper, put_by_outcome, taken_by_outcome}
use Rattle.vme_mailbox_laws.proofs.queue_laws.scripts_follow_the_protocol.Goals as goal

pub returns-clause-proper : goal.returns-clause-proper
returns-clause-proper c = proper

pub returns-clause-order : goal.returns-clause-order
returns-clause-order c = λ config box board m memory h runs answers is new legal share.
    (is_queue memory m h new legal (proper config box board m memory h runs answers is new legal share)).order

pub returns-clause-capacity : goal.returns-clause-capacity
returns-clause-capacity c = λ config box board m memory h runs answers is new legal share.
    (is_queue memory m h new legal (proper config box board m memory h runs answers is new legal share)).capacity

pub returns-clause-put : goal.returns-clause-put
returns-clause-put c = λ config box board m memory h runs answers is new legal share who d below.
    own_words who put_by m all_idle h ∙ put_by_outcome config box board m memory h runs answers is new legal share who d below

pub returns-clause-taken : goal.returns-clause-taken
returns-clause-taken c = λ config box board m memory h runs answers is new legal share who d below.
    own_words who taken_by m all_idle h ∙ taken_by_outcome config box board m memory h runs answers is new legal share who d below
