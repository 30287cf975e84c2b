use Rattle.vme_arbiter.proofs.lemmas.Turns.{own-reply, other-reply, holds-holder}
use Rattle.vme_arbiter.proofs.laws.replies_show_who_waits.Goals as goal

pub returns-clause-own : goal.returns-clause-own
returns-clause-own c = λ bus slot last cmd orderly slot_ok stands may. own-reply bus slot last cmd orderly slot_ok stands may

pub returns-clause-other : goal.returns-clause-other
returns-clause-other c = other-reply

pub returns-clause-holder : goal.returns-clause-holder
returns-clause-holder c = holds-holder
