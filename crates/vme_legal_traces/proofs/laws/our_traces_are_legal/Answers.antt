use Rattle.vme_legal_traces.proofs.Whole.{whole_legal}
use Rattle.vme_legal_traces.proofs.laws.our_traces_are_legal.Goals as goal

pub returns : goal.returns
returns c = λ config slots timeout lawful order most. whole_legal config lawful order slots timeout most
