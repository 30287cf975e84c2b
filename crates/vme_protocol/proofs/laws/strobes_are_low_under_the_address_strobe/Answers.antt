use Rattle.vme_protocol.proofs.laws.strobes_are_low_under_the_address_strobe.Goals as goal
use Rattle.vme_protocol.proofs.LawLemmas.{under}

pub returns : goal.returns
returns c = under
