use Rattle.vme_arbiter.proofs.lemmas.Turns.{no_denial_from_opening}
use Rattle.vme_arbiter.proofs.laws.no_command_is_denied.Goals as goal

pub returns : goal.returns
returns c = no_denial_from_opening
