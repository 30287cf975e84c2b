use Rattle.vme_memory.proofs.lemmas.Data.{own_command}
use Rattle.vme_core.proofs.datum.DatumCycle.new.Goals as goal

-- the cycle is the request's own command
pub returns-clause-command : goal.returns-clause-command
returns-clause-command c = own_command c.args.plan c.args.i c.args.at c.requires.lawful c.requires.in_count c.requires.place
