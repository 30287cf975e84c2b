use Rattle.vme_master.proofs.lemmas.Tenures.{commands_are_own, commands_are_allowed, holds_for_data, ends_freed}
use Rattle.vme_master.proofs.laws.transfers_keep_their_tenure.Goals as goal

pub returns-clause-own : goal.returns-clause-own
returns-clause-own c = commands_are_own

pub returns-clause-command_allowed : goal.returns-clause-command_allowed
returns-clause-command_allowed c = commands_are_allowed

pub returns-clause-holds : goal.returns-clause-holds
returns-clause-holds c = holds_for_data

pub returns-clause-frees : goal.returns-clause-frees
returns-clause-frees c = ends_freed
