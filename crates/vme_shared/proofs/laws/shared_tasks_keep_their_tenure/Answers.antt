use Rattle.std.proofs.Common.{refl}
use Rattle.vme_shared.proofs.lemmas.Tenures.{begin_reported, commands_are_allowed, holds_for_data, turn_reported, datum_reported, ends_well}
use Rattle.vme_shared.proofs.laws.shared_tasks_keep_their_tenure.Goals as goal

pub returns-clause-begin : goal.returns-clause-begin
returns-clause-begin c = begin_reported

pub returns-clause-command_allowed : goal.returns-clause-command_allowed
returns-clause-command_allowed c = commands_are_allowed

pub returns-clause-holds : goal.returns-clause-holds
returns-clause-holds c = holds_for_data

pub returns-clause-slot_state : goal.returns-clause-slot_state
returns-clause-slot_state c = turn_reported

pub returns-clause-datum : goal.returns-clause-datum
returns-clause-datum c = datum_reported

pub returns-clause-granted : goal.returns-clause-granted
returns-clause-granted c = λ s given call reply made fit good denied. (ends_well s given call reply _ made fit good denied).granted refl

pub returns-clause-freed : goal.returns-clause-freed
returns-clause-freed c = λ s given call reply end made fit good ends.
    let well = ends_well s given call reply end made fit good ends in (well.freed, well.nothing)
