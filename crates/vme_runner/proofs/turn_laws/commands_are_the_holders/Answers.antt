use Rattle.vme_runner.proofs.Runs.{after_stand, holder_is, granted_is}
use Rattle.vme_stepper.specs.Turns.{state_after}
use Rattle.vme_runner.proofs.turn_laws.commands_are_the_holders.Goals as goal

pub returns-clause-orderly : goal.returns-clause-orderly
returns-clause-orderly c = λ config slots lawful. (after_stand config slots lawful).orderly

pub returns-clause-holder : goal.returns-clause-holder
returns-clause-holder c = λ config slots slot board place command lawful is.
    holder_is config (state_after config slots) slot board place command lawful (after_stand config slots lawful) is

pub returns-clause-granted : goal.returns-clause-granted
returns-clause-granted c = λ config slots slot board call lawful is.
    granted_is config (state_after config slots) slot board call lawful (after_stand config slots lawful) is

pub returns-clause-answers : goal.returns-clause-answers
returns-clause-answers c = λ config slots board script_state lawful found. ((after_stand config slots lawful).each board script_state found).granted
