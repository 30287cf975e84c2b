use Rattle.vme_trace_laws.proofs.waves.Rules.{under_strobe, low_between, falls, rises, not_both_answers}
use Rattle.vme_trace_laws.proofs.events.events_keep_the_rules.Goals as goal

pub returns-clause-strobe : goal.returns-clause-strobe
returns-clause-strobe c = under_strobe

pub returns-clause-between : goal.returns-clause-between
returns-clause-between c = low_between

pub returns-clause-falls : goal.returns-clause-falls
returns-clause-falls c = falls

pub returns-clause-rises : goal.returns-clause-rises
returns-clause-rises c = rises

pub returns-clause-one : goal.returns-clause-one
returns-clause-one c = not_both_answers
