use Rattle.vme_trace_laws.proofs.waves.Strobes.{falls_under_strobe, rises_after_strobes, one_answer}
use Rattle.vme_trace_laws.proofs.handshakes.answers_follow_the_strobes.Goals as goal

pub returns-clause-falls : goal.returns-clause-falls
returns-clause-falls c = falls_under_strobe

pub returns-clause-rises : goal.returns-clause-rises
returns-clause-rises c = rises_after_strobes

pub returns-clause-one : goal.returns-clause-one
returns-clause-one c = one_answer
