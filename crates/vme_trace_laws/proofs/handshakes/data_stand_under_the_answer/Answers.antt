use Rattle.vme_trace_laws.proofs.waves.Strobes.{data_stand}
use Rattle.vme_trace_laws.proofs.handshakes.data_stand_under_the_answer.Goals as goal

pub returns : goal.returns
returns c = data_stand
