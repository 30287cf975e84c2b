use Rattle.vme_trace_laws.proofs.waves.Strobes.{strobe_under}
use Rattle.vme_trace_laws.proofs.handshakes.strobes_are_low_under_the_address_strobe.Goals as goal

pub returns : goal.returns
returns c = strobe_under
