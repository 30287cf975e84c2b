use Rattle.vme_legal_traces.proofs.Timely.{trace_timely}
use Rattle.vme_legal_traces.proofs.laws.our_traces_keep_the_bus_timer.Goals as goal

pub returns : goal.returns
returns c = λ config slots timeout most. trace_timely config slots timeout most
