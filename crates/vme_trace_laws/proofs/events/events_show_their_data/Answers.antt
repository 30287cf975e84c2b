use Rattle.vme_trace_laws.proofs.waves.EventEnds.{event_data}
use Rattle.vme_trace_laws.proofs.events.events_show_their_data.Goals as goal

pub returns : goal.returns
returns c = event_data
