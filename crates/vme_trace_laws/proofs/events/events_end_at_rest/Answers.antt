use Rattle.vme_trace_laws.proofs.waves.Rules.{strobe_control, answer_control}
use Rattle.vme_trace_laws.proofs.waves.EventEnds.{ends_high, ends_released, ends_upper_released, ends_transfer}
use Rattle.vme_trace_laws.proofs.waves.SlotEnds.{chain_rests, ports_rest, select_rests}
use Rattle.vme_trace_laws.proofs.events.events_end_at_rest.Goals as goal

pub returns-clause-strobes : goal.returns-clause-strobes
returns-clause-strobes c = λ boards n o line is. ends_high boards n o line (strobe_control line is)

pub returns-clause-answers : goal.returns-clause-answers
returns-clause-answers c = λ boards n o line is. ends_high boards n o line (answer_control line is)

pub returns-clause-data : goal.returns-clause-data
returns-clause-data c = ends_released

pub returns-clause-upper : goal.returns-clause-upper
returns-clause-upper c = ends_upper_released

pub returns-clause-address_strobe : goal.returns-clause-address_strobe
returns-clause-address_strobe c = ends_transfer

pub returns-clause-grants : goal.returns-clause-grants
returns-clause-grants c = λ boards n o board there. chain_rests o board boards n there

pub returns-clause-ports : goal.returns-clause-ports
returns-clause-ports c = ports_rest

pub returns-clause-selected : goal.returns-clause-selected
returns-clause-selected c = λ boards n o board before there chosen ended. select_rests o board boards n before there chosen ended
