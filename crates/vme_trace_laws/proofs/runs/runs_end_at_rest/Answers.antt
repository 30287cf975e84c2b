use Rattle.std.proofs.Common.{length}
use Rattle.vme_trace.specs.Observations.{observations}
use Rattle.vme_trace.specs.declared.dump.change.Value.TheVariants.{Low, High, Grants}
use Rattle.vme_trace.specs.Changes.{no_lanes}
use Rattle.vme_trace.specs.Variables.{code_of}
use Rattle.vme_trace_laws.specs.Shown.{data_lines, upper_data_lines}
use Rattle.vme_trace_laws.specs.Events.{grant_lines_in}
use Rattle.vme_trace_laws.proofs.turns.Rests.{run_rests}
use Rattle.vme_trace_laws.proofs.runs.runs_end_at_rest.Goals as goal

pub returns-clause-strobes : goal.returns-clause-strobes
returns-clause-strobes c = λ config slots line is.
    run_rests line (length config.boards) High (λ n o. c.events_end_at_rest.ensures.strobes (length config.boards) n o line is) 0
    (observations config slots)

pub returns-clause-answers : goal.returns-clause-answers
returns-clause-answers c = λ config slots line is.
    run_rests line (length config.boards) High (λ n o. c.events_end_at_rest.ensures.answers (length config.boards) n o line is) 0
    (observations config slots)

pub returns-clause-data : goal.returns-clause-data
returns-clause-data c = λ config slots.
    run_rests data_lines (length config.boards) no_lanes (λ n o. c.events_end_at_rest.ensures.data (length config.boards) n o) 0
    (observations config slots)

pub returns-clause-upper : goal.returns-clause-upper
returns-clause-upper c = λ config slots.
    run_rests upper_data_lines (length config.boards) no_lanes (λ n o. c.events_end_at_rest.ensures.upper (length config.boards) n o) 0
    (observations config slots)

pub returns-clause-grants : goal.returns-clause-grants
returns-clause-grants c = λ config slots board there.
    run_rests (grant_lines_in board) (length config.boards) (Grants 15)
    (λ n o. c.events_end_at_rest.ensures.grants (length config.boards) n o board there) 0 (observations config slots)

pub returns-clause-ports : goal.returns-clause-ports
returns-clause-ports c = λ config slots board variable there is.
    run_rests (code_of variable) (length config.boards) Low
    (λ n o. c.events_end_at_rest.ensures.ports (length config.boards) n o board variable there is) 0 (observations config slots)
