use Rattle.std.proofs.Common.{◌+◌, ap, sym, ◌∙◌, length}
use Rattle.vme_trace.specs.declared.dump.change.Value.{Value}
use Rattle.vme_trace.specs.declared.dump.change.Value.TheVariants.{High}
use Rattle.vme_trace.specs.Events.{event_changes}
use Rattle.vme_trace.specs.Shown.{value_at}
use Rattle.vme_trace_laws.proofs.turns.Rests.{run_rests}
use Rattle.vme_trace_laws.proofs.turns.RunStrobes.{strobe_after_run, own_transfer, strobe_before_event, low_within, low_in_run}
use Rattle.vme_trace_laws.proofs.turns.BusStrobes.{low_driven}
use Rattle.vme_trace_laws.proofs.strobes.the_address_strobe_stays_low_in_a_transfer.Goals as goal

pub returns-clause-after : goal.returns-clause-after
returns-clause-after c = λ config slots lawful. strobe_after_run config lawful slots

pub returns-clause-own : goal.returns-clause-own
returns-clause-own c = λ config slots events later o t lawful whole first. own_transfer config lawful slots events later o whole t first

pub returns-clause-before : goal.returns-clause-before
returns-clause-before c = λ config slots events later o t lawful whole first. strobe_before_event config lawful slots events later o whole t first

pub returns-clause-between : goal.returns-clause-between
returns-clause-between c = λ config slots events later o a b k lawful whole first second.
    low_within config lawful slots events later o whole a b k first second

pub returns-clause-strobe : goal.returns-clause-strobe
returns-clause-strobe c = λ config slots events later o line k lawful whole is low.
    low_in_run config lawful slots events later o whole k
    (c.events_keep_the_rules.ensures.strobe (length config.boards) (length events + 1) o line k is
    (sym (ap (λ (v : Value). value_at line (event_changes (length config.boards) (length events + 1) o) v k)
    (run_rests line (length config.boards) High (λ n e. c.events_end_at_rest.ensures.strobes (length config.boards) n e line is) 0 events)) ∙ low))

pub returns-clause-busy : goal.returns-clause-busy
returns-clause-busy c = λ config slots events later o k lawful whole low. low_driven config lawful slots events later o whole k low
