-- A task whose caller makes its call, alone and as a part of another task.
use Rattle.std.proofs.Common.{◌≡◌, ◌≢◌, Option, Some, None, ap, subst, sym, ◌∙◌}
use Rattle.vme_core.specs.declared.event.EventReply.{EventReply}
use Rattle.vme_core.specs.Calls.{Call}
use Rattle.vme_core.specs.NextSteps.{NextStep, NotStarted, call_in, next_map}
use Rattle.vme_core.proofs.lemmas.NextSteps.{map_call, map_rests}
use Rattle.vme_master.specs.Callers.{HasCalled, AdvancesBy}

-- a task whose next call a caller made, and that was given the reply, has advanced by that call
pub event_called : {C T R : Type 0} (made : Call → EventReply → C → C → Type 0) (next : T → NextStep R) (advance : T → Option EventReply → T)
    (before after : C) (old new : T) (call : Call) (reply : EventReply)
    → Some call ≡ call_in (next old) → made call reply before after → new ≡ advance old (Some reply) → next new ≢ NotStarted
    → AdvancesBy made next advance before after old new
event_called made next advance before after old new call reply asks did is begun = record {
  step = subst (λ (asked : Option Call). HasCalled made advance asked before after old new) asks (reply, did, is);
  begun = λ first. begun;
}

-- if a whole makes the calls of its one part and returns the part's result, mapped, it advances as the part does
pub part_called : {C T U R S : Type 0} (made : Call → EventReply → C → C → Type 0) (whole : T → U) (f : R → S) (next : T → NextStep R)
    (next_whole : U → NextStep S) (advance : T → Option EventReply → T) (advance_whole : U → Option EventReply → U) (before after : C) (old new : T)
    → ((t : T) → next_whole (whole t) ≡ next_map f (next t))
    → ((t : T) (reply : Option EventReply) → advance_whole (whole t) reply ≡ whole (advance t reply))
    → AdvancesBy made next advance before after old new → AdvancesBy made next_whole advance_whole before after (whole old) (whole new)
part_called made whole f next next_whole advance advance_whole before after old new says goes it = record {
  step = rw (says old, map_call f (next old)) (by (call_in (next old)) it.step);
  begun = λ begun rests. it.begun (λ first. begun (says old ∙ ap (next_map f) first)) (map_rests f (next new) (sym (says new) ∙ rests));
}
  where
    by : (call : Option Call) → HasCalled made advance call before after old new
        → HasCalled made advance_whole call before after (whole old) (whole new)
    by None step = (step.0, ap whole step.1)
    by (Some call) step = (step.0, step.1, ap whole step.2 ∙ sym (goes old (Some step.0)))
