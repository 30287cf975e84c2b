-- A task that makes its own call as a part of another task.
use Rattle.std.proofs.Common.{◌≡◌, ℕ, Option, Some, None, ap, sym, ◌∙◌}
use Rattle.vme_core.specs.declared.event.EventReply.{EventReply}
use Rattle.vme_core.specs.Runs.{Machine}
use Rattle.vme_core.specs.Calls.{Call, machine_step}
use Rattle.vme_core.specs.NextSteps.{NextStep, call_in, next_map}
use Rattle.vme_core.specs.Advances.{advanced_on, AdvancesOn}
use Rattle.vme_core.proofs.lemmas.NextSteps.{map_call, map_rests}

-- if a whole makes the calls of its one part and returns the part's result, mapped, it advances as the part does
pub part_advances : {T U R S : Type 0} (whole : T → U) (f : R → S) (next : T → NextStep R) (next_whole : U → NextStep S)
    (advance : T → Option EventReply → T) (advance_whole : U → Option EventReply → U) (who : ℕ) (before after : Machine) (old new : T)
    → ((t : T) → next_whole (whole t) ≡ next_map f (next t))
    → ((t : T) (reply : Option EventReply) → advance_whole (whole t) reply ≡ whole (advance t reply))
    → AdvancesOn next advance who before after old new → AdvancesOn next_whole advance_whole who before after (whole old) (whole new)
part_advances {T} whole f next next_whole advance advance_whole who before after old new says goes it = record {
  step = rw (says old, map_call f (next old)) (by (call_in (next old)) it.step);
  begun = λ begun rests. it.begun (λ first. begun (says old ∙ ap (next_map f) first)) (map_rests f (next new) (sym (says new) ∙ rests));
  boards = it.boards;
  process_count = it.process_count;
}
  where
    by : (call : Option Call) → (after, new) ≡ advanced_on advance call who before old
        → (after, whole new) ≡ advanced_on advance_whole call who before (whole old)
    by None step = ap (λ (r : Machine × T). (r.0, whole r.1)) step
    by (Some call) step =
        ap (λ (r : Machine × T). (r.0, whole r.1)) step
        ∙ ap (λ t. ((machine_step before who call).0, t)) (sym (goes old (Some (machine_step before who call).1)))
