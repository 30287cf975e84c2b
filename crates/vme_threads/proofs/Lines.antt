-- A line of a script as a line task, event by event.
use Rattle.std.proofs.Common.{◌≡◌, ◌≢◌, ℕ, ◌<◌, [], ◌∷◌, ◌++◌, length, Option, Some, None, IfSome, refl, ap, sym, subst, ◌∙◌}
use Rattle.std.specs.List.{slice_get}
use Rattle.vme_core.specs.declared.event.EventReply.{EventReply}
use Rattle.vme_core.specs.Calls.{Call, call_of}
use Rattle.vme_core.specs.Runs.{move}
use Rattle.vme_core.specs.NextSteps.{NotStarted, call_in, result_in}
use Rattle.vme_shared.specs.declared.reply.LineReply.{LineReply}
use Rattle.vme_grammar.specs.declared.line.Line.{Line}
use Rattle.vme_script.specs.Configurations.{Configuration}
use Rattle.vme_line_task.specs.declared.task.LineTask.{LineTask}
use Rattle.vme_line_task.specs.Scripts.{lines_at}
use Rattle.vme_line_task.specs.Tables.{line_next}
use Rattle.vme_line_task.specs.Machine.{line_started, line_advance, line_to_do, IsLineBelow}
use Rattle.vme_line_task.specs.Events.{IsCallBelow}
use Rattle.vme_line_task.proofs.lemmas.Lines.{by_the_replies}
use Rattle.vme_core.proofs.lemmas.NextSteps.{in_makes, ends_so}
use Rattle.vme_line_task.proofs.lemmas.Below.{calls_below}
use Rattle.vme_line_task.proofs.lemmas.Traces.{goes-snoc}
use Rattle.vme_master.specs.Callers.{HasCalled, AdvancesBy}
use Rattle.vme_threads.specs.declared.processor_pass.ProcessorPass.{ProcessorPass}
use Rattle.vme_threads.specs.declared.ports.Ports.{Ports}
use Rattle.vme_threads.specs.ProcessorPasses.{MatchesPorts, AddsCall}
use Rattle.vme_threads.specs.Progress.{IsLineInProgress}
use Rattle.vme_threads.specs.Rans.{AddsLine}
use Rattle.vme_threads.proofs.Places.{element_at}
use Rattle.vme_threads.proofs.ProcessorPasses.{made_none, made_more, fits_after}

-- a line is in progress when its task has started, before its first event
pub line_start :
    (config : Configuration) (place : ℕ) (d : ProcessorPass) (fresh task : LineTask) → place < length (lines_at config d.who)
    → ((line : Line) → slice_get (lines_at config d.who) place ≡ Some line → fresh ≡ line_started config d.who line)
    → task ≡ line_advance fresh None → line_to_do task ≢ NotStarted → IsLineBelow (length config.boards) task
    → IsLineInProgress config place d d task
line_start config place d fresh task place< started advanced begun below =
    let found = element_at (lines_at config d.who) place place< in
    record {
      line = found.0;
      there = found.1;
      run = [];
      made = made_none d;
      replies = [];
      goes = refl;
      is = advanced ∙ ap (λ (t : LineTask). line_advance t None) (started found.0 found.1);
      begun = begun;
      below = below;
    }

-- what the task of a line in progress does next is what the line's table states
line_next_is :
    (config : Configuration) (place : ℕ) (d e : ProcessorPass) (task : LineTask) (at : IsLineInProgress config place d e task)
    → line_to_do task ≡ line_next config d.who at.line at.replies
line_next_is config place d e task at = ap line_to_do at.is ∙ by_the_replies config d.who at.line at.replies

-- a line is still in progress after one more event
pub line_more :
    (config : Configuration) (place : ℕ) (d e f : ProcessorPass) (call : Call) (reply : EventReply) (task new : LineTask)
    → IsLineInProgress config place d e task → Some call ≡ call_in (line_to_do task) → AddsCall call reply e f
    → new ≡ line_advance task (Some reply) → line_to_do new ≢ NotStarted → IsLineBelow (length config.boards) new
    → IsLineInProgress config place d f new
line_more config place d e f call reply task new at asks next advanced begun below =
    let event = next.event in
    record {
      line = at.line;
      there = at.there;
      run = at.run ++ move e.who event reply ∷ [];
      made = made_more at.run (move e.who event reply ∷ []) d e f at.made next.made;
      replies = reply ∷ at.replies;
      goes =
          goes-snoc config d.who at.line [] at.run at.replies (move e.who event reply) at.goes
          (sym (line_next_is config place d e task at) ∙ in_makes (line_to_do task) (call_of event) (ap Some next.calls ∙ asks));
      is = advanced ∙ ap (λ (t : LineTask). line_advance t (Some reply)) at.is;
      begun = begun;
      below = below;
    }

-- a line in progress whose task has ended has its reply
pub line_end :
    (config : Configuration) (place : ℕ) (d e : ProcessorPass) (task : LineTask) (answer : LineReply)
    → IsLineInProgress config place d e task
    → Some answer ≡ result_in (line_to_do task) → AddsLine config place answer d e
line_end config place d e task answer at is = record {
  line = at.line;
  there = at.there;
  is = record {
    run = at.run;
    made = at.made;
    trace = record {
      replies = at.replies;
      goes = at.goes;
      ends = sym (line_next_is config place d e task at) ∙ sym (ends_so (line_to_do task) answer is);
    };
  };
}

-- the next call of a line task whose boards exist goes to the arbiter or to one of these boards
pub call_there : (n : ℕ) (task : LineTask) (call : Call) → IsLineBelow n task → Some call ≡ call_in (line_to_do task)
    → IsCallBelow n call
call_there n task call below is = calls_below n task call below (in_makes (line_to_do task) call is)

-- the next call of a line whose boards exist can be made
pub line_can :
    (ports : Ports) (e : ProcessorPass) (task : LineTask) → MatchesPorts ports e → IsLineBelow e.boards task
    → IfSome (call_in (line_to_do task)) (λ call. MatchesPorts ports e × IsCallBelow e.boards call)
line_can ports e task fits below = by (call_in (line_to_do task)) refl
  where
    by : (asked : Option Call) → asked ≡ call_in (line_to_do task)
        → IfSome asked (λ call. MatchesPorts ports e × IsCallBelow e.boards call)
    by None is = tt
    by (Some call) is = (fits, call_there e.boards task call below is)

-- after the next call of a line, if it has one, the pass is of the same ports and the line's boards exist
pub line_fits :
    (ports : Ports) (e f : ProcessorPass) (task new : LineTask) → MatchesPorts ports e → IsLineBelow e.boards task
    → AdvancesBy AddsCall line_to_do line_advance e f task new → ((n : ℕ) → IsLineBelow n task → IsLineBelow n new)
    → MatchesPorts ports f × IsLineBelow f.boards new
line_fits ports e f task new fits there it below = by (call_in (line_to_do task)) it.step
  where
    by : (asked : Option Call) → HasCalled AddsCall line_advance asked e f task new → MatchesPorts ports f × IsLineBelow f.boards new
    by None step = (
      subst (MatchesPorts ports) (sym step.0) fits,
      subst (λ (x : ProcessorPass). IsLineBelow x.boards new) (sym step.0) (below e.boards there),
    )
    by (Some call) step = (
      fits_after ports _ e f step.1.made fits,
      subst (λ n. IsLineBelow n new) (sym step.1.made.boards) (below e.boards there),
    )

-- a line is still in progress after its next call, if it has one
pub line_called :
    (config : Configuration) (place : ℕ) (d e f : ProcessorPass) (task new : LineTask) → IsLineInProgress config place d e task
    → AdvancesBy AddsCall line_to_do line_advance e f task new → ((n : ℕ) → IsLineBelow n task → IsLineBelow n new)
    → IsLineInProgress config place d f new
line_called config place d e f task new at it below = by (call_in (line_to_do task)) refl it.step
  where
    by : (asked : Option Call) → asked ≡ call_in (line_to_do task) → HasCalled AddsCall line_advance asked e f task new
        → IsLineInProgress config place d f new
    by None is step =
        subst (λ (x : ProcessorPass). IsLineInProgress config place d x new) (sym step.0)
        (subst (λ (t : LineTask). IsLineInProgress config place d e t) (sym step.1) at)
    by (Some call) is step =
        line_more config place d e f call step.0 task new at is step.1 step.2 (it.begun at.begun) (below (length config.boards) at.below)
