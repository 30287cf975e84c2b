-- What a processor's turn does to the transfer that it is at.
use Rattle.std.proofs.Common.{◌≡◌, ℕ, List, [], ◌∷◌, Option, Some, None, refl, sym, subst, ◌∙◌}
use Rattle.std.specs.Option.{option_and_then}
use Rattle.vme_core.specs.declared.event.EventReply.{EventReply}
use Rattle.vme_core.specs.Runs.{Machine}
use Rattle.vme_core.specs.Calls.{machine_step}
use Rattle.vme_core.specs.NextSteps.{NextStep, NotStarted, Invokes, Returns}
use Rattle.vme_master.specs.Machine.{TaskView}
use Rattle.vme_shared.specs.declared.reply.LineReply.{LineReply}
use Rattle.vme_grammar.specs.declared.line.Line.{Line}
use Rattle.vme_script.specs.Configurations.{Configuration}
use Rattle.vme_line_task.specs.declared.task.LineTask.{LineTask}
use Rattle.vme_line_task.specs.Machine.{line_advance, line_to_do, line_after}
use Rattle.vme_stepper.specs.Steppers.{ProcessorView, processor_answered, processor_settled, processor_turn_by, line_begun, task_now, lines_turn, task_at}
use Rattle.vme_stepper.specs.Lines.{begun_by, lines_begun}
use Rattle.vme_trace_laws.proofs.turns.Views.{line_view, IsLike, like_same, like_back, like_on, like_idle}
use Rattle.vme_trace_laws.proofs.turns.LineViews.{line_ended, line_idle}

-- the transfer or the local command that a processor is at
abbrev pub view_in : ProcessorView → Option TaskView
view_in processor = option_and_then line_view processor.at

-- a processor with a task of its current line is like the task
settled_like : (processor : ProcessorView) (task : LineTask) (next : NextStep LineReply) → line_to_do task ≡ next
    → IsLike (view_in (processor_settled processor task next)) (line_view task)
settled_like processor task NotStarted is = like_same (line_view task)
settled_like processor task (Invokes call) is = like_same (line_view task)
settled_like processor task (Returns answer) is = like_idle None (line_view task) refl (line_ended task answer is)

module _ (config : Configuration) (board : ℕ) (machine : Machine) where
  -- what a task is at after its next step
  abbrev pub view_by : LineTask → NextStep LineReply → Option TaskView
  view_by task (Invokes call) = line_view (line_advance task (Some (machine_step machine board call).1))
  view_by task next = line_view task

  -- what a task, if there is one, is at after its next step
  abbrev pub view_with : Option LineTask → Option TaskView
  view_with None = None
  view_with (Some task) = view_by task (line_to_do task)

  -- a turn of a processor is the next step of the line that has begun
  pub record Goes (before after begun : ProcessorView) : Type 0 where
    pub kept : IsLike (view_in begun) (view_in before)
    pub went : IsLike (view_in after) (view_with begun.at)

  -- a turn of a processor with these lines left is the next step of the line that has begun
  abbrev pub LinesGo : List Line → ProcessorView → Type 0
  LinesGo lines processor = Goes processor (lines_turn config board lines machine processor).1 (lines_begun config board lines processor)

  -- a turn by the next step of a task
  goes_by : (processor : ProcessorView) (task : LineTask) (next : NextStep LineReply) (lines : List Line) → line_to_do task ≡ next
      → IsLike (line_view task) (view_in processor) → ((answer : LineReply) → LinesGo lines (processor_answered processor answer))
      → Goes processor (processor_turn_by machine board processor task next (λ now. lines_turn config board lines machine now)).1
      (begun_by processor task next (λ now. lines_begun config board lines now))
  goes_by processor task NotStarted lines is like after = record {
    kept = like;
    went = rw is (like_back (line_view task) (view_in processor) like);
  }
  goes_by processor task (Invokes call) lines is like after =
      let next = line_advance task (Some (machine_step machine board call).1) in record {
        kept = like;
        went = rw is (settled_like processor next (line_to_do next) refl);
      }
  goes_by processor task (Returns answer) lines is like after =
      let rest = after answer in
      let begun = lines_begun config board lines (processor_answered processor answer) in record {
        kept = like_on (view_in begun) None (view_in processor) rest.kept
            (like_idle None (view_in processor) refl (sym like.reply ∙ line_ended task answer is));
        went = rest.went;
      }

  -- a turn of a processor with this task of its next line, if it has started
  abbrev TaskGoes : Line → List Line → ProcessorView → Option LineTask → Type 0
  TaskGoes line lines processor at =
      let task = task_now config board line at in
      Goes processor (processor_turn_by machine board processor task (line_to_do task) (λ now. lines_turn config board lines machine now)).1
      (begun_by processor task (line_to_do task) (λ now. lines_begun config board lines now))

  -- a turn of a processor whose next line has not started
  idle_goes : (lines : List Line) (processor : ProcessorView) → processor.at ≡ None → LinesGo lines processor
  idle_goes [] processor none = record { kept = like_same (view_in processor); went = rw none (like_same None) }
  idle_goes (line ∷ lines) processor none =
      let task = line_begun config board line in
      subst (TaskGoes line lines processor) (sym none)
      (goes_by processor task (line_to_do task) lines refl
      (like_idle (line_view task) (view_in processor) (line_idle config board line) (rw none refl))
      (λ answer. idle_goes lines (processor_answered processor answer) refl))

  -- a turn of a processor whose next line has had these replies
  pub lines_go : (replies : List EventReply) (lines : List Line) (processor : ProcessorView) → processor.at ≡ task_at config board replies lines
      → LinesGo lines processor
  lines_go [] lines processor at = idle_goes lines processor at
  lines_go (reply ∷ replies) [] processor at = idle_goes [] processor at
  lines_go (reply ∷ replies) (line ∷ lines) processor at =
      let task = line_after config board line (reply ∷ replies) in
      subst (TaskGoes line lines processor) (sym at)
      (goes_by processor task (line_to_do task) lines refl (rw at (like_same (line_view task)))
      (λ answer. idle_goes lines (processor_answered processor answer) refl))
