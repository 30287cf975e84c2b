-- Defines a line of a script whose task has begun.
use Rattle.std.specs.Prelude.{ℕ, ◌≡◌, ◌≢◌, List, [], length, Some, slice_get}
use Rattle.vme_core.specs.declared.event.EventReply.{EventReply}
use Rattle.vme_core.specs.Runs.{Transition}
use Rattle.vme_core.specs.NextSteps.{NotStarted}
use Rattle.vme_grammar.specs.declared.line.Line.{Line}
use Rattle.vme_script.specs.Configurations.{Configuration}
use Rattle.vme_line_task.specs.declared.task.LineTask.{LineTask}
use Rattle.vme_line_task.specs.Scripts.{lines_at}
use Rattle.vme_line_task.specs.Machine.{line_to_do, line_after, IsLineBelow}
use Rattle.vme_line_task.specs.Traces.{Continues}
use Rattle.vme_threads.specs.declared.processor_pass.ProcessorPass.{ProcessorPass}
use Rattle.vme_threads.specs.ProcessorPasses.{AddsTransitions}

-- the line at a place of the script is in progress: a run of its events was made, and `task` is the line's task after them
pub record IsLineInProgress (config : Configuration) (place : ℕ) (before now : ProcessorPass) (task : LineTask) : Type 0 where
  pub line : Line
  pub there : slice_get (lines_at config before.who) place ≡ Some line
  pub run : List Transition
  pub made : AddsTransitions run before now
  pub replies : List EventReply
  pub goes : Continues config before.who line [] run replies
  pub is : task ≡ line_after config before.who line replies
  pub begun : line_to_do task ≢ NotStarted
  pub below : IsLineBelow (length config.boards) task
