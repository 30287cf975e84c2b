-- The current line begins: the replies of the lines before it are recorded.
use Rattle.std.proofs.Common.{◌≡◌, ℕ, ◌+◌, ◌<◌, ◌≤◌, List, length, Some, None, refl, ap, sym, ◌∙◌, arith}
use Rattle.std.specs.Prelude.{slice_get, slice_set, slice_index_or, Option, IfSome, is_some, true}
use Rattle.std.proofs.lemmas.List.{drop_all}
use Rattle.vme_core.specs.Calls.{Call}
use Rattle.vme_core.specs.NextSteps.{Invokes, Returns, MakesCall}
use Rattle.vme_core.proofs.lemmas.NextSteps.{its_call}
use Rattle.vme_shared.specs.declared.reply.LineReply.{LineReply}
use Rattle.vme_grammar.specs.declared.line.Line.{Line}
use Rattle.vme_script.specs.declared.script.ScriptLine.{ScriptLine}
use Rattle.vme_script.specs.Configurations.{Configuration}
use Rattle.vme_line_task.specs.declared.task.LineTask.{LineTask}
use Rattle.vme_line_task.specs.Scripts.{lines_at}
use Rattle.vme_line_task.specs.Machine.{line_started, line_advance, line_to_do}
use Rattle.vme_stepper.specs.Steppers.{ProcessorView, processor_answered, line_begun}
use Rattle.vme_stepper.specs.Lines.{processor_at, processor_begun}
use Rattle.vme_stepper.proofs.Turning.{next_first, line_there}

module _ (config : Configuration) (board : ℕ) where
  -- a line without a call passes
  pub begun_answered : (processor : ProcessorView) (line : Line) (answer : LineReply) → processor.at ≡ None → slice_get (lines_at config board) processor.ended ≡ Some line
      → line_to_do (line_begun config board line) ≡ Returns answer
      → processor_begun config board processor ≡ processor_begun config board (processor_answered processor answer)
  begun_answered processor line answer idle found ends = rw (next_first (lines_at config board) processor.ended line found) (rw idle (rw ends refl))

  -- a line with a call is at work
  begun_call : (processor : ProcessorView) (line : Line) (call : Call) → processor.at ≡ None → slice_get (lines_at config board) processor.ended ≡ Some line
      → line_to_do (line_begun config board line) ≡ Invokes call
      → processor_begun config board processor ≡ processor_at processor (line_begun config board line)
  begun_call processor line call idle found makes = rw (next_first (lines_at config board) processor.ended line found) (rw idle (rw makes refl))

  -- with no line left nothing changes
  pub begun_over : (processor : ProcessorView) → length (lines_at config board) ≤ processor.ended → processor_begun config board processor ≡ processor
  begun_over processor over = rw (drop_all processor.ended (lines_at config board) over) refl

  -- the current line stays at work
  pub begun_work : (script : List ScriptLine) (lines : List (ℕ × LineReply)) (ended : ℕ) (task : LineTask) (call : Call) → ended < length (lines_at config board)
      → line_to_do task ≡ Invokes call
      → record { script = script; lines = lines; ended = ended; at = Some task }
      ≡ processor_begun config board (record { script = script; lines = lines; ended = ended; at = Some task })
  begun_work script lines ended task call within makes =
      let found = line_there (lines_at config board) ended within in
      sym (rw (next_first (lines_at config board) ended found.0 found.1) (rw makes refl))

  -- a line that begins and makes a call is at work
  pub begun_begins : (script : List ScriptLine) (lines : List (ℕ × LineReply)) (ended : ℕ) (started task : LineTask) (call : Call) → ended < length (lines_at config board)
      → ((one : Line) → slice_get (lines_at config board) ended ≡ Some one → started ≡ line_started config board one)
      → task ≡ line_advance started None → Invokes call ≡ line_to_do task
      → record { script = script; lines = lines; ended = ended; at = Some task }
      ≡ processor_begun config board (record { script = script; lines = lines; ended = ended; at = None })
  begun_begins script lines ended started task call within starts goes todo =
      let found = line_there (lines_at config board) ended within in
      let begun : task ≡ line_begun config board found.0 = goes ∙ ap (λ (t : LineTask). line_advance t None) (starts found.0 found.1) in
      let idle : ProcessorView = record { script = script; lines = lines; ended = ended; at = None } in
      ap (processor_at idle) begun ∙ sym (begun_call idle found.0 call refl found.1 (ap line_to_do (sym begun) ∙ sym todo))

  -- the reply of a line that ends without a call is recorded
  pub begun_passes : (script : List ScriptLine) (lines : List (ℕ × LineReply)) (ended : ℕ) (started task : LineTask) (answer : LineReply) → ended < length (lines_at config board)
      → ((one : Line) → slice_get (lines_at config board) ended ≡ Some one → started ≡ line_started config board one)
      → task ≡ line_advance started None → Returns answer ≡ line_to_do task
      → processor_begun config board
      (record { script = script; lines = slice_set lines ended ((slice_index_or lines ended (0, answer)).0, answer); ended = ended + 1; at = None })
      ≡ processor_begun config board (record { script = script; lines = lines; ended = ended; at = None })
  begun_passes script lines ended started task answer within starts goes todo =
      let found = line_there (lines_at config board) ended within in
      let begun : task ≡ line_begun config board found.0 = goes ∙ ap (λ (t : LineTask). line_advance t None) (starts found.0 found.1) in
      sym (begun_answered (record { script = script; lines = lines; ended = ended; at = None }) found.0 answer refl found.1 (ap line_to_do (sym begun) ∙ sym todo))

  -- a current line stays the current one
  pub begun_current : (script : List ScriptLine) (lines : List (ℕ × LineReply)) (ended : ℕ) (at : Option LineTask)
      → IfSome at (λ task. (ended < length lines) × MakesCall (line_to_do task)) → is_some at ≡ true → length lines ≡ length (lines_at config board)
      → record { script = script; lines = lines; ended = ended; at = at }
      ≡ processor_begun config board (record { script = script; lines = lines; ended = ended; at = at })
  begun_current script lines ended None work some count = absurd (cc some)
  begun_current script lines ended (Some task) work some count =
      let call = its_call (line_to_do task) work.1 in
      begun_work script lines ended task call.0 (omega (arith, work.0, count)) (sym call.1)
