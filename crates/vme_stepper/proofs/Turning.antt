-- A turn of a processor, by its current line.
use Rattle.std.proofs.Common.{◌≡◌, ℕ, ◌+◌, ◌<◌, ◌≤◌, List, ◌∷◌, length, drop, Some, None, refl, ap, sym, subst, ◌∙◌, arith, inl, inr}
use Rattle.std.specs.Prelude.{slice_get, slice_set, slice_index_or}
use Rattle.std.proofs.lemmas.List.{drop_more, drop_all}
use Rattle.std.proofs.lemmas.Option.{slice_get_within, slice_get_cases, get_or_from_slice_get}
use Rattle.vme_core.specs.Runs.{Machine}
use Rattle.vme_core.specs.declared.event.EventReply.{EventReply}
use Rattle.vme_core.specs.Calls.{Call, machine_step}
use Rattle.vme_core.specs.NextSteps.{Invokes, Returns}
use Rattle.vme_shared.specs.declared.reply.LineReply.{LineReply}
use Rattle.vme_grammar.specs.declared.line.Line.{Line}
use Rattle.vme_script.specs.declared.script.ScriptLine.{ScriptLine}
use Rattle.vme_script.specs.Configurations.{Configuration}
use Rattle.vme_line_task.specs.declared.task.LineTask.{LineTask}
use Rattle.vme_line_task.specs.Scripts.{lines_at}
use Rattle.vme_line_task.specs.Machine.{line_started, line_advance, line_to_do}
use Rattle.vme_stepper.specs.Steppers.{ProcessorView, processor_answered, processor_settled, processor_called, line_begun, processor_turn}
use Rattle.vme_stepper.specs.Lines.{processor_at}

-- the next element of a list is the first of those that are left
pub next_first : {A : Type 0} → (lines : List A) (n : ℕ) (line : A) → slice_get lines n ≡ Some line → drop n lines ≡ line ∷ drop (n + 1) lines
next_first lines n line found =
    drop_more lines n line (slice_get_within lines n line found) ∙ ap (λ one. one ∷ drop (n + 1) lines) (get_or_from_slice_get lines n line line found)

-- an index below the length of a list has an element
pub line_there : (lines : List Line) (n : ℕ) → n < length lines → (line : Line) × (slice_get lines n ≡ Some line)
line_there lines n there = elim (slice_get_cases lines n).1 [ inl found ↦ (found.0, found.2) | inr past ↦ absurd (omega (arith, past.0)) ]

module _ (config : Configuration) (board : ℕ) (machine : Machine) where
  -- if the next line ends without a call, the turn is that of the lines after it
  pub turn_answered : (processor : ProcessorView) (line : Line) (answer : LineReply) → processor.at ≡ None → slice_get (lines_at config board) processor.ended ≡ Some line
      → line_to_do (line_begun config board line) ≡ Returns answer
      → processor_turn config board machine processor ≡ processor_turn config board machine (processor_answered processor answer)
  turn_answered processor line answer idle found ends = rw (next_first (lines_at config board) processor.ended line found) (rw idle (rw ends refl))

  -- if the next line starts with a call, the turn is that of a processor whose current line is started
  pub turn_begun : (processor : ProcessorView) (line : Line) (call : Call) → processor.at ≡ None → slice_get (lines_at config board) processor.ended ≡ Some line
      → line_to_do (line_begun config board line) ≡ Invokes call
      → processor_turn config board machine processor ≡ processor_turn config board machine (processor_at processor (line_begun config board line))
  turn_begun processor line call idle found makes = rw (next_first (lines_at config board) processor.ended line found) (rw idle (rw makes refl))

  -- the turn of a processor whose current line has started is the line's call
  pub turn_called : (processor : ProcessorView) (line : Line) (task : LineTask) (call : Call) → processor.at ≡ Some task
      → slice_get (lines_at config board) processor.ended ≡ Some line → line_to_do task ≡ Invokes call
      → processor_turn config board machine processor ≡ processor_called machine board processor task call
  turn_called processor line task call at found makes = rw (next_first (lines_at config board) processor.ended line found) (rw at (rw makes refl))

  -- if no line is left, a turn changes nothing
  pub turn_over : (processor : ProcessorView) → length (lines_at config board) ≤ processor.ended → processor_turn config board machine processor ≡ (machine, processor)
  turn_over processor over = rw (drop_all processor.ended (lines_at config board) over) refl

  -- the call of the current line, with the reply to it, is the turn
  pub turn_made : (after : Machine) (processor : ProcessorView) (task : LineTask) (call : Call) (reply : EventReply)
      → processor.at ≡ Some task → processor.ended < length (lines_at config board)
      → line_to_do task ≡ Invokes call → (after, reply) ≡ machine_step machine board call
      → (after, processor_settled processor (line_advance task (Some reply)) (line_to_do (line_advance task (Some reply)))) ≡ processor_turn config board machine processor
  turn_made after processor task call reply at within makes step =
      let found = line_there (lines_at config board) processor.ended within in
      ap (λ (s : Machine × EventReply). (s.0, processor_settled processor (line_advance task (Some s.1)) (line_to_do (line_advance task (Some s.1))))) step
      ∙ sym (turn_called processor found.0 task call at found.1 makes)

  -- if the current line makes another call next, the turn keeps its task
  pub turn_goes_on : (after : Machine) (processor : ProcessorView) (script : List ScriptLine) (lines : List (ℕ × LineReply)) (ended : ℕ) (task next : LineTask) (call then : Call) (reply : EventReply)
      → record { script = script; lines = lines; ended = ended; at = Some task } ≡ processor → length processor.lines ≡ length (lines_at config board) → ended < length lines
      → line_to_do task ≡ Invokes call → (after, reply) ≡ machine_step machine board call → next ≡ line_advance task (Some reply) → Invokes then ≡ line_to_do next
      → (after, record { script = script; lines = lines; ended = ended; at = Some next }) ≡ processor_turn config board machine processor
  turn_goes_on after processor script lines ended task next call then reply is count within makes step goes todo =
      let own : ProcessorView = record { script = script; lines = lines; ended = ended; at = Some task } in
      let all : length own.lines ≡ length (lines_at config board) = subst (λ (l : ProcessorView). length l.lines ≡ length (lines_at config board)) (sym is) count in
      let settles : processor_settled own (line_advance task (Some reply)) (line_to_do (line_advance task (Some reply))) ≡ record { script = script; lines = lines; ended = ended; at = Some next }
      = rw (← goes) (rw (← todo) refl) in
      ap (λ (l : ProcessorView). (after, l)) (sym settles) ∙ turn_made after own task call reply refl (omega (arith, all)) makes step
      ∙ ap (λ (l : ProcessorView). processor_turn config board machine l) is

  -- if the current line ends, the turn records its reply
  pub turn_ends : (after : Machine) (processor : ProcessorView) (script : List ScriptLine) (lines : List (ℕ × LineReply)) (ended : ℕ) (task next : LineTask) (call : Call) (answer : LineReply)
      (reply : EventReply) → record { script = script; lines = lines; ended = ended; at = Some task } ≡ processor → length processor.lines ≡ length (lines_at config board)
      → ended < length lines → line_to_do task ≡ Invokes call → (after, reply) ≡ machine_step machine board call → next ≡ line_advance task (Some reply)
      → Returns answer ≡ line_to_do next
      → (after, record { script = script; lines = slice_set lines ended ((slice_index_or lines ended (0, answer)).0, answer); ended = ended + 1; at = None })
      ≡ processor_turn config board machine processor
  turn_ends after processor script lines ended task next call answer reply is count within makes step goes todo =
      let own : ProcessorView = record { script = script; lines = lines; ended = ended; at = Some task } in
      let all : length own.lines ≡ length (lines_at config board) = subst (λ (l : ProcessorView). length l.lines ≡ length (lines_at config board)) (sym is) count in
      let settles : processor_settled own (line_advance task (Some reply)) (line_to_do (line_advance task (Some reply))) ≡ processor_answered own answer
      = rw (← goes) (rw (← todo) refl) in
      ap (λ (l : ProcessorView). (after, l)) (sym settles) ∙ turn_made after own task call reply refl (omega (arith, all)) makes step
      ∙ ap (λ (l : ProcessorView). processor_turn config board machine l) is

  -- if the next line starts with a call, the turn with its task is the turn without a task
  pub turn_begins : (script : List ScriptLine) (lines : List (ℕ × LineReply)) (ended : ℕ) (started task : LineTask) (call : Call) → ended < length (lines_at config board)
      → ((one : Line) → slice_get (lines_at config board) ended ≡ Some one → started ≡ line_started config board one)
      → task ≡ line_advance started None → Invokes call ≡ line_to_do task
      → processor_turn config board machine (record { script = script; lines = lines; ended = ended; at = Some task })
      ≡ processor_turn config board machine (record { script = script; lines = lines; ended = ended; at = None })
  turn_begins script lines ended started task call within starts goes todo =
      let found = line_there (lines_at config board) ended within in
      let begun : task ≡ line_begun config board found.0 = goes ∙ ap (λ (t : LineTask). line_advance t None) (starts found.0 found.1) in
      let idle : ProcessorView = record { script = script; lines = lines; ended = ended; at = None } in
      ap (λ (t : LineTask). processor_turn config board machine (processor_at idle t)) begun
      ∙ sym (turn_begun idle found.0 call refl found.1 (ap line_to_do (sym begun) ∙ sym todo))

  -- if the next line ends without a call, the turn after its reply was recorded is the turn before that
  pub turn_passes : (script : List ScriptLine) (lines : List (ℕ × LineReply)) (ended : ℕ) (started task : LineTask) (answer : LineReply) → ended < length (lines_at config board)
      → ((one : Line) → slice_get (lines_at config board) ended ≡ Some one → started ≡ line_started config board one)
      → task ≡ line_advance started None → Returns answer ≡ line_to_do task
      → processor_turn config board machine
      (record { script = script; lines = slice_set lines ended ((slice_index_or lines ended (0, answer)).0, answer); ended = ended + 1; at = None })
      ≡ processor_turn config board machine (record { script = script; lines = lines; ended = ended; at = None })
  turn_passes script lines ended started task answer within starts goes todo =
      let found = line_there (lines_at config board) ended within in
      let begun : task ≡ line_begun config board found.0 = goes ∙ ap (λ (t : LineTask). line_advance t None) (starts found.0 found.1) in
      sym (turn_answered (record { script = script; lines = lines; ended = ended; at = None }) found.0 answer refl found.1 (ap line_to_do (sym begun) ∙ sym todo))
