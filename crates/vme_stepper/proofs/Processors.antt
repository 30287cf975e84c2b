-- A turn of a processor is the turn of its script state.
use Rattle.std.proofs.Common.{◌≡◌, ℕ, ◌<◌, List, [], ◌∷◌, ◌++◌, length, drop, refl, ap, sym, ◌∙◌, arith}
use Rattle.std.proofs.lemmas.List.{drop-drop, length_push, length-map, length-drop}
use Rattle.vme_core.specs.declared.event.EventReply.{EventReply}
use Rattle.vme_core.specs.Runs.{Machine}
use Rattle.vme_core.specs.Calls.{machine_step}
use Rattle.vme_core.specs.NextSteps.{NextStep, NotStarted, Invokes, Returns}
use Rattle.vme_shared.specs.declared.reply.LineReply.{LineReply}
use Rattle.vme_grammar.specs.declared.line.Line.{Line}
use Rattle.vme_script.specs.Configurations.{Configuration}
use Rattle.vme_line_task.specs.Scripts.{lines_at, script_at}
use Rattle.vme_line_task.specs.Tables.{line_next}
use Rattle.vme_line_task.specs.Machine.{line_after}
use Rattle.vme_line_task.specs.Traces.{ScriptState}
use Rattle.vme_stepper.specs.Turns.{script_state, settled, turn_by, script_state_turn, lines_left}
use Rattle.vme_stepper.specs.Reports.{numbered_replies}
use Rattle.vme_stepper.specs.Steppers.{ProcessorView, processor_answered, processor_settled, processor_turn_by, task_now, lines_turn, processor_turn, task_at, processor_of}
use Rattle.vme_line_task.proofs.lemmas.Lines.{by_the_replies}
use Rattle.vme_stepper.proofs.Reported.{reported_more}

module _ (config : Configuration) (board : ℕ) where
  -- if a line is left, its index is within the script
  within : (n : ℕ) (line : Line) (lines : List Line) → drop n (lines_at config board) ≡ line ∷ lines → n < length (script_at config board)
  within n line lines left =
      omega (arith, ap length left, length-drop n (lines_at config board), length-map (script_at config board) (λ one. one.line))

  -- after one more reply, the lines after the next one are left
  left_after : (ended : List LineReply) (answer : LineReply) (line : Line) (lines : List Line) → drop (length ended) (lines_at config board) ≡ line ∷ lines
      → drop (length (ended ++ answer ∷ [])) (lines_at config board) ≡ lines
  left_after ended answer line lines left =
      ap (λ n. drop n (lines_at config board)) (length_push ended answer) ∙ sym (drop-drop 1 (length ended) (lines_at config board)) ∙ ap (λ ls. drop 1 ls) left

  -- a processor with one more recorded reply is that of the script state with this reply
  answered_is : (processor : ProcessorView) (ended : List LineReply) (answer : LineReply) (line : Line) (lines : List Line)
      → drop (length ended) (lines_at config board) ≡ line ∷ lines → processor.script ≡ script_at config board
      → processor.lines ≡ numbered_replies (script_at config board) ended → processor.ended ≡ length ended
      → processor_answered processor answer ≡ processor_of config board (script_state (ended ++ answer ∷ []) [])
  answered_is processor ended answer line lines left script reported count =
      rw (script, reported, count, reported_more (script_at config board) ended answer (within (length ended) line lines left), length_push ended answer) refl

  -- a processor with its task after a reply is that of the script state with this reply
  settled_is : (processor : ProcessorView) (ended : List LineReply) (reply : EventReply) (replies : List EventReply) (line : Line) (lines : List Line) (next : NextStep LineReply)
      → drop (length ended) (lines_at config board) ≡ line ∷ lines → processor.script ≡ script_at config board
      → processor.lines ≡ numbered_replies (script_at config board) ended → processor.ended ≡ length ended
      → processor_settled processor (line_after config board line (reply ∷ replies)) next ≡ processor_of config board (settled ended (reply ∷ replies) next)
  settled_is processor ended reply replies line lines (Returns answer) left script reported count = answered_is processor ended answer line lines left script reported count
  settled_is processor ended reply replies line lines (Invokes call) left script reported count = rw (script, reported, count, left) refl
  settled_is processor ended reply replies line lines NotStarted left script reported count = rw (script, reported, count, left) refl

  -- the machine and the processor of a script state
  abbrev with_processor : Machine × ScriptState → Machine × ProcessorView
  with_processor next = (next.0, processor_of config board next.1)

  -- the task of the next line, after the replies of the script state
  task_is : (c : ScriptState) (line : Line) (lines : List Line) → lines_left config board c ≡ line ∷ lines
      → task_now config board line (processor_of config board c).at ≡ line_after config board line c.replies
  task_is c line lines left = by_replies c.replies refl
    where
      by_replies : (replies : List EventReply) → c.replies ≡ replies
          → task_now config board line (task_at config board replies (lines_left config board c)) ≡ line_after config board line replies
      by_replies [] are = refl
      by_replies (reply ∷ replies) are = rw left refl

  -- a turn by the next step of a task is the turn by the next step of its line, if the turns after a reply agree
  next_is : (machine : Machine) (c : ScriptState) (line : Line) (lines : List Line) (next : NextStep LineReply) (processor_after : ProcessorView → Machine × ProcessorView)
      (script_state_after : ScriptState → Machine × ScriptState) → lines_left config board c ≡ line ∷ lines
      → ((answer : LineReply) → processor_after (processor_of config board (script_state (c.ended ++ answer ∷ []) [])) ≡ with_processor (script_state_after (script_state (c.ended ++ answer ∷ []) [])))
      → processor_turn_by machine board (processor_of config board c) (line_after config board line c.replies) next processor_after
      ≡ with_processor (turn_by config board line machine c next script_state_after)
  next_is machine c line lines NotStarted processor_after script_state_after left same = refl
  next_is machine c line lines (Returns answer) processor_after script_state_after left same =
      ap processor_after (answered_is (processor_of config board c) c.ended answer line lines left refl refl refl) ∙ same answer
  next_is machine c line lines (Invokes call) processor_after script_state_after left same =
      let step = machine_step machine board call in
      rw (by_the_replies config board line (step.1 ∷ c.replies))
      (ap (λ processor. (step.0, processor))
      (settled_is (processor_of config board c) c.ended step.1 c.replies line lines (line_next config board line (step.1 ∷ c.replies)) left refl refl refl))

  -- a turn of a processor with these lines left is that of its script state
  pub lines_is : (lines : List Line) (machine : Machine) (c : ScriptState) → lines_left config board c ≡ lines
      → lines_turn config board lines machine (processor_of config board c) ≡ with_processor (script_state_turn config board lines machine c)
  lines_is [] machine c left = refl
  lines_is (line ∷ lines) machine c left =
      rw (task_is c line lines left)
      (rw (by_the_replies config board line c.replies)
      (next_is machine c line lines (line_next config board line c.replies) (λ now. lines_turn config board lines machine now)
      (λ now. script_state_turn config board lines machine now) left
      (λ answer. lines_is lines machine (script_state (c.ended ++ answer ∷ []) []) (left_after c.ended answer line lines left))))

  -- a turn of a processor is that of its script state
  pub turn_is : (machine : Machine) (c : ScriptState)
      → processor_turn config board machine (processor_of config board c) ≡ with_processor (script_state_turn config board (lines_left config board c) machine c)
  turn_is machine c = lines_is (lines_left config board c) machine c refl
