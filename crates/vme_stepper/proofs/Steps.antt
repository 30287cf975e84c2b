-- A turn makes at most one step.
use Rattle.std.proofs.Common.{◌≡◌, ℕ, zero, suc, ◌+◌, ◌-◌, ◌^◌, ◌≤◌, List, [], ◌∷◌, ◌++◌, length, map, Option, Some, None, refl, ap, sym, subst, ◌∙◌, arith}
use Rattle.std.specs.Prelude.{slice_get, slice_set, option_map}
use Rattle.std.proofs.lemmas.Option.{same_Some}
use Rattle.vme_memory.specs.Boards.{Board}
use Rattle.vme_core.specs.declared.event.Target.{Target}
use Rattle.vme_core.specs.declared.event.Target.TheVariants as at
use Rattle.vme_core.specs.CountedStates.{CountedState, fresh_count}
use Rattle.vme_core.specs.Runs.{Machine}
use Rattle.vme_core.specs.Calls.{Call, OnBoard, OnBus, board_after, machine_step, command_step, counted_step}
use Rattle.vme_core.specs.Machines.{steps_of}
use Rattle.vme_core.specs.NextSteps.{NextStep, NotStarted, Invokes, Returns}
use Rattle.vme_shared.specs.declared.reply.LineReply.{LineReply}
use Rattle.vme_memory.specs.Steps.{Command}
use Rattle.vme_grammar.specs.declared.line.Line.{Line}
use Rattle.vme_script.specs.Configurations.{Configuration, opening_memory}
use Rattle.vme_line_task.specs.Tables.{line_next}
use Rattle.vme_line_task.specs.Traces.{ScriptState}
use Rattle.vme_stepper.specs.Turns.{SystemState, script_state, turn_by, script_state_turn, lines_left, turn_in, turn_at, turn, board_in_slot, run, initial_state, state_after}
use Rattle.vme_stepper.specs.Steppers.{StepsWithin}
use Rattle.vme_stepper.proofs.Reported.{get_map}

-- a property of each element holds for each element after one of them is replaced, if it holds for the new one
pub set_each : {A : Type 0} (P : ℕ → A → Type 0) (xs : List A) (i k : ℕ) (new x : A) → ((j : ℕ) (y : A) → slice_get xs j ≡ Some y → P j y) → P i new
    → slice_get (slice_set xs i new) k ≡ Some x → P k x
set_each P [] i k new x each is found = each k x found
set_each P (y ∷ ys) zero zero new x each is found = subst (P 0) (same_Some _ _ found) is
set_each P (y ∷ ys) zero (suc k) new x each is found = each (suc k) x found
set_each P (y ∷ ys) (suc i) zero new x each is found = each zero x found
set_each P (y ∷ ys) (suc i) (suc k) new x each is found = set_each (λ j z. P (suc j) z) ys i k new x (λ j z there. each (suc j) z there) is found

-- a bound on steps also holds if it is made greater
pub steps_weaker : (n m : ℕ) (machine : Machine) → n ≤ m → StepsWithin n machine → StepsWithin m machine
steps_weaker n m machine more steps = record {
  boards = λ b counted found. let few = steps.boards b counted found in omega arith;
  bus = let few = steps.bus in omega arith;
}

-- a command to a board makes at most one step
board_steps : (n : ℕ) (machine : Machine) (who x : ℕ) (command : Option Command) (found : Option (CountedState Board)) → slice_get machine.boards x ≡ found
    → StepsWithin n machine → StepsWithin (n + 1) (board_after machine who x command found).0
board_steps n machine who x command None there steps = steps_weaker n (n + 1) machine (omega arith) steps
board_steps n machine who x command (Some board) there steps = record {
  boards = λ b counted found.
      set_each (λ j t. t.steps ≤ n + 1) machine.boards x b (counted_step command_step board who command).0 counted
      (λ j t at. let few = steps.boards j t at in omega arith)
      (let few = steps.boards x board there in omega arith) found;
  bus = let few = steps.bus in omega arith;
}

-- a call makes at most one step of an object
machine_steps : (n : ℕ) (machine : Machine) (who : ℕ) (call : Call) → StepsWithin n machine → StepsWithin (n + 1) (machine_step machine who call).0
machine_steps n machine who (OnBoard x command) steps = board_steps n machine who x command (slice_get machine.boards x) refl steps
machine_steps n machine who (OnBus cmd) steps = record {
  boards = λ b counted found. let few = steps.boards b counted found in omega arith;
  bus = let few = steps.bus in omega arith;
}

module _ (config : Configuration) where
  -- a turn by a next step makes at most one step, if the turns after a reply do
  line_steps : (n board : ℕ) (line : Line) (machine : Machine) (c : ScriptState) (next : NextStep LineReply) (after : ScriptState → Machine × ScriptState)
      → ((now : ScriptState) → StepsWithin (n + 1) (after now).0) → StepsWithin n machine
      → StepsWithin (n + 1) (turn_by config board line machine c next after).0
  line_steps n board line machine c NotStarted after others steps = steps_weaker n (n + 1) machine (omega arith) steps
  line_steps n board line machine c (Invokes call) after others steps = machine_steps n machine board call steps
  line_steps n board line machine c (Returns answer) after others steps = others (script_state (c.ended ++ answer ∷ []) [])

  -- a turn of a script state makes at most one step
  script_state_steps : (n board : ℕ) (lines : List Line) (machine : Machine) (c : ScriptState) → StepsWithin n machine
      → StepsWithin (n + 1) (script_state_turn config board lines machine c).0
  script_state_steps n board [] machine c steps = steps_weaker n (n + 1) machine (omega arith) steps
  script_state_steps n board (line ∷ lines) machine c steps =
      line_steps n board line machine c (line_next config board line c.replies) (λ now. script_state_turn config board lines machine now)
      (λ now. script_state_steps n board lines machine now steps) steps

  -- a turn of a processor, if there is one, makes at most one step
  in_steps : (n : ℕ) (system : SystemState) (board : ℕ) (found : Option ScriptState) → StepsWithin n system.machine
      → StepsWithin (n + 1) (turn_in config system board found).machine
  in_steps n system board None steps = steps_weaker n (n + 1) system.machine (omega arith) steps
  in_steps n system board (Some c) steps = script_state_steps n board (lines_left config board c) system.machine c steps

  -- a turn at the index of a board, if there is one, makes at most one step
  at_steps : (n : ℕ) (system : SystemState) (place : Option ℕ) → StepsWithin n system.machine → StepsWithin (n + 1) (turn_at config system place).machine
  at_steps n system None steps = steps_weaker n (n + 1) system.machine (omega arith) steps
  at_steps n system (Some board) steps = in_steps n system board (slice_get system.script_states board) steps

  -- a turn of a slot makes at most one step
  turn_steps : (n : ℕ) (system : SystemState) (slot : ℕ) → StepsWithin n system.machine → StepsWithin (n + 1) (turn config system slot).machine
  unfolding turn
  turn_steps n system slot steps = at_steps n system (board_in_slot config slot) steps

  -- turns of slots make at most as many steps as there are slots
  run_steps : (n : ℕ) (system : SystemState) (slots : List ℕ) → StepsWithin n system.machine → StepsWithin (length slots + n) (run config system slots).machine
  run_steps n system [] steps = steps_weaker n (0 + n) system.machine (omega arith) steps
  run_steps n system (slot ∷ slots) steps =
      steps_weaker (length slots + (n + 1)) (suc (length slots) + n) (run config (turn config system slot) slots).machine (omega arith)
      (run_steps (n + 1) (turn config system slot) slots (turn_steps n system slot steps))

  -- before the first turn there is no step
  fresh_steps : (memories : List Board) (b : ℕ) (counted : CountedState Board) (k : ℕ) → slice_get (map (fresh_count k) memories) b ≡ Some counted → counted.steps ≤ 0
  fresh_steps [] b counted k found = absurd (cc found)
  fresh_steps (memory ∷ memories) zero counted k found = let same = same_Some _ _ found in omega (arith, sym (ap (λ t. t.steps) same))
  fresh_steps (memory ∷ memories) (suc b) counted k found = fresh_steps memories b counted k found

  -- after at most `most` turns, no object has made more than `most` steps
  pub steps_after : (most : ℕ) (slots : List ℕ) → length slots ≤ most → StepsWithin most (state_after config slots).machine
  unfolding state_after
  steps_after most slots few =
      steps_weaker (length slots + 0) most (run config (initial_state config) slots).machine (omega arith)
      (run_steps 0 (initial_state config) slots
      (record { boards = λ b counted found. fresh_steps (map opening_memory config.boards) b counted (length config.boards) found; bus = omega arith }))

-- if no object has made more than 2 ^ 64 - 2 steps, no board has made 2 ^ 64 - 1
board_unspent : (machine : Machine) (board : ℕ) (found : Option (CountedState Board)) → slice_get machine.boards board ≡ found
    → StepsWithin (2 ^ 64 - 2) machine → option_map (λ t. t.steps) found ≡ Some (2 ^ 64 - 1) → ⊥
board_unspent machine board None is steps spent = cc
board_unspent machine board (Some t) is steps spent = let few = steps.boards board t is in let all = same_Some _ _ spent in omega arith

-- if no object has made more than 2 ^ 64 - 2 steps, none has made 2 ^ 64 - 1
pub none_spent : (machine : Machine) (target : Target) → StepsWithin (2 ^ 64 - 2) machine → steps_of machine target ≡ Some (2 ^ 64 - 1) → ⊥
none_spent machine (at.Board board) steps spent =
    board_unspent machine board (slice_get machine.boards board) refl steps (sym (get_map (λ t. t.steps) machine.boards board) ∙ spent)
none_spent machine at.Bus steps spent = let few = steps.bus in let all = same_Some _ _ spent in omega arith
