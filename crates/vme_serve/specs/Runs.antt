-- A line of a session as a line of a script, which `vme step` runs turn by turn.
use Rattle.std.specs.Prelude.{ℕ, ◌≡◌, List, [], ◌∷◌, ◌++◌, replicate, slice_get, slice_set, Some}
use Rattle.vme_core.specs.Runs.{Machine}
use Rattle.vme_shared.specs.declared.reply.LineReply.{LineReply}
use Rattle.vme_grammar.specs.declared.line.Line.{Line}
use Rattle.vme_script.specs.declared.script.ScriptLine.{ScriptLine}
use Rattle.vme_script.specs.Configurations.{Configuration}
use Rattle.vme_line_task.specs.Scripts.{slot_at}
use Rattle.vme_stepper.specs.Turns.{SystemState, script_state, lines_left, run}

-- the configuration of a file with other scripts and one attempt at each line
abbrev pub with_scripts : Configuration → List (List ScriptLine) → Configuration
with_scripts config scripts = record config { scripts = scripts; tries = 1 }

-- a line is the next one of the script of a board's processor, which has made no call of it and ended these lines before
pub record IsNext (file : Configuration) (board : ℕ) (line : Line) (ended : List LineReply) (system : SystemState) : Type 0 where
  pub state : slice_get system.script_states board ≡ Some (script_state ended [])
  pub more : List Line
  pub left : lines_left file board (script_state ended []) ≡ line ∷ more

-- a system after a processor's next line has ended with a reply, which led to this machine
abbrev pub with_reply : SystemState → ℕ → List LineReply → LineReply → Machine → SystemState
with_reply system board ended reply machine = record {
  machine = machine;
  script_states = slice_set system.script_states board (script_state (ended ++ reply ∷ []) []);
}

-- turns of a processor's slot alone lead from one system to another
pub record IsRunOfSlot (file : Configuration) (board : ℕ) (before after : SystemState) : Type 0 where
  pub turns : ℕ
  pub run_is : run file before (replicate turns (slot_at file board)) ≡ after
