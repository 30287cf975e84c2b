-- Lines whose requests over the bus are refused: their replies are recorded without a task.
use Rattle.std.proofs.Common.{◌≡◌, ℕ, ◌+◌, List, Some, None, Err, refl, sym}
use Rattle.std.specs.Prelude.{map, slice_get, slice_set, slice_index_or}
use Rattle.vme_cycle.specs.declared.fault.CycleFault.{CycleFault}
use Rattle.vme_cycle.specs.declared.request.Request.{Request}
use Rattle.vme_cycle.specs.Lawful.{first_refusal, transfer_of}
use Rattle.vme_core.specs.Runs.{Machine}
use Rattle.vme_core.specs.NextSteps.{Returns}
use Rattle.vme_shared.specs.declared.reply.LineReply.{LineReply}
use Rattle.vme_shared.specs.declared.reply.LineReply.TheVariants.{Refused}
use Rattle.vme_grammar.specs.declared.line.Line.{Line}
use Rattle.vme_grammar.specs.declared.line.Line.TheVariants as lines
use Rattle.vme_script.specs.declared.script.ScriptLine.{ScriptLine}
use Rattle.vme_script.specs.Configurations.{Configuration}
use Rattle.vme_line_task.specs.Scripts.{lines_at, script_at}
use Rattle.vme_line_task.specs.Machine.{line_started, line_to_do}
use Rattle.vme_stepper.specs.Steppers.{line_begun, processor_turn}
use Rattle.vme_stepper.specs.Lines.{processor_begun, bus_refusal}
use Rattle.vme_stepper.proofs.Turning.{turn_answered}
use Rattle.vme_stepper.proofs.Beginning.{begun_answered}

-- a request with a refusal has no transfer
no_transfer : (request : Request) (fault : CycleFault) → first_refusal request ≡ Some fault → transfer_of request ≡ Err fault
unfolding transfer_of
no_transfer request fault refused = rw refused refl

-- the line of a request that is refused has ended with the refusal as its reply
refusal_ends : (config : Configuration) (board : ℕ) (line : Line) (fault : CycleFault) → bus_refusal line ≡ Some fault
    → line_to_do (line_begun config board line) ≡ Returns (Refused fault)
unfolding line_started
refusal_ends config board (lines.Bus request) fault refused = rw (no_transfer request fault refused) refl
refusal_ends config board (lines.Local cmd) fault refused = absurd (cc refused)
refusal_ends config board (lines.Await am addr bytes) fault refused = absurd (cc refused)
refusal_ends config board (lines.Lock am addr) fault refused = absurd (cc refused)
refusal_ends config board (lines.Unlock am addr) fault refused = absurd (cc refused)
refusal_ends config board (lines.Put box word) fault refused = absurd (cc refused)
refusal_ends config board (lines.Take box) fault refused = absurd (cc refused)

module _ (config : Configuration) (board : ℕ) (script : List ScriptLine) (lines : List (ℕ × LineReply)) (ended : ℕ) (line : Line)
    (fault : CycleFault) (of_board : script ≡ script_at config board)
    (found : slice_get (map (λ (one : ScriptLine). one.line) script) ended ≡ Some line) (refused : bus_refusal line ≡ Some fault) where
  -- the line is the next one of the board's processor
  is_next : slice_get (lines_at config board) ended ≡ Some line
  is_next = rw of_board at found

  -- the turn after the refusal was recorded is the turn before that
  pub turn_refused : (machine : Machine)
      → processor_turn config board machine
      (record { script = script; lines = slice_set lines ended ((slice_index_or lines ended (0, Refused fault)).0, Refused fault); ended = ended + 1; at = None })
      ≡ processor_turn config board machine (record { script = script; lines = lines; ended = ended; at = None })
  turn_refused machine =
      sym (turn_answered config board machine (record { script = script; lines = lines; ended = ended; at = None }) line (Refused fault) refl
      is_next (refusal_ends config board line fault refused))

  -- the lines that begin after the refusal was recorded are those that began before that
  pub begun_refused : processor_begun config board
      (record { script = script; lines = slice_set lines ended ((slice_index_or lines ended (0, Refused fault)).0, Refused fault); ended = ended + 1; at = None })
      ≡ processor_begun config board (record { script = script; lines = lines; ended = ended; at = None })
  begun_refused =
      sym (begun_answered config board (record { script = script; lines = lines; ended = ended; at = None }) line (Refused fault) refl is_next
      (refusal_ends config board line fault refused))
