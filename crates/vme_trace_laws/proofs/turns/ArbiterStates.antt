-- The arbiter's state stays orderly; the slots and the levels of lawful boards.
use Rattle.std.proofs.Common.{◌≡◌, ℕ, zero, suc, ◌<◌, true, List, [], ◌∷◌, length, map, get_or, Some, refl, sym, subst, arith}
use Rattle.std.specs.Prelude.{slice_get}
use Rattle.std.proofs.lemmas.Bool.{and_from, le-leb, lt-ltb}
use Rattle.vme_arbiter.specs.Requests.{is_slot, is_level}
use Rattle.vme_arbiter.specs.Arbitration.{Arbitration}
use Rattle.vme_arbiter.specs.Orderly as arbiter
use Rattle.vme_arbiter.proofs.lemmas.Orderly.{orderly-step}
use Rattle.vme_core.specs.declared.event.EventReply.{EventReply}
use Rattle.vme_core.specs.CountedStates.{CountedState}
use Rattle.vme_core.specs.Runs.{Machine}
use Rattle.vme_core.specs.Calls.{Call, OnBoard, OnBus, machine_step}
use Rattle.vme_script.specs.declared.board.BoardConfig.{BoardConfig}
use Rattle.vme_script.specs.Configurations.{Configuration}
use Rattle.vme_script.specs.Lawful.{IsLawfulBoard, IsLawful}
use Rattle.vme_line_task.specs.Scripts.{slot_at, level_at}
use Rattle.vme_trace.specs.declared.observation.Observation.{Observation}
use Rattle.vme_trace_laws.specs.Steps.{IsStepShown}
use Rattle.vme_trace_laws.proofs.turns.Busy.{board_bus}
use Rattle.vme_trace_laws.proofs.turns.Numbers.{level_below}

-- each call keeps the arbiter's state orderly
call_orderly : (machine : Machine) (who : ℕ) (call : Call) → arbiter.IsOrderly machine.bus.object → arbiter.IsOrderly (machine_step machine who call).0.bus.object
call_orderly machine who (OnBus cmd) is = orderly-step machine.bus.object cmd is
call_orderly machine who (OnBoard x command) is =
    subst (λ (bus : CountedState Arbitration). arbiter.IsOrderly bus.object) (sym (board_bus machine who x command (slice_get machine.boards x))) is

-- each event keeps the arbiter's state orderly
pub step_orderly : (config : Configuration) (before after : Machine) (o : Observation) → IsStepShown config before o after
    → arbiter.IsOrderly before.bus.object → arbiter.IsOrderly after.bus.object
step_orderly config before after o step is =
    subst (λ (p : Machine × EventReply). arbiter.IsOrderly p.0.bus.object) (sym step.step) (call_orderly before o.board step.call is)

-- the slots of lawful boards are those of a backplane
slots_within : (boards : List BoardConfig) → ((i : ℕ) (board : BoardConfig) → slice_get boards i ≡ Some board → IsLawfulBoard board)
    → (i : ℕ) → i < length boards → is_slot (get_or (map (λ board. board.slot) boards) i 0) ≡ true
slots_within [] each i inside = absurd (omega (arith, inside))
slots_within (board ∷ boards) each zero inside =
    let one = each 0 board refl in
    and_from _ _ (le-leb 1 board.slot one.first_slot) (le-leb board.slot 21 one.last_slot)
slots_within (board ∷ boards) each (suc i) inside =
    slots_within boards (λ j other found. each (suc j) other found) i (omega (arith, inside))

-- the slot of a board is one of a backplane
pub slot_ok : (config : Configuration) → IsLawful config → (board : ℕ) → board < length config.boards → is_slot (slot_at config board) ≡ true
slot_ok config lawful board there = slots_within config.boards lawful.boards board there

-- the level of a board is one of the four
pub level_ok : (config : Configuration) → IsLawful config → (board : ℕ) → is_level (level_at config board) ≡ true
level_ok config lawful board = let below = level_below config lawful board in lt-ltb (level_at config board) 4 (omega (arith, below))
