-- The states of all processors through a run of turns.
use Rattle.std.proofs.Common.{◌≡◌, ◌≢◌, ℕ, ◌<◌, List, [], ◌∷◌, length, map, Option, Some, None, refl, ap, sym, subst, ◌∙◌, inl, inr, ◌⊎◌, arith}
use Rattle.std.specs.Prelude.{slice_get, slice_set, option_map}
use Rattle.std.specs.Option.{option_map_or}
use Rattle.std.proofs.lemmas.Bool.Decides.{eqb_tells}
use Rattle.std.proofs.lemmas.List.{length-set, length-map}
use Rattle.std.proofs.lemmas.Option.{slice_get_within, slice_get-map}
use Rattle.vme_arbiter.specs.declared.command.ArbReply.TheVariants as arb_replies
use Rattle.vme_arbiter.specs.Arbitration.{opening_bus}
use Rattle.vme_arbiter.specs.Orderly.{IsOrderly}
use Rattle.vme_arbiter.proofs.lemmas.Orderly.{orderly-opening}
use Rattle.vme_memory.specs.Steps.{Command}
use Rattle.vme_core.specs.declared.event.EventReply.TheVariants as replies
use Rattle.vme_core.specs.Runs.{Machine}
use Rattle.vme_core.specs.Calls.{Call, OnBoard, machine_step}
use Rattle.vme_script.specs.Configurations.{Configuration}
use Rattle.vme_script.specs.declared.script.ScriptLine.{ScriptLine}
use Rattle.vme_script.specs.Lawful.{IsLawful}
use Rattle.vme_line_task.specs.Scripts.{slot_at}
use Rattle.vme_line_task.specs.Traces.{ScriptState}
use Rattle.vme_line_task.specs.Tenures.{IsLocal}
use Rattle.vme_stepper.specs.Turns.{SystemState, script_state, script_state_turn, lines_left, turn_in, turn_at, board_in_slot, turn, run, initial_state, state_after}
use Rattle.vme_runner.specs.TurnCalls.{first_call, script_state_call, place_call, turn_call}
use Rattle.vme_runner.proofs.Places.{set_same, set_other, slots_apart, place_is, left_own}
use Rattle.vme_runner.proofs.Standing.{ScriptStands, rests_standing}
use Rattle.vme_runner.proofs.Turned.{Stays, script_state_stays, first_is, HoldsFor, call_holds, replied_granted, machine_called, script_state_made}

-- the arbiter's state is orderly, and the state of each processor's slot agrees with the replies to the processor
pub record AllStand (config : Configuration) (system : SystemState) : Type 0 where
  pub orderly : IsOrderly system.machine.bus.object
  pub count : length system.script_states ≡ length config.boards
  pub each : (b : ℕ) (c : ScriptState) → slice_get system.script_states b ≡ Some c
      → ScriptStands config system.machine.bus.object b c

-- each script state is the state of a board's processor
within : (config : Configuration) (system : SystemState) (b : ℕ) (c : ScriptState) → AllStand config system
    → slice_get system.script_states b ≡ Some c
    → b < length config.boards
within config system b c stand found = subst (λ (n : ℕ). b < n) stand.count (slice_get_within system.script_states b c found)

-- a turn of a board's processor keeps `AllStand`
by_script_state : (config : Configuration) (system : SystemState) (board : ℕ) (found : Option ScriptState) → IsLawful config
    → AllStand config system
    → board < length config.boards → slice_get system.script_states board ≡ found
    → AllStand config (turn_in config system board found)
by_script_state config system board None lawful stand there is = stand
by_script_state config system board (Some c) lawful stand there is = record {
  orderly = stays.orderly;
  count = length-set system.script_states board next.1 ∙ stand.count;
  each = each;
}
  where
    next : Machine × ScriptState
    next = script_state_turn config board (lines_left config board c) system.machine c

    stays : Stays config board system.machine.bus.object next
    stays = script_state_stays config lawful board there (lines_left config board c) system.machine c refl stand.orderly (stand.each board c is)

    other : (b : ℕ) (one : ScriptState) → b ≢ board → slice_get system.script_states b ≡ Some one
        → ScriptStands config next.0.bus.object b one
    other b one apart at =
        let was = stand.each b one at in
        record {
          stands = stays.others (slot_at config b) _
              (slots_apart config board b lawful there (within config system b one stand at) (λ same. apart (sym same))) was.stands;
          opens = was.opens;
          granted = was.granted;
        }

    each : (b : ℕ) (one : ScriptState) → slice_get (slice_set system.script_states board next.1) b ≡ Some one
        → ScriptStands config next.0.bus.object b one
    each b one at =
        elim (eqb_tells b board) [
          | inl same ↦
              let own : next.1 ≡ one = set_same system.script_states board next.1 one
              (ap (slice_get (slice_set system.script_states board next.1)) (sym same.1) ∙ at) in
              subst (λ (p : ℕ). ScriptStands config next.0.bus.object p one) (sym same.1)
              (subst (ScriptStands config next.0.bus.object board) own stays.own)
          | inr apart ↦ other b one apart.1 (sym (set_other system.script_states board b next.1 (λ same. apart.1 (sym same))) ∙ at)
        ]

-- a turn of a slot keeps `AllStand`, whether the slot has a board or not
by_place : (config : Configuration) (system : SystemState) (slot : ℕ) (place : Option ℕ) → IsLawful config
    → AllStand config system
    → board_in_slot config slot ≡ place → AllStand config (turn_at config system place)
by_place config system slot None lawful stand is = stand
by_place config system slot (Some board) lawful stand is =
    by_script_state config system board (slice_get system.script_states board) lawful stand (place_is config slot board is).there refl

-- each turn keeps `AllStand`
pub turn_stand : (config : Configuration) (system : SystemState) (slot : ℕ) → IsLawful config → AllStand config system
    → AllStand config (turn config system slot)
unfolding turn
turn_stand config system slot lawful stand = by_place config system slot (board_in_slot config slot) lawful stand refl

-- turns keep `AllStand`
pub run_stand : (config : Configuration) (system : SystemState) (slots : List ℕ) → IsLawful config → AllStand config system
    → AllStand config (run config system slots)
run_stand config system [] lawful stand = stand
run_stand config system (slot ∷ slots) lawful stand =
    run_stand config (turn config system slot) slots lawful (turn_stand config system slot lawful stand)

-- before the first turn, each script state has no ended line and no reply
pub script_state_begun : (scripts : List (List ScriptLine)) (b : ℕ) (c : ScriptState)
    → slice_get (map (λ script. script_state [] []) scripts) b ≡ Some c
    → script_state [] [] ≡ c
script_state_begun scripts b c found = by_script (slice_get scripts b) (sym (slice_get-map (λ (script : List ScriptLine). script_state [] []) scripts b) ∙ found)
  where
    by_script : (script : Option (List ScriptLine)) → option_map (λ (one : List ScriptLine). script_state [] []) script ≡ Some c
        → script_state [] [] ≡ c
    by_script None is = absurd cc
    by_script (Some script) is = cc

-- `AllStand` holds before the first turn
pub opening_stand : (config : Configuration) → IsLawful config → AllStand config (initial_state config)
opening_stand config lawful = record {
  orderly = orderly-opening config.arbiter;
  count = length-map config.scripts (λ script. script_state [] []) ∙ lawful.scripts;
  each = λ b c found. subst (ScriptStands config (opening_bus config.arbiter) b) (script_state_begun config.scripts b c found)
      (rests_standing config (opening_bus config.arbiter) b [] (refl, refl) (λ k d less. absurd (omega (arith, less))));
}

-- `AllStand` holds after any turns
pub after_stand : (config : Configuration) (slots : List ℕ) → IsLawful config → AllStand config (state_after config slots)
unfolding state_after
after_stand config slots lawful = run_stand config (initial_state config) slots lawful (opening_stand config lawful)

-- the call of a turn is the first call of the processor's remaining lines
pub record IsCallOf (config : Configuration) (system : SystemState) (slot board : ℕ) (call : Call) : Type 0 where
  pub place : board_in_slot config slot ≡ Some board
  pub c : ScriptState
  pub found : slice_get system.script_states board ≡ Some c
  pub first : first_call config board (lines_left config board c) c.replies ≡ Some call

-- the pair of a place and a call determines both
same_call : (b board : ℕ) (first : Option Call) (call : Call) → option_map {U = ℕ × Call} (λ one. (b, one)) first ≡ Some (board, call)
    → (b ≡ board) × (first ≡ Some call)
same_call b board None call is = absurd cc
same_call b board (Some one) call is =
    (ap (λ (o : Option (ℕ × Call)). option_map_or (λ p. p.0) o 0) is, ap (λ (o : Option (ℕ × Call)). option_map (λ p. p.1) o) is)

-- the call of the processor of a board
call_by : (config : Configuration) (system : SystemState) (slot b board : ℕ) (call : Call) (found : Option ScriptState)
    → board_in_slot config slot ≡ Some b
    → slice_get system.script_states b ≡ found → script_state_call config b found ≡ Some (board, call)
    → IsCallOf config system slot board call
call_by config system slot b board call None placed at is = absurd cc
call_by config system slot b board call (Some c) placed at is =
    let same = same_call b board (first_call config b (lines_left config b c) c.replies) call is in
    subst (λ (p : ℕ). IsCallOf config system slot p call) same.0 (record { place = placed; c = c; found = at; first = same.1 })

-- the call of the processor at a place
call_at : (config : Configuration) (system : SystemState) (slot board : ℕ) (call : Call) (place : Option ℕ)
    → board_in_slot config slot ≡ place
    → place_call config system place ≡ Some (board, call) → IsCallOf config system slot board call
call_at config system slot board call None placed is = absurd cc
call_at config system slot board call (Some b) placed is =
    call_by config system slot b board call (slice_get system.script_states b) placed refl is

-- the call of a turn is that of its slot's processor
pub call_is : (config : Configuration) (system : SystemState) (slot board : ℕ) (call : Call)
    → turn_call config system slot ≡ Some (board, call)
    → IsCallOf config system slot board call
unfolding turn_call
call_is config system slot board call is = call_at config system slot board call (board_in_slot config slot) refl is

-- a call on a board is one of the local port, or the slot of the turn holds the bus
pub holder_is : (config : Configuration) (system : SystemState) (slot board place : ℕ) (command : Option Command)
    → IsLawful config
    → AllStand config system → turn_call config system slot ≡ Some (board, OnBoard place command)
    → IsLocal command ⊎ (system.machine.bus.object.holder ≡ Some slot)
holder_is config system slot board place command lawful stand is =
    let one = call_is config system slot board (OnBoard place command) is in
    let at = place_is config slot board one.place in
    let stands = stand.each board one.c one.found in
    let bus = system.machine.bus.object in
    let holds : HoldsFor config lawful board at.there bus (OnBoard place command) =
    first_is config lawful board at.there (HoldsFor config lawful board at.there bus) bus (call_holds config lawful board at.there bus)
    (lines_left config board one.c) one.c.replies (OnBoard place command) (left_own config board one.c lawful at.there) stands.stands stands.opens
    one.first in
    subst (λ (s : ℕ). IsLocal command ⊎ (bus.holder ≡ Some s)) at.own holds

-- the reply to the call of a turn is no denial
pub granted_is : (config : Configuration) (system : SystemState) (slot board : ℕ) (call : Call) → IsLawful config
    → AllStand config system
    → turn_call config system slot ≡ Some (board, call)
    → (machine_step system.machine board call).1 ≢ replies.Bus arb_replies.Denied
granted_is config system slot board call lawful stand is =
    let one = call_is config system slot board call is in
    let at = place_is config slot board one.place in
    let stands = stand.each board one.c one.found in
    first_is config lawful board at.there (λ made. (machine_step system.machine board made).1 ≢ replies.Bus arb_replies.Denied) system.machine.bus.object
    (replied_granted config lawful board at.there system.machine stand.orderly) (lines_left config board one.c) one.c.replies call
    (left_own config board one.c lawful at.there) stands.stands stands.opens one.first

-- a turn of a board's processor changes the machine as its call does
made_by : (config : Configuration) (system : SystemState) (board : ℕ) (found : Option ScriptState)
    → (turn_in config system board found).machine ≡ machine_called system.machine (script_state_call config board found)
made_by config system board None = refl
made_by config system board (Some c) = script_state_made config board (lines_left config board c) system.machine c

-- a turn changes the machine as its call does, whether its slot has a board or not
made_at : (config : Configuration) (system : SystemState) (place : Option ℕ)
    → (turn_at config system place).machine ≡ machine_called system.machine (place_call config system place)
made_at config system None = refl
made_at config system (Some board) = made_by config system board (slice_get system.script_states board)

-- each turn changes the machine as its call does, or not at all
pub turn_made : (config : Configuration) (system : SystemState) (slot : ℕ)
    → (turn config system slot).machine ≡ machine_called system.machine (turn_call config system slot)
unfolding turn turn_call
turn_made config system slot = made_at config system (board_in_slot config slot)
