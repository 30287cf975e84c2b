-- The number of the event over a run.
use Rattle.std.proofs.Common.{◌≡◌, ℕ, zero, suc, ◌+◌, ◌<◌, ◌≤◌, List, [], ◌∷◌, length, map, get_or, Option, Some, None, refl, ap, subst, sym, ◌∙◌, arith}
use Rattle.std.specs.Prelude.{slice_get, option_map}
use Rattle.std.specs.Option.{option_and_then}
use Rattle.vme_arbiter.specs.declared.command.ArbReply.TheVariants as arb_replies
use Rattle.vme_arbiter.specs.Arbitration.{Arbitration}
use Rattle.vme_core.specs.declared.event.EventReply.{EventReply}
use Rattle.vme_core.specs.declared.event.EventReply.TheVariants as replies
use Rattle.vme_core.specs.Runs.{Machine}
use Rattle.vme_script.specs.declared.board.BoardConfig.{BoardConfig}
use Rattle.vme_script.specs.Configurations.{Configuration}
use Rattle.vme_script.specs.Lawful.{IsLawfulBoard, IsLawful}
use Rattle.vme_line_task.specs.Scripts.{level_at}
use Rattle.vme_stepper.specs.Turns.{board_in_slot, initial_state, state_after}
use Rattle.vme_trace.specs.declared.observation.activity.Activity.{Activity}
use Rattle.vme_trace.specs.declared.observation.activity.Activity.TheVariants.{Requests, Polls, Releases, Transfers, Local, Other}
use Rattle.vme_trace.specs.declared.observation.grant.Grant.{Grant}
use Rattle.vme_trace.specs.declared.observation.Observation.{Observation}
use Rattle.vme_trace.specs.Grants.{grant, grant_to, grant_of}
use Rattle.vme_trace.specs.Observations.{observations}
use Rattle.vme_trace.specs.declared.dump.change.Value.{Value}
use Rattle.vme_trace.specs.declared.dump.change.Value.TheVariants.{Number}
use Rattle.vme_trace.specs.Events.{grant_level}
use Rattle.vme_trace_laws.proofs.waves.Arbitration.{HasLevels, number_at}
use Rattle.vme_trace_laws.specs.Steps.{IsStepShown, IsRunShown}
use Rattle.vme_trace_laws.specs.Values.{event_number}
use Rattle.vme_trace.specs.Shown.{after_events, value_after_run}
use Rattle.vme_trace_laws.proofs.turns.Runs.{run_shown}

-- the levels of lawful boards
levels_below : (boards : List BoardConfig) → ((i : ℕ) (board : BoardConfig) → slice_get boards i ≡ Some board → IsLawfulBoard board) → (i : ℕ)
    → get_or (map (λ board. board.level) boards) i 0 ≤ 3
levels_below [] each i = omega arith
levels_below (board ∷ boards) each zero = (each 0 board refl).level
levels_below (board ∷ boards) each (suc i) = levels_below boards (λ j other found. each (suc j) other found) i

module _ (config : Configuration) (lawful : IsLawful config) where
  -- the level of a board
  pub level_below : (board : ℕ) → level_at config board ≤ 3
  level_below board = levels_below config.boards lawful.boards board

  -- the level of a grant to a slot
  place_level : (bus : Arbitration) (slot : ℕ) (place : Option ℕ) → grant_level (option_map (grant config bus slot) place) ≤ 3
  place_level bus slot None = omega arith
  place_level bus slot (Some board) = level_below board

  -- the level of a grant to the holder
  holder_level : (bus : Arbitration) (holder : Option ℕ) → grant_level (option_and_then (grant_to config bus) holder) ≤ 3
  holder_level bus None = omega arith
  holder_level bus (Some slot) = place_level bus slot (board_in_slot config slot)

  -- the level of a grant
  granted_level : (activity : Activity) (reply : EventReply) (bus : Arbitration) → grant_level (grant_of config activity reply bus) ≤ 3
  granted_level Requests (replies.Bus arb_replies.Granted) bus = holder_level bus bus.holder
  granted_level Requests (replies.Bus arb_replies.Waiting) bus = omega arith
  granted_level Requests (replies.Bus arb_replies.Freed) bus = omega arith
  granted_level Requests (replies.Bus arb_replies.Denied) bus = omega arith
  granted_level Requests (replies.Board reply) bus = omega arith
  granted_level Polls reply bus = omega arith
  granted_level (Releases signals) reply bus = holder_level bus bus.holder
  granted_level (Transfers datum) reply bus = omega arith
  granted_level (Local cmd) reply bus = omega arith
  granted_level Other reply bus = omega arith

  -- the levels of an event are lawful
  pub has_levels : (before after : Machine) (o : Observation) → IsStepShown config before o after → HasLevels o
  has_levels before after o step = record {
    own = subst (λ (level : ℕ). level ≤ 3) (sym step.level) (level_below o.board);
    granted = subst (λ (g : Option Grant). grant_level g ≤ 3) (sym step.grant) (granted_level o.activity o.reply after.bus.object);
  }

  -- the number after some events
  numbers : (before : Machine) (events : List Observation) (after : Machine) (n : ℕ) → IsRunShown config before events after
      → after_events event_number (length config.boards) n events (Number 32 n) ≡ Number 32 (n + length events)
  numbers before [] after n run = let none : n ≡ n + 0 = omega arith in ap (Number 32) none
  numbers before (o ∷ events) after n run =
      let more : n + 1 + length events ≡ n + suc (length events) = omega arith in
      ap (after_events event_number (length config.boards) (n + 1) events)
      (number_at (length config.boards) (n + 1) o (Number 32 n) (has_levels before run.0 o run.1))
      ∙ numbers run.0 events after (n + 1) run.2 ∙ ap (Number 32) more

  -- the number after some events, of which there is one
  first_numbers : (before : Machine) (events : List Observation) (after : Machine) (v : Value) → 0 < length events → IsRunShown config before events after
      → value_after_run event_number (length config.boards) events v ≡ Number 32 (length events)
  first_numbers before [] after v some run = absurd (omega (arith, some))
  first_numbers before (o ∷ events) after v some run =
      let more : 0 + 1 + length events ≡ suc (length events) = omega arith in
      ap (after_events event_number (length config.boards) (0 + 1) events)
      (number_at (length config.boards) (0 + 1) o v (has_levels before run.0 o run.1))
      ∙ numbers run.0 events after (0 + 1) run.2 ∙ ap (Number 32) more

  -- the number after a run
  pub run_number : (slots : List ℕ) (v : Value) → 0 < length (observations config slots)
      → value_after_run event_number (length config.boards) (observations config slots) v ≡ Number 32 (length (observations config slots))
  run_number slots v some =
      first_numbers (initial_state config).machine (observations config slots) (state_after config slots).machine v some (run_shown config slots)
