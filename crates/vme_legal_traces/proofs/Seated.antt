-- The slot that holds the bus has a board, after each event of a run.
use Rattle.std.proofs.Common.{◌≡◌, ℕ, ◌<◌, true, List, [], ◌∷◌, length, Option, Some, None, is_some, refl, sym, subst}
use Rattle.std.specs.Prelude.{IfSome}
use Rattle.vme_arbiter.specs.Arbitration.{Arbitration}
use Rattle.vme_core.specs.Runs.{Machine}
use Rattle.vme_script.specs.Configurations.{Configuration}
use Rattle.vme_script.specs.Lawful.{IsLawful}
use Rattle.vme_line_task.specs.Scripts.{slot_at}
use Rattle.vme_stepper.specs.Turns.{board_in_slot}
use Rattle.vme_trace.specs.declared.observation.Observation.{Observation}
use Rattle.vme_trace_laws.specs.Steps.{IsStepShown, IsRunShown}
use Rattle.vme_trace_laws.proofs.lemmas.Turns.{named_slot, place_below, HasBoard, IsSeated, event_held}

module _ (config : Configuration) (lawful : IsLawful config) where
  -- the slot that holds the bus, and those that wait for it, have boards
  abbrev pub Seated : Arbitration → Type 0
  Seated bus = IsSeated config lawful bus

  -- after an event
  pub event_seated : (before after : Machine) (o : Observation) → IsStepShown config before o after → Seated before.bus.object → Seated after.bus.object
  event_seated before after o step seated = (event_held config lawful before after o step seated).seated

  -- after some events
  pub run_seated : (before : Machine) (events : List Observation) (after : Machine) → IsRunShown config before events after → Seated before.bus.object
      → Seated after.bus.object
  run_seated before [] after same seated = subst (λ (m : Machine). Seated m.bus.object) (sym same) seated
  run_seated before (o ∷ events) after run seated = run_seated run.0 events after run.2 (event_seated before run.0 o run.1 seated)

  -- the board of a slot that has one
  board_by : (slot : ℕ) (found : Option ℕ) → board_in_slot config slot ≡ found → is_some found ≡ true
      → (b : ℕ) × (b < length config.boards) × (slot_at config b ≡ slot)
  board_by slot None is some = absurd cc
  board_by slot (Some b) is some = (b, place_below config.boards slot b is, named_slot config.boards slot b is)

  -- the board of the slot that holds the bus
  pub holder_board : (bus : Arbitration) (slot : ℕ) → Seated bus → bus.holder ≡ Some slot → (b : ℕ) × (b < length config.boards) × (slot_at config b ≡ slot)
  holder_board bus slot seated is =
      board_by slot (board_in_slot config slot) refl (subst (λ (h : Option ℕ). IfSome h (HasBoard config lawful)) is seated.holder)
