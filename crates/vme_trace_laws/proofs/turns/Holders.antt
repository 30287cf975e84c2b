-- The holder and BBSY* of the bus over a run.
use Rattle.std.proofs.Common.{◌≡◌, ℕ, ◌+◌, ◌<◌, Bool, true, false, if◌then◌else◌, List, [], ◌∷◌, length, Option, Some, None, is_some, is_none, refl, ap, sym, subst, ◌∙◌, inl, inr}
use Rattle.std.specs.Prelude.{All, IfSome, find, nat_lt, option_map, slice_get}
use Rattle.std.specs.Option.{option_and_then}
use Rattle.std.proofs.lemmas.Bool.{cases_Bool}
use Rattle.std.proofs.lemmas.Option.{same_Some}
use Rattle.std.proofs.lemmas.List.Elements.{All-nil, All-cons, All-head, All-tail, All-filter}
use Rattle.vme_memory.specs.Locals.{command_given}
use Rattle.vme_arbiter.specs.Requests.{BusRequest, bus_request, with_request}
use Rattle.vme_arbiter.specs.Arbitration.{Arbitration, holds, can_ask, lawful_ask, ask_step, bus_after_release, next_granted, done_step}
use Rattle.vme_core.specs.declared.event.EventReply.{EventReply}
use Rattle.vme_core.specs.declared.event.EventReply.TheVariants as replies
use Rattle.vme_core.specs.CountedStates.{CountedState}
use Rattle.vme_core.specs.Runs.{Machine}
use Rattle.vme_core.specs.Calls.{Call, OnBoard, machine_step}
use Rattle.vme_script.specs.Configurations.{Configuration}
use Rattle.vme_script.specs.Lawful.{IsLawful}
use Rattle.vme_line_task.specs.Scripts.{slot_at, level_at}
use Rattle.vme_stepper.specs.Turns.{board_in_slot, initial_state, state_after}
use Rattle.vme_trace.specs.declared.observation.activity.Activity.{Activity}
use Rattle.vme_trace.specs.declared.observation.activity.Activity.TheVariants.{Requests, Polls, Releases, Transfers, Local, Other}
use Rattle.vme_trace.specs.declared.observation.grant.Grant.{Grant}
use Rattle.vme_trace.specs.declared.observation.Observation.{Observation}
use Rattle.vme_trace.specs.Grants.{grant, grant_to, grant_of}
use Rattle.vme_trace.specs.Observations.{observations}
use Rattle.vme_trace.specs.declared.dump.change.Value.{Value}
use Rattle.vme_trace.specs.declared.dump.change.Value.TheVariants.{Low, High, Released, Number}
use Rattle.vme_trace.specs.Changes.{level_of}
use Rattle.vme_trace.specs.Slots.{releases, release_edge, grant_edge}
use Rattle.vme_trace.specs.Events.{grant_slot}
use Rattle.vme_trace_laws.proofs.waves.Values.{pulse_late}
use Rattle.vme_trace_laws.proofs.waves.Arbitration.{holder_at, bus_busy_at}
use Rattle.vme_trace_laws.specs.Steps.{IsShownAs, IsStepShown, IsRunShown}
use Rattle.vme_trace_laws.specs.Values.{holder_shown, holder_line, bus_busy_line}
use Rattle.vme_trace.specs.Shown.{after_events, value_after_run}
use Rattle.vme_trace_laws.proofs.turns.Places.{own_board}
use Rattle.vme_trace_laws.proofs.turns.Busy.{board_bus, release_within, edge_within}
use Rattle.vme_trace_laws.proofs.turns.Numbers.{has_levels}
use Rattle.vme_trace_laws.proofs.turns.Runs.{run_shown}

-- a property of a request and of those that are pending holds of all of them
all_with : (P : BusRequest → Type 0) (new : BusRequest) (pending : List BusRequest) → P new → All P pending → All P (with_request new pending)
all_with P new [] own each = All-cons P new [] own each
all_with P new (r ∷ pending) own each =
    elim (cases_Bool (nat_lt new.slot r.slot)) [
      | inl first ↦ rw first (All-cons P new (r ∷ pending) own each)
      | inr later ↦ rw later (All-cons P r (with_request new pending) (All-head P r pending each) (all_with P new pending own (All-tail P r pending each)))
    ]

-- a property of all elements holds of the one that is found
all_found : {A : Type 0} (P : A → Type 0) (test : A → Bool) (xs : List A) (x : A) → find test xs ≡ Some x → All P xs → P x
all_found P test [] x found each = absurd (cc found)
all_found P test (y ∷ xs) x found each =
    elim (cases_Bool (test y)) [
      | inl here ↦ subst P (same_Some _ _ (rw here at found)) (All-head P y xs each)
      | inr later ↦ all_found P test xs x (rw later at found) (All-tail P y xs each)
    ]

module _ (config : Configuration) (lawful : IsLawful config) where
  -- a slot has a board
  abbrev pub HasBoard : ℕ → Type 0
  HasBoard slot = is_some (board_in_slot config slot) ≡ true

  -- the holder of the bus and the slots that wait for it have boards
  pub record IsSeated (bus : Arbitration) : Type 0 where
    pub holder : IfSome bus.holder HasBoard
    pub pending : All (λ r. HasBoard r.slot) bus.pending

  -- the slot of a board has a board
  own_seat : (board : ℕ) → board < length config.boards → HasBoard (slot_at config board)
  own_seat board there = rw (own_board config lawful board there) refl

  -- after a request that is lawful
  lawful_seated : (bus : Arbitration) (slot level : ℕ) (holder : Option ℕ) → bus.holder ≡ holder → HasBoard slot → IsSeated bus
      → IsSeated (lawful_ask holder bus (bus_request level slot)).0
  lawful_seated bus slot level None is own seated = record { holder = own; pending = seated.pending }
  lawful_seated bus slot level (Some h) is own seated = record {
    holder = seated.holder;
    pending = all_with (λ r. HasBoard r.slot) (bus_request level slot) bus.pending own seated.pending;
  }

  -- after a request
  ask_seated : (bus : Arbitration) (slot level : ℕ) → HasBoard slot → IsSeated bus → IsSeated (ask_step bus slot level).0
  ask_seated bus slot level own seated =
      elim (cases_Bool (can_ask bus slot level)) [
        | inl can ↦ rw can (lawful_seated bus slot level bus.holder refl own seated)
        | inr cannot ↦ rw cannot seated
      ]

  -- after a release of the bus
  release_seated : (bus : Arbitration) (next : Option BusRequest) → next_granted bus ≡ next → IsSeated bus → IsSeated (bus_after_release next bus)
  release_seated bus None is seated = record { holder = tt; pending = seated.pending }
  release_seated bus (Some next) is seated = record {
    holder = all_found (λ r. HasBoard r.slot) _ bus.pending next is seated.pending;
    pending = All-filter _ (λ r. HasBoard r.slot) bus.pending seated.pending;
  }

  -- after a release
  done_seated : (bus : Arbitration) (slot : ℕ) → IsSeated bus → IsSeated (done_step bus slot).0
  done_seated bus slot seated =
      elim (cases_Bool (holds bus slot)) [
        | inl held ↦ rw held (release_seated bus (next_granted bus) refl seated)
        | inr idle ↦ rw idle seated
      ]

  -- a grant to a holder whose slot has a board
  record IsGranted (holder : Option ℕ) (found : Option Grant) : Type 0 where
    some : is_some found ≡ is_some holder
    slot : (slot : ℕ) → holder ≡ Some slot → grant_slot found ≡ slot

  -- the grant to a slot with a board
  place_granted : (bus : Arbitration) (slot : ℕ) (place : Option ℕ) → is_some place ≡ true → IsGranted (Some slot) (option_map (grant config bus slot) place)
  place_granted bus slot None seat = absurd (cc seat)
  place_granted bus slot (Some board) seat = record { some = refl; slot = λ other same. same_Some _ _ same }

  -- the grant to the holder
  holder_granted : (bus : Arbitration) (holder : Option ℕ) → IfSome holder HasBoard → IsGranted holder (option_and_then (grant_to config bus) holder)
  holder_granted bus None seat = record { some = refl; slot = λ other same. absurd (cc same) }
  holder_granted bus (Some slot) seat = place_granted bus slot (board_in_slot config slot) seat

  -- the holder after an event with this grant and release, as it is shown
  abbrev shown_holder : Option Grant → Bool → Value → Value
  shown_holder found released v = if is_some found then Number 5 (grant_slot found) else (if released then Released else v)

  -- BBSY* after such an event
  abbrev shown_busy : Option Grant → Bool → Value → Value
  shown_busy found released v = if is_some found then Low else (if released then High else v)

  -- what an event shows of the holder and of BBSY* is what the arbiter has after it
  pub record IsHeld (before : Arbitration) (activity : Activity) (found : Option Grant) (after : Arbitration) : Type 0 where
    pub seated : IsSeated after
    holder : shown_holder found (releases activity) (holder_shown before.holder) ≡ holder_shown after.holder
    busy : shown_busy found (releases activity) (level_of (is_none before.holder)) ≡ level_of (is_none after.holder)

  -- a grant to the holder, after a release or on a free bus
  by_grant : (holder : Option ℕ) (found : Option Grant) (released : Bool) (v w : Value) → IsGranted holder found
      → (holder ≡ None → released ≡ true)
      → (shown_holder found released v ≡ holder_shown holder) × (shown_busy found released w ≡ level_of (is_none holder))
  by_grant None found released v w granted freed = (rw (granted.some, freed refl) refl, rw (granted.some, freed refl) refl)
  by_grant (Some slot) found released v w granted freed = (rw (granted.some, granted.slot slot refl) refl, rw granted.some refl)

  -- an event that leaves the holder alone
  kept_held : (before after : Arbitration) (activity : Activity) → releases activity ≡ false → after.holder ≡ before.holder → IsSeated after
      → IsHeld before activity None after
  kept_held before after activity none same seated = record {
    seated = seated;
    holder = rw (none, same) refl;
    busy = rw (none, same) refl;
  }

  -- a request that is lawful
  lawful_held : (bus : Arbitration) (slot level : ℕ) (holder : Option ℕ) → bus.holder ≡ holder → HasBoard slot → IsSeated bus
      → IsHeld bus Requests (grant_of config Requests (replies.Bus (lawful_ask holder bus (bus_request level slot)).1) (lawful_ask holder bus (bus_request level slot)).0)
      (lawful_ask holder bus (bus_request level slot)).0
  lawful_held bus slot level None is own seated =
      let new = (lawful_ask None bus (bus_request level slot)).0 in
      let both = by_grant (Some slot) (option_and_then (grant_to config new) (Some slot)) false (holder_shown bus.holder) (level_of (is_none bus.holder))
      (holder_granted new (Some slot) own) (λ free. absurd (cc free)) in
      record { seated = lawful_seated bus slot level None is own seated; holder = both.0; busy = both.1 }
  lawful_held bus slot level (Some h) is own seated =
      kept_held bus (lawful_ask (Some h) bus (bus_request level slot)).0 Requests refl refl (lawful_seated bus slot level (Some h) is own seated)

  -- a request
  ask_held : (bus : Arbitration) (slot level : ℕ) → HasBoard slot → IsSeated bus
      → IsHeld bus Requests (grant_of config Requests (replies.Bus (ask_step bus slot level).1) (ask_step bus slot level).0) (ask_step bus slot level).0
  ask_held bus slot level own seated =
      elim (cases_Bool (can_ask bus slot level)) [
        | inl can ↦ rw can (lawful_held bus slot level bus.holder refl own seated)
        | inr cannot ↦ rw cannot (kept_held bus bus Requests refl refl seated)
      ]

  -- a release
  done_held : (bus : Arbitration) (slot : ℕ) (activity : Activity) → releases activity ≡ true → IsSeated bus
      → (let new = (done_step bus slot).0 in IsHeld bus activity (option_and_then (grant_to config new) new.holder) new)
  done_held bus slot activity released seated =
      let new = (done_step bus slot).0 in
      let next = done_seated bus slot seated in
      let both = by_grant new.holder (option_and_then (grant_to config new) new.holder) (releases activity) (holder_shown bus.holder)
      (level_of (is_none bus.holder)) (holder_granted new new.holder next.holder) (λ free. released) in
      record { seated = next; holder = both.0; busy = both.1 }

  -- a step and what it shows of the holder
  abbrev Holds : Arbitration → Activity → Machine × EventReply → Type 0
  Holds bus activity r = IsHeld bus activity (grant_of config activity r.1 r.0.bus.object) r.0.bus.object

  -- an event that leaves the bus alone
  quiet_held : (bus : Arbitration) (activity : Activity) (after : Machine) → releases activity ≡ false → after.bus.object ≡ bus → IsSeated bus
      → IsHeld bus activity None after.bus.object
  quiet_held bus activity after none same seated =
      kept_held bus after.bus.object activity none (ap (λ (b : Arbitration). b.holder) same) (subst IsSeated (sym same) seated)

  -- what an event shows of the holder
  step_held : (before after : Machine) (own : ℕ) (activity : Activity) (reply : EventReply) (call : Call) → own < length config.boards
      → IsShownAs own (slot_at config own) (level_at config own) activity call → (after, reply) ≡ machine_step before own call
      → IsSeated before.bus.object → Holds before.bus.object activity (after, reply)
  step_held before after own Requests reply call there is step seated =
      subst (Holds before.bus.object Requests) (sym (step ∙ ap (machine_step before own) is))
      (ask_held before.bus.object (slot_at config own) (level_at config own) (own_seat own there) seated)
  step_held before after own Polls reply call there is step seated =
      subst (Holds before.bus.object Polls) (sym (step ∙ ap (machine_step before own) is))
      (kept_held before.bus.object before.bus.object Polls refl refl seated)
  step_held before after own (Releases signals) reply call there is step seated =
      subst (Holds before.bus.object (Releases signals)) (sym (step ∙ ap (machine_step before own) is))
      (done_held before.bus.object (slot_at config own) (Releases signals) refl seated)
  step_held before after own (Transfers datum) reply call there is step seated =
      let next = machine_step before own (OnBoard datum.board is.0) in
      let same = ap (λ (b : CountedState Arbitration). b.object) (board_bus before own datum.board is.0 (slice_get before.boards datum.board)) in
      subst (Holds before.bus.object (Transfers datum)) (sym (step ∙ ap (machine_step before own) is.1))
      (quiet_held before.bus.object (Transfers datum) next.0 refl same seated)
  step_held before after own (Local cmd) reply call there is step seated =
      let next = machine_step before own (OnBoard own (command_given cmd)) in
      let same = ap (λ (b : CountedState Arbitration). b.object) (board_bus before own own (command_given cmd) (slice_get before.boards own)) in
      subst (Holds before.bus.object (Local cmd)) (sym (step ∙ ap (machine_step before own) is))
      (quiet_held before.bus.object (Local cmd) next.0 refl same seated)
  step_held before after own Other reply call there is step seated = absurd is

  -- what an event shows of the holder, with its own grant
  pub event_held : (before after : Machine) (o : Observation) → IsStepShown config before o after → IsSeated before.bus.object
      → IsHeld before.bus.object o.activity o.grant after.bus.object
  event_held before after o step seated =
      subst (λ (g : Option Grant). IsHeld before.bus.object o.activity g after.bus.object) (sym step.grant)
      (step_held before after o.board o.activity o.reply step.call step.there step.shown step.step seated)

  -- the holder after some events
  run_holder : (before : Machine) (events : List Observation) (after : Machine) (n : ℕ) → IsRunShown config before events after → IsSeated before.bus.object
      → after_events holder_line (length config.boards) n events (holder_shown before.bus.object.holder) ≡ holder_shown after.bus.object.holder
  run_holder before [] after n same seated = ap (λ (m : Machine). holder_shown m.bus.object.holder) (sym same)
  run_holder before (o ∷ events) after n run seated =
      let held = event_held before run.0 o run.1 seated in
      ap (after_events holder_line (length config.boards) (n + 1) events)
      (holder_at (length config.boards) (n + 1) o (has_levels config lawful before run.0 o run.1) 19 (holder_shown before.bus.object.holder)
      ∙ pulse_late Released (Number 5 (grant_slot o.grant)) (holder_shown before.bus.object.holder) (releases o.activity) (is_some o.grant)
      (release_edge o.activity) (grant_edge o.activity + 1) 19 (release_within o.activity) (edge_within o.activity)
      ∙ held.holder)
      ∙ run_holder run.0 events after (n + 1) run.2 held.seated

  -- BBSY* after some events
  pub run_bus_busy : (before : Machine) (events : List Observation) (after : Machine) (n : ℕ) → IsRunShown config before events after → IsSeated before.bus.object
      → after_events bus_busy_line (length config.boards) n events (level_of (is_none before.bus.object.holder)) ≡ level_of (is_none after.bus.object.holder)
  run_bus_busy before [] after n same seated = ap (λ (m : Machine). level_of (is_none m.bus.object.holder)) (sym same)
  run_bus_busy before (o ∷ events) after n run seated =
      let held = event_held before run.0 o run.1 seated in
      ap (after_events bus_busy_line (length config.boards) (n + 1) events)
      (bus_busy_at (length config.boards) (n + 1) o (has_levels config lawful before run.0 o run.1) 19 (level_of (is_none before.bus.object.holder))
      ∙ pulse_late High Low (level_of (is_none before.bus.object.holder)) (releases o.activity) (is_some o.grant)
      (release_edge o.activity) (grant_edge o.activity + 1) 19 (release_within o.activity) (edge_within o.activity)
      ∙ held.busy)
      ∙ run_bus_busy run.0 events after (n + 1) run.2 held.seated

  -- at the start no slot holds the bus or waits
  pub opening_seated : IsSeated (initial_state config).machine.bus.object
  opening_seated = record { holder = tt; pending = All-nil (λ r. HasBoard r.slot) }

  -- the holder after a run
  pub holder_after_run : (slots : List ℕ)
      → value_after_run holder_line (length config.boards) (observations config slots) Released ≡ holder_shown (state_after config slots).machine.bus.object.holder
  holder_after_run slots =
      run_holder (initial_state config).machine (observations config slots) (state_after config slots).machine 0 (run_shown config slots) opening_seated

  -- BBSY* after a run
  pub busy_after_run : (slots : List ℕ)
      → value_after_run bus_busy_line (length config.boards) (observations config slots) High ≡ level_of (is_none (state_after config slots).machine.bus.object.holder)
  busy_after_run slots =
      run_bus_busy (initial_state config).machine (observations config slots) (state_after config slots).machine 0 (run_shown config slots) opening_seated
