-- BBSY* over a run: the slot that drives it is the holder of the bus.
use Rattle.std.proofs.Common.{◌≡◌, ℕ, ◌+◌, ◌<◌, ◌==◌, ◌&&◌, Bool, true, false, not, if◌then◌else◌, List, [], ◌∷◌, ◌++◌, length, Option, Some, None, refl, ap, sym, subst, ◌∙◌, arith, inl, inr}
use Rattle.std.specs.Prelude.{slice_get, nat_le}
use Rattle.std.specs.Option.{option_and_then, option_map_or}
use Rattle.std.proofs.lemmas.Bool.{cases_Bool, false≢true, eqb-true, le-leb, leb-true}
use Rattle.std.proofs.lemmas.Bool.Decides.{eqb_tells}
use Rattle.vme_memory.specs.Boards.{Board}
use Rattle.vme_memory.specs.Steps.{Command}
use Rattle.vme_memory.specs.Locals.{command_given}
use Rattle.vme_arbiter.specs.Requests.{bus_request}
use Rattle.vme_arbiter.specs.Arbitration.{Arbitration, holds, can_ask, lawful_ask, ask_step, bus_after_release, next_granted, done_step}
use Rattle.vme_core.specs.declared.event.EventReply.{EventReply}
use Rattle.vme_core.specs.declared.event.EventReply.TheVariants as replies
use Rattle.vme_core.specs.CountedStates.{CountedState}
use Rattle.vme_core.specs.Runs.{Machine}
use Rattle.vme_core.specs.Calls.{Call, OnBoard, board_after, machine_step}
use Rattle.vme_script.specs.Configurations.{Configuration}
use Rattle.vme_script.specs.Lawful.{IsLawful}
use Rattle.vme_line_task.specs.Scripts.{slot_at, level_at}
use Rattle.vme_stepper.specs.Turns.{initial_state, state_after}
use Rattle.vme_trace.specs.declared.observation.activity.Activity.{Activity}
use Rattle.vme_trace.specs.declared.observation.activity.Activity.TheVariants.{Requests, Polls, Releases, Transfers, Local, Other}
use Rattle.vme_trace.specs.declared.observation.grant.Grant.{Grant}
use Rattle.vme_trace.specs.declared.observation.Observation.{Observation}
use Rattle.vme_trace.specs.Grants.{grant_to, grant_of}
use Rattle.vme_trace.specs.Observations.{observations}
use Rattle.vme_trace.specs.declared.dump.change.Value.{Value}
use Rattle.vme_trace.specs.declared.dump.change.Value.TheVariants.{Low, High}
use Rattle.vme_trace.specs.Changes.{level_of}
use Rattle.vme_trace.specs.Events.{event_changes}
use Rattle.vme_trace.specs.Slots.{releases, release_edge, grant_edge, is_granted}
use Rattle.vme_trace.specs.Shown.{value_at, after_event, after_events, value_after_run, value_in_run}
use Rattle.vme_trace_laws.proofs.waves.Pulses.{not_both}
use Rattle.vme_trace_laws.proofs.waves.Values.{pulse_late, pulse_early}
use Rattle.vme_trace_laws.proofs.waves.Slots.{busy_at}
use Rattle.vme_trace_laws.specs.Steps.{IsShownAs, IsStepShown, IsRunShown}
use Rattle.vme_trace_laws.specs.Values.{busy_line}
use Rattle.vme_trace_laws.proofs.turns.Places.{same_board, holder_granted}
use Rattle.vme_trace_laws.proofs.turns.Runs.{run_shown}

-- a command to a board leaves the bus alone
pub board_bus : (machine : Machine) (who x : ℕ) (command : Option Command) (found : Option (CountedState Board))
    → (board_after machine who x command found).0.bus ≡ machine.bus
board_bus machine who x command None = refl
board_bus machine who x command (Some board) = refl

-- a grant and its release are over before the end of an event
pub edge_within : (activity : Activity) → nat_le (grant_edge activity + 1) 19 ≡ true
edge_within Requests = refl
edge_within Polls = refl
edge_within (Releases None) = refl
edge_within (Releases (Some signals)) = refl
edge_within (Transfers datum) = refl
edge_within (Local cmd) = refl
edge_within Other = refl

-- a release is over before the end of an event
pub release_within : (activity : Activity) → nat_le (release_edge activity) 19 ≡ true
release_within activity = le-leb (release_edge activity) 19 (omega (arith, leb-true (grant_edge activity + 1) 19 (edge_within activity)))

-- a level that is low is that of a line that is driven
low_level : (hold : Bool) → level_of (not hold) ≡ Low → hold ≡ true
low_level true low = refl
low_level false low = absurd (not_both low)

-- the same, of a line that is not released
low_before : (released hold : Bool) → (if released then High else level_of (not hold)) ≡ Low → hold ≡ true
low_before true hold low = absurd (not_both low)
low_before false hold low = low_level hold low

-- a slot that holds the bus is its holder
holder_of : (holder : Option ℕ) (slot other : ℕ) → option_map_or (λ h. h == slot) holder false ≡ true
    → option_map_or (λ h. h == other) holder false ≡ true → slot ≡ other
holder_of None slot other first second = absurd (false≢true first)
holder_of (Some h) slot other first second = sym (eqb-true h slot first) ∙ eqb-true h other second

module _ (config : Configuration) (lawful : IsLawful config) where
  module _ (b : ℕ) (there : b < length config.boards) where
    -- BBSY* of a slot, by the arbiter
    abbrev pub driven : Arbitration → Value
    driven bus = level_of (not (holds bus (slot_at config b)))

    -- BBSY* of a slot after an event with this grant and release, by the arbiter before it
    abbrev shown : Option Grant → Bool → Arbitration → Value
    shown grant released bus = if is_granted grant b then Low else (if released then High else driven bus)

    -- without a grant or a release
    shown_none : (own : Bool) (bus : Arbitration) → shown None (own && false) bus ≡ driven bus
    shown_none false bus = refl
    shown_none true bus = refl

    -- a level is low if a condition holds, and else high
    by_hold : (own hold : Bool) (v : Value) → (hold ≡ false → (if own then High else v) ≡ High)
        → (if hold then Low else (if own then High else v)) ≡ level_of (not hold)
    by_hold own true v high = refl
    by_hold own false v high = high refl

    -- after a grant the holder's slot drives BBSY*
    after_grant : (bus new : Arbitration) (own : Bool)
        → (holds new (slot_at config b) ≡ false → (if own then High else driven bus) ≡ High)
        → shown (option_and_then (grant_to config new) new.holder) own bus ≡ driven new
    after_grant bus new own high =
        rw (holder_granted config lawful new new.holder b there refl) (by_hold own (holds new (slot_at config b)) (driven bus) high)

    -- a request that is lawful
    lawful_busy : (bus : Arbitration) (slot level : ℕ) (own : Bool) (holder : Option ℕ) → bus.holder ≡ holder
        → shown (grant_of config Requests (replies.Bus (lawful_ask holder bus (bus_request level slot)).1) (lawful_ask holder bus (bus_request level slot)).0)
        (own && false) bus ≡ driven (lawful_ask holder bus (bus_request level slot)).0
    lawful_busy bus slot level own None is =
        let new = (lawful_ask None bus (bus_request level slot)).0 in
        after_grant bus new (own && false) (λ free. idle own)
      where
        idle : (own : Bool) → (if own && false then High else driven bus) ≡ High
        idle false = rw is refl
        idle true = rw is refl
    lawful_busy bus slot level own (Some holder) is = shown_none own bus

    -- a request
    ask_busy : (bus : Arbitration) (slot level : ℕ) (own : Bool)
        → shown (grant_of config Requests (replies.Bus (ask_step bus slot level).1) (ask_step bus slot level).0) (own && false) bus
        ≡ driven (ask_step bus slot level).0
    ask_busy bus slot level own =
        elim (cases_Bool (can_ask bus slot level)) [
          | inl can ↦ rw can (lawful_busy bus slot level own bus.holder refl)
          | inr cannot ↦ rw cannot (shown_none own bus)
        ]

    -- a release
    done_busy : (bus : Arbitration) (own : ℕ) → own < length config.boards
        → (let new = (done_step bus (slot_at config own)).0 in
        shown (option_and_then (grant_to config new) new.holder) (own == b && true) bus ≡ driven new)
    done_busy bus own own_there =
        elim (cases_Bool (holds bus (slot_at config own))) [
          | inl held ↦ rw held (after_grant bus (bus_after_release (next_granted bus) bus) (own == b && true) (λ free. freed held))
          | inr idle ↦ rw idle (after_grant bus bus (own == b && true) (λ free. kept free))
        ]
      where
        high : holds bus (slot_at config b) ≡ false → (mine : Bool) → (if mine && true then High else driven bus) ≡ High
        high free true = refl
        high free false = rw free refl

        kept : holds bus (slot_at config b) ≡ false → (if own == b && true then High else driven bus) ≡ High
        kept free = high free (own == b)

        freed : holds bus (slot_at config own) ≡ true → (if own == b && true then High else driven bus) ≡ High
        freed held =
            elim (eqb_tells own b) [
              | inl same ↦ rw same.0 refl
              | inr other ↦
                  elim (cases_Bool (holds bus (slot_at config b))) [
                    | inl also ↦
                        absurd (other.1 (same_board config lawful own b own_there there (holder_of bus.holder (slot_at config own) (slot_at config b) held also)))
                    | inr free ↦ kept free
                  ]
            ]

    -- an event that leaves the bus alone
    kept_busy : (before after : Machine) (own : Bool) → after.bus ≡ before.bus → shown None (own && false) before.bus.object ≡ driven after.bus.object
    kept_busy before after own same = shown_none own before.bus.object ∙ ap (λ (bus : CountedState Arbitration). driven bus.object) (sym same)

    -- what an event shows of the slot's BBSY*, and what the arbiter has after it, are the same
    abbrev IsSame : Arbitration → Bool → Activity → Machine × EventReply → Type 0
    IsSame bus own activity r = shown (grant_of config activity r.1 r.0.bus.object) (own && releases activity) bus ≡ driven r.0.bus.object

    -- BBSY* of the slot after an event is that of the arbiter after it
    busy_by : (before after : Machine) (own : ℕ) (activity : Activity) (reply : EventReply) (call : Call) → own < length config.boards
        → IsShownAs own (slot_at config own) (level_at config own) activity call → (after, reply) ≡ machine_step before own call
        → IsSame before.bus.object (own == b) activity (after, reply)
    busy_by before after own Requests reply call own_there is step =
        subst (IsSame before.bus.object (own == b) Requests) (sym (step ∙ ap (machine_step before own) is))
        (ask_busy before.bus.object (slot_at config own) (level_at config own) (own == b))
    busy_by before after own Polls reply call own_there is step =
        subst (IsSame before.bus.object (own == b) Polls) (sym (step ∙ ap (machine_step before own) is)) (shown_none (own == b) before.bus.object)
    busy_by before after own (Releases signals) reply call own_there is step =
        subst (IsSame before.bus.object (own == b) (Releases signals)) (sym (step ∙ ap (machine_step before own) is))
        (done_busy before.bus.object own own_there)
    busy_by before after own (Transfers datum) reply call own_there is step =
        let next = machine_step before own (OnBoard datum.board is.0) in
        subst (IsSame before.bus.object (own == b) (Transfers datum)) (sym (step ∙ ap (machine_step before own) is.1))
        (kept_busy before next.0 (own == b) (board_bus before own datum.board is.0 (slice_get before.boards datum.board)))
    busy_by before after own (Local cmd) reply call own_there is step =
        let next = machine_step before own (OnBoard own (command_given cmd)) in
        subst (IsSame before.bus.object (own == b) (Local cmd)) (sym (step ∙ ap (machine_step before own) is))
        (kept_busy before next.0 (own == b) (board_bus before own own (command_given cmd) (slice_get before.boards own)))
    busy_by before after own Other reply call own_there is step = absurd is

    -- what an event shows of the slot's BBSY*, after all its edges
    step_shown : (before after : Machine) (o : Observation) → IsStepShown config before o after
        → shown o.grant (o.board == b && releases o.activity) before.bus.object ≡ driven after.bus.object
    step_shown before after o step =
        ap (λ (g : Option Grant). shown g (o.board == b && releases o.activity) before.bus.object) step.grant
        ∙ busy_by before after o.board o.activity o.reply step.call step.there step.shown step.step

    -- BBSY* of the slot after an event, by its value before it
    event_busy : (before after : Machine) (n : ℕ) (o : Observation) → IsStepShown config before o after
        → after_event (busy_line b) (length config.boards) n o (driven before.bus.object) ≡ driven after.bus.object
    event_busy before after n o step =
        busy_at (length config.boards) n o b there 19 (driven before.bus.object)
        ∙ pulse_late High Low (driven before.bus.object) (o.board == b && releases o.activity) (is_granted o.grant b)
        (release_edge o.activity) (grant_edge o.activity + 1) 19 (release_within o.activity) (edge_within o.activity)
        ∙ step_shown before after o step

    -- BBSY* of the slot after some events
    pub run_busy : (before : Machine) (events : List Observation) (after : Machine) (n : ℕ) → IsRunShown config before events after
        → after_events (busy_line b) (length config.boards) n events (driven before.bus.object) ≡ driven after.bus.object
    run_busy before [] after n same = ap (λ (m : Machine). driven m.bus.object) (sym same)
    run_busy before (o ∷ events) after n run =
        ap (after_events (busy_line b) (length config.boards) (n + 1) events) (event_busy before run.0 (n + 1) o run.1)
        ∙ run_busy run.0 events after (n + 1) run.2

    -- after a run BBSY* of the slot is that of the arbiter
    pub holder_drives : (slots : List ℕ)
        → value_after_run (busy_line b) (length config.boards) (observations config slots) High ≡ driven (state_after config slots).machine.bus.object
    holder_drives slots =
        run_busy (initial_state config).machine (observations config slots) (state_after config slots).machine 0 (run_shown config slots)

    -- if BBSY* of the slot is low at an edge, the slot holds the bus before the grant of the event, or after it
    low_holds : (before after : Machine) (n : ℕ) (o : Observation) (k : ℕ) (late : Bool) → IsStepShown config before o after
        → nat_le (grant_edge o.activity + 1) k ≡ late
        → value_at (busy_line b) (event_changes (length config.boards) n o) (driven before.bus.object) k ≡ Low
        → holds (if late then after.bus.object else before.bus.object) (slot_at config b) ≡ true
    low_holds before after n o k true step late low =
        let past : nat_le (release_edge o.activity) k ≡ true = le-leb (release_edge o.activity) k (omega (arith, leb-true (grant_edge o.activity + 1) k late)) in
        low_level (holds after.bus.object (slot_at config b))
        (sym (busy_at (length config.boards) n o b there k (driven before.bus.object)
        ∙ pulse_late High Low (driven before.bus.object) (o.board == b && releases o.activity) (is_granted o.grant b)
        (release_edge o.activity) (grant_edge o.activity + 1) k past late
        ∙ step_shown before after o step) ∙ low)
    low_holds before after n o k false step early low =
        low_before ((o.board == b && releases o.activity) && nat_le (release_edge o.activity) k) (holds before.bus.object (slot_at config b))
        (sym (busy_at (length config.boards) n o b there k (driven before.bus.object)
        ∙ pulse_early High Low (driven before.bus.object) (o.board == b && releases o.activity) (is_granted o.grant b)
        (release_edge o.activity) (grant_edge o.activity + 1) k early) ∙ low)

  -- the event after the first ones of a run is one step of the machine
  pub split_run : (before : Machine) (events later : List Observation) (o : Observation) (after : Machine) → IsRunShown config before (events ++ o ∷ later) after
      → (here : Machine) × (next : Machine) × IsRunShown config before events here × IsStepShown config here o next
  split_run before [] later o after run = (before, run.0, refl, run.1)
  split_run before (e ∷ events) later o after run =
      let rest = split_run run.0 events later o after run.2 in
      (rest.0, rest.1, (run.0, run.1, rest.2), rest.3)

  -- at each edge of each event of a run at most one slot drives BBSY*
  pub one_drives : (slots : List ℕ) (events later : List Observation) (o : Observation) (k a b : ℕ) → a < length config.boards → b < length config.boards
      → observations config slots ≡ events ++ o ∷ later
      → value_in_run (busy_line a) (length config.boards) events o High k ≡ Low
      → value_in_run (busy_line b) (length config.boards) events o High k ≡ Low → a ≡ b
  one_drives slots events later o k a b there_a there_b whole low_a low_b =
      let start = (initial_state config).machine in
      let run = subst (λ (all : List Observation). IsRunShown config start all (state_after config slots).machine) whole (run_shown config slots) in
      let parts = split_run start events later o (state_after config slots).machine run in
      let late = nat_le (grant_edge o.activity + 1) k in
      let bus = if late then parts.1.bus.object else parts.0.bus.object in
      let holds_a = low_holds a there_a parts.0 parts.1 (length events + 1) o k late parts.3 refl
      (sym (ap (λ (v : Value). value_at (busy_line a) (event_changes (length config.boards) (length events + 1) o) v k) (run_busy a there_a start events parts.0 0 parts.2)) ∙ low_a) in
      let holds_b = low_holds b there_b parts.0 parts.1 (length events + 1) o k late parts.3 refl
      (sym (ap (λ (v : Value). value_at (busy_line b) (event_changes (length config.boards) (length events + 1) o) v k) (run_busy b there_b start events parts.0 0 parts.2)) ∙ low_b) in
      same_board config lawful a b there_a there_b (holder_of bus.holder (slot_at config a) (slot_at config b) holds_a holds_b)
