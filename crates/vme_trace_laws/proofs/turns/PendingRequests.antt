-- The bus request line of a slot is low exactly if the slot's request is pending.
use Rattle.std.proofs.Common.{◌≡◌, ◌≢◌, ℕ, ◌+◌, ◌<◌, ◌==◌, ◌&&◌, ◌||◌, Bool, true, false, not, if◌then◌else◌, List, [], ◌∷◌, ◌++◌, length, Option, Some, None, refl, ap, sym, subst, ◌∙◌, inl, inr}
use Rattle.std.specs.Prelude.{slice_get, nat_le, nat_lt, find}
use Rattle.std.specs.List.{list_any}
use Rattle.std.specs.Option.{option_and_then, option_map_or}
use Rattle.std.proofs.lemmas.Bool.{cases_Bool, eq-eqb, eqb-true, ne_eqb}
use Rattle.std.proofs.lemmas.Bool.Decides.{eqb_tells}
use Rattle.std.proofs.lemmas.Option.{same_Some}
use Rattle.vme_memory.specs.Locals.{command_given}
use Rattle.vme_arbiter.specs.declared.command.ArbReply.TheVariants as arb_replies
use Rattle.vme_arbiter.specs.Requests.{BusRequest, bus_request, with_request, without_slot}
use Rattle.vme_arbiter.specs.Arbitration.{Arbitration, holds, pends, can_ask, lawful_ask, ask_step, bus_after_release, next_granted, done_step}
use Rattle.vme_arbiter.specs.Orderly as arbiter
use Rattle.vme_arbiter.proofs.lemmas.Orderly.{orderly-opening}
use Rattle.vme_core.specs.declared.event.EventReply.{EventReply}
use Rattle.vme_core.specs.declared.event.EventReply.TheVariants as replies
use Rattle.vme_core.specs.CountedStates.{CountedState}
use Rattle.vme_core.specs.Runs.{Machine}
use Rattle.vme_core.specs.Calls.{Call, OnBoard, machine_step}
use Rattle.vme_script.specs.Configurations.{Configuration}
use Rattle.vme_script.specs.Lawful.{IsLawful}
use Rattle.vme_line_task.specs.Scripts.{slot_at, level_at}
use Rattle.vme_stepper.specs.Turns.{initial_state, state_after}
use Rattle.vme_trace.specs.declared.observation.activity.Activity.{Activity}
use Rattle.vme_trace.specs.declared.observation.activity.Activity.TheVariants.{Requests, Polls, Releases, Transfers, Local, Other}
use Rattle.vme_trace.specs.declared.observation.grant.Grant.{Grant}
use Rattle.vme_trace.specs.declared.observation.Observation.{Observation}
use Rattle.vme_trace.specs.Grants.{grant_to, grant_of}
use Rattle.vme_trace.specs.Observations.{observations}
use Rattle.vme_trace.specs.declared.dump.change.Value.{Value}
use Rattle.vme_trace.specs.declared.dump.change.Value.TheVariants.{Low, High}
use Rattle.vme_trace.specs.Changes.{level_of}
use Rattle.vme_trace.specs.Slots.{requests, releases, grant_edge, is_granted}
use Rattle.vme_trace.specs.Shown.{after_event, after_events, value_after_run}
use Rattle.vme_trace_laws.specs.Grants.{request_line}
use Rattle.vme_trace_laws.specs.Steps.{IsShownAs, IsStepShown, IsRunShown}
use Rattle.vme_trace_laws.proofs.waves.Grants.{request_at}
use Rattle.vme_trace_laws.proofs.waves.Values.{pulse_late}
use Rattle.vme_trace_laws.proofs.turns.ArbiterStates.{step_orderly}
use Rattle.vme_trace_laws.proofs.turns.Busy.{board_bus}
use Rattle.vme_trace_laws.proofs.turns.Orders.{AreGranted, run_granted}
use Rattle.vme_trace_laws.proofs.turns.Places.{same_board, holder_granted}

-- whether a list has a request of a slot
abbrev pub asks : ℕ → List BusRequest → Bool
asks slot pending = list_any (λ r. r.slot == slot) pending

-- one more request of another slot
asks_with : (new : BusRequest) (pending : List BusRequest) (slot : ℕ) → (new.slot == slot) ≡ false → asks slot (with_request new pending) ≡ asks slot pending
asks_with new [] slot apart = rw apart refl
asks_with new (r ∷ pending) slot apart =
    elim (cases_Bool (nat_lt new.slot r.slot)) [
      | inl first ↦ rw (first, apart) refl
      | inr later ↦ rw later (ap (λ more. (r.slot == slot) || more) (asks_with new pending slot apart))
    ]

-- one more request is there
asks_own : (new : BusRequest) (pending : List BusRequest) → asks new.slot (with_request new pending) ≡ true
asks_own new [] = rw (eq-eqb new.slot new.slot refl) refl
asks_own new (r ∷ pending) =
    elim (cases_Bool (nat_lt new.slot r.slot)) [
      | inl first ↦ rw first (rw (eq-eqb new.slot new.slot refl) refl)
      | inr later ↦ rw later (or_true (r.slot == new.slot) (asks new.slot (with_request new pending)) (asks_own new pending))
    ]
  where
    or_true : (a b : Bool) → b ≡ true → (a || b) ≡ true
    or_true true b is = refl
    or_true false b is = is

-- without the requests of a slot it has none
asks_none : (slot : ℕ) (pending : List BusRequest) → asks slot (without_slot slot pending) ≡ false
asks_none slot [] = refl
asks_none slot (r ∷ pending) =
    elim (cases_Bool (r.slot == slot)) [
      | inl own ↦ rw own (asks_none slot pending)
      | inr other ↦ rw other (rw other (asks_none slot pending))
    ]

-- without the requests of another slot it has the same
asks_other : (gone slot : ℕ) (pending : List BusRequest) → (gone ≡ slot → ⊥) → asks slot (without_slot gone pending) ≡ asks slot pending
asks_other gone slot [] apart = refl
asks_other gone slot (r ∷ pending) apart =
    elim (cases_Bool (r.slot == gone)) [
      | inl removed ↦
          let other : (r.slot == slot) ≡ false = ne_eqb r.slot slot (λ same. apart (sym (eqb-true r.slot gone removed) ∙ same)) in
          rw (removed, other) (asks_other gone slot pending apart)
      | inr kept ↦ rw kept (ap (λ more. (r.slot == slot) || more) (asks_other gone slot pending apart))
    ]

-- a request that is found is there
pub asks_found : (test : BusRequest → Bool) (pending : List BusRequest) (r : BusRequest) → find test pending ≡ Some r → asks r.slot pending ≡ true
asks_found test [] r found = absurd (cc found)
asks_found test (x ∷ pending) r found =
    elim (cases_Bool (test x)) [
      | inl here ↦
          let same : x ≡ r = same_Some x r (rw here at found) in
          let own : (x.slot == r.slot) ≡ true = eq-eqb x.slot r.slot (ap (λ (one : BusRequest). one.slot) same) in
          rw own refl
      | inr later ↦
          let more : asks r.slot pending ≡ true = asks_found test pending r (rw later at found) in
          elim (cases_Bool (x.slot == r.slot)) [ inl own ↦ rw own refl | inr other ↦ rw other more ]
    ]

module _ (config : Configuration) (lawful : IsLawful config) where
  module _ (b : ℕ) (there : b < length config.boards) where
    -- the bus request line of a slot after an event with this grant and request, by its value before it
    abbrev shown : Option Grant → Bool → Value → Value
    shown found asked v = if is_granted found b then High else (if asked then Low else v)

    -- the line by the arbiter: low while the slot's request is pending
    abbrev pub pended : Arbitration → Value
    pended bus = level_of (not (pends bus (slot_at config b)))

    -- the line shows it
    abbrev pub Waits : Arbitration → Value → Type 0
    Waits bus v = v ≡ pended bus

    -- an event that neither grants nor requests
    quiet_waits : (own : Bool) (bus : Arbitration) (v : Value) → Waits bus v → Waits bus (shown None (own && false) v)
    quiet_waits true bus v waits = waits
    quiet_waits false bus v waits = waits

    -- a request on a free bus
    free_waits : (bus new : Arbitration) (own : ℕ) (v : Value) → new.pending ≡ bus.pending → new.holder ≡ Some (slot_at config own)
        → bus.pending ≡ [] → own < length config.boards → Waits bus v
        → Waits new (shown (option_and_then (grant_to config new) new.holder) (own == b && true) v)
    free_waits bus new own v same_pending held none own_there waits =
        let granted : is_granted (option_and_then (grant_to config new) new.holder) b ≡ (slot_at config own == slot_at config b) =
        holder_granted config lawful new new.holder b there refl
        ∙ ap (λ (h : Option ℕ). option_map_or (λ one. one == slot_at config b) h false) held in
        let kept : pended new ≡ pended bus = ap (λ (ps : List BusRequest). level_of (not (asks (slot_at config b) ps))) same_pending in
        let high : pended bus ≡ High = ap (λ (ps : List BusRequest). level_of (not (asks (slot_at config b) ps))) none in
        elim (eqb_tells own b) [
          | inl same ↦
              let mine = granted ∙ eq-eqb (slot_at config own) (slot_at config b) (ap (slot_at config) same.1) in
              rw mine (sym (kept ∙ high))
          | inr other ↦
              let not_mine = granted
              ∙ ne_eqb (slot_at config own) (slot_at config b) (λ is. other.1 (same_board config lawful own b own_there there is)) in
              rw (not_mine, other.0) (waits ∙ sym kept)
        ]

    -- a request that is lawful
    lawful_waits : (bus : Arbitration) (own level : ℕ) (holder : Option ℕ) (v : Value) → bus.holder ≡ holder → arbiter.IsOrderly bus
        → own < length config.boards → Waits bus v
        → (let made = lawful_ask holder bus (bus_request level (slot_at config own)) in
        Waits made.0 (shown (grant_of config Requests (replies.Bus made.1) made.0) (own == b && true) v))
    lawful_waits bus own level None v is orderly own_there waits =
        free_waits bus (lawful_ask None bus (bus_request level (slot_at config own))).0 own v refl refl (orderly.free is) own_there waits
    lawful_waits bus own level (Some h) v is orderly own_there waits =
        let new : BusRequest = bus_request level (slot_at config own) in
        elim (eqb_tells own b) [
          | inl same ↦
              let slot : slot_at config own ≡ slot_at config b = ap (slot_at config) same.1 in
              let there_is : asks (slot_at config b) (with_request new bus.pending) ≡ true =
              subst (λ (s : ℕ). asks s (with_request new bus.pending) ≡ true) slot (asks_own new bus.pending) in
              rw (same.0, there_is) refl
          | inr other ↦
              let apart : (slot_at config own == slot_at config b) ≡ false =
              ne_eqb (slot_at config own) (slot_at config b) (λ same. other.1 (same_board config lawful own b own_there there same)) in
              rw (other.0, asks_with new bus.pending (slot_at config b) apart) waits
        ]

    -- a request
    ask_waits : (bus : Arbitration) (own level : ℕ) (v : Value) → arbiter.IsOrderly bus → own < length config.boards
        → (ask_step bus (slot_at config own) level).1 ≢ arb_replies.Denied → Waits bus v
        → (let made = ask_step bus (slot_at config own) level in
        Waits made.0 (shown (grant_of config Requests (replies.Bus made.1) made.0) (own == b && true) v))
    ask_waits bus own level v orderly own_there undenied waits =
        elim (cases_Bool (can_ask bus (slot_at config own) level)) [
          | inl can ↦ rw can (lawful_waits bus own level bus.holder v refl orderly own_there waits)
          | inr cannot ↦ absurd (undenied (rw cannot refl))
        ]

    -- without a grant to the slot or a request of it
    other_waits : (found : Option Grant) (own : Bool) (v w : Value) → is_granted found b ≡ false → v ≡ w → shown found (own && false) v ≡ w
    other_waits found true v w none same = rw none same
    other_waits found false v w none same = rw none same

    -- a release that frees the bus, or grants it to the next slot
    release_waits : (bus : Arbitration) (own : Bool) (next : Option BusRequest) (v : Value) → next_granted bus ≡ next → Waits bus v
        → (let new = bus_after_release next bus in
        Waits new (shown (option_and_then (grant_to config new) new.holder) (own && false) v))
    release_waits bus own None v is waits = quiet_waits own (bus_after_release None bus) v waits
    release_waits bus own (Some r) v is waits =
        let new = bus_after_release (Some r) bus in
        let granted : is_granted (option_and_then (grant_to config new) new.holder) b ≡ (r.slot == slot_at config b) =
        holder_granted config lawful new new.holder b there refl in
        elim (eqb_tells r.slot (slot_at config b)) [
          | inl same ↦
              let none : asks (slot_at config b) (without_slot r.slot bus.pending) ≡ false =
              subst (λ (slot : ℕ). asks slot (without_slot r.slot bus.pending) ≡ false) same.1 (asks_none r.slot bus.pending) in
              let mine = granted ∙ same.0 in
              rw (mine, none) refl
          | inr other ↦
              other_waits (option_and_then (grant_to config new) new.holder) own v (pended new) (granted ∙ other.0)
              (waits ∙ sym (ap (λ asked. level_of (not asked)) (asks_other r.slot (slot_at config b) bus.pending other.1)))
        ]

    -- a release by the holder
    done_waits : (bus : Arbitration) (own : ℕ) (mine : Bool) (v : Value) → holds bus (slot_at config own) ≡ true → Waits bus v
        → (let new = (done_step bus (slot_at config own)).0 in
        Waits new (shown (option_and_then (grant_to config new) new.holder) (mine && false) v))
    done_waits bus own mine v held waits = rw held (release_waits bus mine (next_granted bus) v refl waits)

    -- a step and what it shows of the line
    abbrev WaitsAfter : Bool → Activity → Value → Machine × EventReply → Type 0
    WaitsAfter own activity v r =
        Waits r.0.bus.object (shown (grant_of config activity r.1 r.0.bus.object) (own && requests activity) v)

    -- an event that leaves the bus alone
    kept_waits : (before after : Machine) (own : Bool) (v : Value) → after.bus ≡ before.bus → Waits before.bus.object v
        → Waits after.bus.object (shown None (own && false) v)
    kept_waits before after own v same waits =
        subst (λ (bus : CountedState Arbitration). Waits bus.object (shown None (own && false) v)) (sym same) (quiet_waits own before.bus.object v waits)

    -- a slot that holds the bus is the holder
    holder_holds : (bus : Arbitration) (slot : ℕ) → bus.holder ≡ Some slot → holds bus slot ≡ true
    holder_holds bus slot is = ap (λ (h : Option ℕ). option_map_or (λ one. one == slot) h false) is ∙ eq-eqb slot slot refl

    -- the line after an event, by its call
    call_waits : (before after : Machine) (own : ℕ) (activity : Activity) (reply : EventReply) (call : Call) (v : Value) → own < length config.boards
        → arbiter.IsOrderly before.bus.object → (releases activity ≡ true → before.bus.object.holder ≡ Some (slot_at config own))
        → reply ≢ replies.Bus arb_replies.Denied → IsShownAs own (slot_at config own) (level_at config own) activity call
        → (after, reply) ≡ machine_step before own call → Waits before.bus.object v → WaitsAfter (own == b) activity v (after, reply)
    call_waits before after own Requests reply call v own_there orderly release undenied is step waits =
        subst (WaitsAfter (own == b) Requests v) (sym (step ∙ ap (machine_step before own) is))
        (ask_waits before.bus.object own (level_at config own) v orderly own_there
        (λ same. undenied (ap (λ (p : Machine × EventReply). p.1) (step ∙ ap (machine_step before own) is) ∙ ap replies.Bus same)) waits)
    call_waits before after own Polls reply call v own_there orderly release undenied is step waits =
        subst (WaitsAfter (own == b) Polls v) (sym (step ∙ ap (machine_step before own) is)) (quiet_waits (own == b) before.bus.object v waits)
    call_waits before after own (Releases signals) reply call v own_there orderly release undenied is step waits =
        subst (WaitsAfter (own == b) (Releases signals) v) (sym (step ∙ ap (machine_step before own) is))
        (done_waits before.bus.object own (own == b) v (holder_holds before.bus.object (slot_at config own) (release refl)) waits)
    call_waits before after own (Transfers datum) reply call v own_there orderly release undenied is step waits =
        let next = machine_step before own (OnBoard datum.board is.0) in
        subst (WaitsAfter (own == b) (Transfers datum) v) (sym (step ∙ ap (machine_step before own) is.1))
        (kept_waits before next.0 (own == b) v (board_bus before own datum.board is.0 (slice_get before.boards datum.board)) waits)
    call_waits before after own (Local cmd) reply call v own_there orderly release undenied is step waits =
        let next = machine_step before own (OnBoard own (command_given cmd)) in
        subst (WaitsAfter (own == b) (Local cmd) v) (sym (step ∙ ap (machine_step before own) is))
        (kept_waits before next.0 (own == b) v (board_bus before own own (command_given cmd) (slice_get before.boards own)) waits)
    call_waits before after own Other reply call v own_there orderly release undenied is step waits = absurd is

    -- the line after an event
    event_waits : (before after : Machine) (n : ℕ) (o : Observation) (v : Value) → IsStepShown config before o after → arbiter.IsOrderly before.bus.object
        → (releases o.activity ≡ true → before.bus.object.holder ≡ Some (slot_at config o.board)) → o.reply ≢ replies.Bus arb_replies.Denied
        → Waits before.bus.object v → Waits after.bus.object (after_event (request_line b) (length config.boards) n o v)
    event_waits before after n o v step orderly release undenied waits =
        let over : nat_le (grant_edge o.activity + 2) 19 ≡ true = request_within o.activity in
        let value : after_event (request_line b) (length config.boards) n o v ≡ shown o.grant (o.board == b && requests o.activity) v =
        request_at (length config.boards) n o b there 19 v
        ∙ pulse_late Low High v (o.board == b && requests o.activity) (is_granted o.grant b) 0 (grant_edge o.activity + 2) 19 refl over in
        let by_call : WaitsAfter (o.board == b) o.activity v (after, o.reply) =
        call_waits before after o.board o.activity o.reply step.call v step.there orderly release undenied step.shown step.step waits in
        subst (Waits after.bus.object) (sym value)
        (subst (λ (g : Option Grant). Waits after.bus.object (shown g (o.board == b && requests o.activity) v)) (sym step.grant) by_call)
      where
        request_within : (activity : Activity) → nat_le (grant_edge activity + 2) 19 ≡ true
        request_within Requests = refl
        request_within Polls = refl
        request_within (Releases None) = refl
        request_within (Releases (Some signals)) = refl
        request_within (Transfers datum) = refl
        request_within (Local cmd) = refl
        request_within Other = refl

    -- an event of a run: the machine before it and after it, and the line before it
    pub record IsHere (n : ℕ) (start : Machine) (events : List Observation) (o : Observation) (v : Value) : Type 0 where
      pub here : Machine
      pub next : Machine
      pub run : IsRunShown config start events here
      pub step : IsStepShown config here o next
      pub release : releases o.activity ≡ true → here.bus.object.holder ≡ Some (slot_at config o.board)
      pub waits : Waits here.bus.object (after_events (request_line b) (length config.boards) n events v)

    -- each event of a run has one
    is_here : (n : ℕ) (start : Machine) (events later : List Observation) (o : Observation) (v : Value) (last : Machine)
        → AreGranted config start (events ++ o ∷ later) last → arbiter.IsOrderly start.bus.object → Waits start.bus.object v → IsHere n start events o v
    is_here n start [] later o v last run orderly waits = record {
      here = start;
      next = run.0;
      run = refl;
      step = run.1;
      release = run.2;
      waits = waits;
    }
    is_here n start (e ∷ events) later o v last run orderly waits =
        let rest = is_here (n + 1) run.0 events later o (after_event (request_line b) (length config.boards) (n + 1) e v) last run.4
        (step_orderly config start run.0 e run.1 orderly) (event_waits start run.0 (n + 1) e v run.1 orderly run.2 run.3 waits) in record {
          here = rest.here;
          next = rest.next;
          run = (run.0, run.1, rest.run);
          step = rest.step;
          release = rest.release;
          waits = rest.waits;
        }

    -- each event of a run of turns has one
    pub turns_here : (slots : List ℕ) (events later : List Observation) (o : Observation) → observations config slots ≡ events ++ o ∷ later
        → IsHere 0 (initial_state config).machine events o High
    turns_here slots events later o whole =
        is_here 0 (initial_state config).machine events later o High (state_after config slots).machine
        (subst (λ (all : List Observation). AreGranted config (initial_state config).machine all (state_after config slots).machine) whole
        (run_granted config lawful slots)) (orderly-opening config.arbiter) refl

    -- the line after some events
    waits_last : (n : ℕ) (start : Machine) (events : List Observation) (v : Value) (last : Machine) → AreGranted config start events last
        → arbiter.IsOrderly start.bus.object → Waits start.bus.object v
        → Waits last.bus.object (after_events (request_line b) (length config.boards) n events v)
    waits_last n start [] v last run orderly waits = subst (λ (m : Machine). Waits m.bus.object v) (sym run) waits
    waits_last n start (e ∷ events) v last run orderly waits =
        waits_last (n + 1) run.0 events (after_event (request_line b) (length config.boards) (n + 1) e v) last run.4
        (step_orderly config start run.0 e run.1 orderly) (event_waits start run.0 (n + 1) e v run.1 orderly run.2 run.3 waits)

    -- the line after a run
    pub request_after_run : (slots : List ℕ) → value_after_run (request_line b) (length config.boards) (observations config slots) High
        ≡ pended (state_after config slots).machine.bus.object
    request_after_run slots =
        waits_last 0 (initial_state config).machine (observations config slots) High (state_after config slots).machine
        (run_granted config lawful slots) (orderly-opening config.arbiter) refl
