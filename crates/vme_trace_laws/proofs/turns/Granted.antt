-- A grant goes to a slot that requests the bus, while BBSY* is high.
use Rattle.std.proofs.Common.{◌≡◌, ℕ, ◌+◌, ◌<◌, ◌≤◌, ◌==◌, ◌&&◌, Bool, true, false, not, if◌then◌else◌, List, ◌∷◌, ◌++◌, length, Option, Some, None, refl, ap, sym, subst, ◌∙◌, arith, inl, inr, ◌⊎◌}
use Rattle.std.specs.Prelude.{nat_le, option_map, is_some, is_none}
use Rattle.std.specs.Option.{option_and_then, option_map_or}
use Rattle.std.proofs.lemmas.Bool.{cases_Bool, false≢true, eq-eqb, le-leb, lt-leb}
use Rattle.std.proofs.lemmas.Option.{same_Some}
use Rattle.vme_arbiter.specs.declared.command.ArbCmd.TheVariants as commands
use Rattle.vme_arbiter.specs.declared.command.ArbReply.TheVariants as arb_replies
use Rattle.vme_arbiter.specs.Requests.{BusRequest, bus_request}
use Rattle.vme_arbiter.specs.Arbitration.{Arbitration, holds, pends, can_ask, lawful_ask, ask_step, bus_after_release, next_granted, done_step}
use Rattle.vme_core.specs.declared.event.EventReply.{EventReply}
use Rattle.vme_core.specs.declared.event.EventReply.TheVariants as replies
use Rattle.vme_core.specs.Runs.{Machine}
use Rattle.vme_core.specs.Calls.{Call, OnBus, machine_step}
use Rattle.vme_script.specs.Configurations.{Configuration}
use Rattle.vme_script.specs.Lawful.{IsLawful}
use Rattle.vme_line_task.specs.Scripts.{slot_at, level_at}
use Rattle.vme_stepper.specs.Turns.{board_in_slot, initial_state, state_after}
use Rattle.vme_trace.specs.declared.observation.activity.Activity.{Activity}
use Rattle.vme_trace.specs.declared.observation.activity.Activity.TheVariants.{Requests, Polls, Releases, Transfers, Local, Other}
use Rattle.vme_trace.specs.declared.observation.grant.Grant.{Grant}
use Rattle.vme_trace.specs.declared.observation.Observation.{Observation}
use Rattle.vme_trace.specs.Grants.{grant, grant_to, grant_of}
use Rattle.vme_trace.specs.Observations.{observations}
use Rattle.vme_trace.specs.declared.dump.change.Value.{Value}
use Rattle.vme_trace.specs.declared.dump.change.Value.TheVariants.{Low, High}
use Rattle.vme_trace.specs.Changes.{level_of}
use Rattle.vme_trace.specs.Slots.{requests, releases, release_edge, grant_edge, is_granted}
use Rattle.vme_trace.specs.Shown.{value_after_run, value_in_run}
use Rattle.vme_trace_laws.specs.Grants.{request_line}
use Rattle.vme_trace_laws.specs.Values.{bus_busy_line}
use Rattle.vme_trace_laws.specs.Steps.{IsShownAs, IsStepShown, IsRunShown}
use Rattle.vme_trace_laws.proofs.waves.Arbitration.{bus_busy_at}
use Rattle.vme_trace_laws.proofs.waves.Grants.{request_at}
use Rattle.vme_trace_laws.proofs.waves.Values.{pulse_early}
use Rattle.vme_trace_laws.proofs.turns.Arbiter.{grants, ask_grants}
use Rattle.vme_trace_laws.proofs.turns.Busy.{split_run}
use Rattle.vme_trace_laws.proofs.turns.Holders.{run_bus_busy, opening_seated}
use Rattle.vme_trace_laws.proofs.turns.Numbers.{has_levels, level_below}
use Rattle.vme_trace_laws.proofs.turns.Places.{named_slot, same_board}
use Rattle.vme_trace_laws.proofs.turns.Runs.{place_below, run_shown}
use Rattle.vme_trace_laws.proofs.turns.PendingRequests.{asks, asks_found, turns_here}

-- whether a reply grants the bus
abbrev reply_grants : EventReply → Bool
reply_grants (replies.Bus reply) = grants reply
reply_grants (replies.Board reply) = false

-- a request that is granted found the bus free
ask_free_by : (bus : Arbitration) (slot level : ℕ) (holder : Option ℕ) → bus.holder ≡ holder
    → grants (lawful_ask holder bus (bus_request level slot)).1 ≡ true → bus.holder ≡ None
ask_free_by bus slot level None is granted = is
ask_free_by bus slot level (Some h) is granted = absurd (false≢true granted)

-- the same, whether the slot can request the bus or not
ask_free : (bus : Arbitration) (slot level : ℕ) (can : Bool)
    → grants (if can then lawful_ask bus.holder bus (bus_request level slot) else (bus, arb_replies.Denied)).1 ≡ true → bus.holder ≡ None
ask_free bus slot level true granted = ask_free_by bus slot level bus.holder refl granted
ask_free bus slot level false granted = absurd (false≢true granted)

module _ (config : Configuration) (lawful : IsLawful config) where
  -- the board, the slot and the level of a grant
  record IsPlaced (bus : Arbitration) (g : Grant) : Type 0 where
    there : g.board < length config.boards
    slot : g.slot ≡ slot_at config g.board
    level : g.level ≡ level_at config g.board
    holder : bus.holder ≡ Some g.slot

  -- of a grant to a slot
  slot_placed : (bus : Arbitration) (slot : ℕ) (place : Option ℕ) (g : Grant) → bus.holder ≡ Some slot → board_in_slot config slot ≡ place
      → option_map (grant config bus slot) place ≡ Some g → IsPlaced bus g
  slot_placed bus slot None g held at is = absurd (cc is)
  slot_placed bus slot (Some board) g held at is =
      subst (IsPlaced bus) (same_Some _ _ is) (record {
        there = place_below config.boards slot board at;
        slot = sym (named_slot config.boards slot board at);
        level = refl;
        holder = held;
      })

  -- of a grant to the holder
  holder_placed : (bus : Arbitration) (holder : Option ℕ) (g : Grant) → bus.holder ≡ holder → option_and_then (grant_to config bus) holder ≡ Some g
      → IsPlaced bus g
  holder_placed bus None g held is = absurd (cc is)
  holder_placed bus (Some slot) g held is = slot_placed bus slot (board_in_slot config slot) g held refl is

  -- of a grant
  granted_placed : (bus : Arbitration) (activity : Activity) (reply : EventReply) (g : Grant) → grant_of config activity reply bus ≡ Some g → IsPlaced bus g
  granted_placed bus Requests (replies.Bus arb_replies.Granted) g is = holder_placed bus bus.holder g refl is
  granted_placed bus Requests (replies.Bus arb_replies.Waiting) g is = absurd (cc is)
  granted_placed bus Requests (replies.Bus arb_replies.Freed) g is = absurd (cc is)
  granted_placed bus Requests (replies.Bus arb_replies.Denied) g is = absurd (cc is)
  granted_placed bus Requests (replies.Board reply) g is = absurd (cc is)
  granted_placed bus Polls reply g is = absurd (cc is)
  granted_placed bus (Releases signals) reply g is = holder_placed bus bus.holder g refl is
  granted_placed bus (Transfers datum) reply g is = absurd (cc is)
  granted_placed bus (Local cmd) reply g is = absurd (cc is)
  granted_placed bus Other reply g is = absurd (cc is)

  -- a request with a grant was granted
  request_grants : (reply : EventReply) (bus : Arbitration) (g : Grant) → grant_of config Requests reply bus ≡ Some g → reply_grants reply ≡ true
  request_grants (replies.Bus arb_replies.Granted) bus g is = refl
  request_grants (replies.Bus arb_replies.Waiting) bus g is = absurd (cc is)
  request_grants (replies.Bus arb_replies.Freed) bus g is = absurd (cc is)
  request_grants (replies.Bus arb_replies.Denied) bus g is = absurd (cc is)
  request_grants (replies.Board reply) bus g is = absurd (cc is)

  -- after a release the bus is granted to a slot whose request was pending
  released_to : (bus : Arbitration) (next : Option BusRequest) (slot : ℕ) → next_granted bus ≡ next → (bus_after_release next bus).holder ≡ Some slot
      → pends bus slot ≡ true
  released_to bus None slot is held = absurd (cc held)
  released_to bus (Some r) slot is held =
      subst (λ (s : ℕ). asks s bus.pending ≡ true) (same_Some r.slot slot held) (asks_found _ bus.pending r is)

  -- a release by the holder grants the bus to a slot whose request was pending
  done_to : (bus : Arbitration) (own slot : ℕ) → holds bus own ≡ true → (done_step bus own).0.holder ≡ Some slot → pends bus slot ≡ true
  done_to bus own slot held is = released_to bus (next_granted bus) slot refl (rw held at is)

  -- a grant is to the slot that requests the bus in the event, or to one whose request was pending
  asked_or_waits : (before after : Machine) (own : ℕ) (activity : Activity) (reply : EventReply) (call : Call) (g : Grant) → own < length config.boards
      → (releases activity ≡ true → before.bus.object.holder ≡ Some (slot_at config own))
      → IsShownAs own (slot_at config own) (level_at config own) activity call → (after, reply) ≡ machine_step before own call
      → grant_of config activity reply after.bus.object ≡ Some g
      → ((own == g.board && requests activity) ≡ true) ⊎ (pends before.bus.object (slot_at config g.board) ≡ true)
  asked_or_waits before after own Requests reply call g own_there release is step granted =
      let bus = before.bus.object in
      let slot = slot_at config own in
      let level = level_at config own in
      let made : (after, reply) ≡ machine_step before own (OnBus (commands.Ask slot level)) = step ∙ ap (machine_step before own) is in
      let reply_is : reply ≡ replies.Bus (ask_step bus slot level).1 = ap (λ (p : Machine × EventReply). p.1) made in
      let bus_is : after.bus.object ≡ (ask_step bus slot level).0 = ap (λ (p : Machine × EventReply). p.0.bus.object) made in
      let grants_it : grants (ask_step bus slot level).1 ≡ true
      = sym (ap reply_grants reply_is) ∙ request_grants reply after.bus.object g granted in
      let place = granted_placed after.bus.object Requests reply g granted in
      let held : after.bus.object.holder ≡ Some slot
      = ap (λ (b : Arbitration). b.holder) bus_is ∙ ask_grants bus slot level grants_it in
      let same : own ≡ g.board = same_board config lawful own g.board own_there place.there (same_Some slot g.slot (sym held ∙ place.holder) ∙ place.slot) in
      inl (rw (eq-eqb own g.board same) refl)
  asked_or_waits before after own (Releases signals) reply call g own_there release is step granted =
      let bus = before.bus.object in
      let slot = slot_at config own in
      let made : (after, reply) ≡ machine_step before own (OnBus (commands.Done slot)) = step ∙ ap (machine_step before own) is in
      let bus_is : after.bus.object ≡ (done_step bus slot).0 = ap (λ (p : Machine × EventReply). p.0.bus.object) made in
      let place = granted_placed after.bus.object (Releases signals) reply g granted in
      let held : (done_step bus slot).0.holder ≡ Some (slot_at config g.board)
      = sym (ap (λ (b : Arbitration). b.holder) bus_is) ∙ place.holder ∙ ap Some place.slot in
      let holds_it : holds bus slot ≡ true
      = ap (λ (h : Option ℕ). option_map_or (λ one. one == slot) h false) (release refl) ∙ eq-eqb slot slot refl in
      inr (done_to bus slot (slot_at config g.board) holds_it held)
  asked_or_waits before after own Polls reply call g own_there release is step granted = absurd (cc granted)
  asked_or_waits before after own (Transfers datum) reply call g own_there release is step granted = absurd (cc granted)
  asked_or_waits before after own (Local cmd) reply call g own_there release is step granted = absurd (cc granted)
  asked_or_waits before after own Other reply call g own_there release is step granted = absurd is

  -- a grant is with a release, or on a free bus
  released_or_free : (before after : Machine) (own : ℕ) (activity : Activity) (reply : EventReply) (call : Call) (g : Grant)
      → IsShownAs own (slot_at config own) (level_at config own) activity call → (after, reply) ≡ machine_step before own call
      → grant_of config activity reply after.bus.object ≡ Some g
      → (releases activity ≡ true) ⊎ ((releases activity ≡ false) × (before.bus.object.holder ≡ None))
  released_or_free before after own Requests reply call g is step granted =
      let bus = before.bus.object in
      let slot = slot_at config own in
      let level = level_at config own in
      let made : (after, reply) ≡ machine_step before own (OnBus (commands.Ask slot level)) = step ∙ ap (machine_step before own) is in
      let reply_is : reply ≡ replies.Bus (ask_step bus slot level).1 = ap (λ (p : Machine × EventReply). p.1) made in
      let grants_it : grants (ask_step bus slot level).1 ≡ true
      = sym (ap reply_grants reply_is) ∙ request_grants reply after.bus.object g granted in
      inr (refl, ask_free bus slot level (can_ask bus slot level) grants_it)
  released_or_free before after own (Releases signals) reply call g is step granted = inl refl
  released_or_free before after own Polls reply call g is step granted = absurd (cc granted)
  released_or_free before after own (Transfers datum) reply call g is step granted = absurd (cc granted)
  released_or_free before after own (Local cmd) reply call g is step granted = absurd (cc granted)
  released_or_free before after own Other reply call g is step granted = absurd is

  -- a value that a variable has taken
  taken : (first v : Value) (own late : Bool) → own ≡ true → late ≡ true → (if own && late then first else v) ≡ first
  taken first v own late is past = rw (is, past) refl

  module _ (slots : List ℕ) (events later : List Observation) (o : Observation) (g : Grant) (whole : observations config slots ≡ events ++ o ∷ later)
      (is : o.grant ≡ Some g) where
    -- the event, and the machine before it and after it
    abbrev Parts : Type 0
    Parts = (here : Machine) × (next : Machine) × IsRunShown config (initial_state config).machine events here × IsStepShown config here o next

    parts : Parts
    parts =
        split_run config lawful (initial_state config).machine events later o (state_after config slots).machine
        (subst (λ (all : List Observation). IsRunShown config (initial_state config).machine all (state_after config slots).machine) whole
        (run_shown config slots))

    -- the board of the grant
    placed : (g.board < length config.boards) × (g.slot ≡ slot_at config g.board) × (g.level ≡ level_at config g.board)
    placed =
        let place = granted_placed parts.1.bus.object o.activity o.reply g (sym parts.3.grant ∙ is) in (place.there, place.slot, place.level)

    -- the slot and the level of the grant are those of a board
    pub slot_granted : (g.board < length config.boards) × (g.slot ≡ slot_at config g.board) × (g.level ≡ level_at config g.board) × (g.level ≤ 3)
    slot_granted = (placed.0, placed.1, placed.2, subst (λ (level : ℕ). level ≤ 3) (sym placed.2) (level_below config lawful g.board))

    -- the slot requests the bus when the grant begins
    pub request_granted : value_in_run (request_line g.board) (length config.boards) events o High (grant_edge o.activity) ≡ Low
    request_granted =
        let at = turns_here config lawful g.board placed.0 slots events later o whole in
        let v : Value = value_after_run (request_line g.board) (length config.boards) events High in
        request_at (length config.boards) (length events + 1) o g.board placed.0 (grant_edge o.activity) v
        ∙ pulse_early Low High v (o.board == g.board && requests o.activity) (is_granted o.grant g.board) 0 (grant_edge o.activity + 2) (grant_edge o.activity)
        (lt-leb (grant_edge o.activity + 2) (grant_edge o.activity) (omega arith))
        ∙ elim (asked_or_waits at.here at.next o.board o.activity o.reply at.step.call g at.step.there at.release at.step.shown at.step.step
        (sym at.step.grant ∙ is)) [
          | inl asked ↦ taken Low v (o.board == g.board && requests o.activity) (nat_le 0 (grant_edge o.activity)) asked (le-leb 0 (grant_edge o.activity) (omega arith))
          | inr waits ↦ either (o.board == g.board && requests o.activity) (nat_le 0 (grant_edge o.activity)) v (at.waits ∙ ap (λ asked. level_of (not asked)) waits)
        ]
      where
        either : (own late : Bool) (v : Value) → v ≡ Low → (if own && late then Low else v) ≡ Low
        either own late v low =
            elim (cases_Bool (own && late)) [ inl now ↦ rw now refl | inr not_now ↦ rw not_now low ]

    -- BBSY* is high when the grant begins
    pub busy_granted : value_in_run bus_busy_line (length config.boards) events o High (grant_edge o.activity) ≡ High
    busy_granted =
        let v : Value = value_after_run bus_busy_line (length config.boards) events High in
        let before : v ≡ level_of (is_none parts.0.bus.object.holder)
        = run_bus_busy config lawful (initial_state config).machine events parts.0 0 parts.2 (opening_seated config lawful) in
        bus_busy_at (length config.boards) (length events + 1) o (has_levels config lawful parts.0 parts.1 o parts.3) (grant_edge o.activity) v
        ∙ pulse_early High Low v (releases o.activity) (is_some o.grant) (release_edge o.activity) (grant_edge o.activity + 1) (grant_edge o.activity)
        (lt-leb (grant_edge o.activity + 1) (grant_edge o.activity) (omega arith))
        ∙ elim (released_or_free parts.0 parts.1 o.board o.activity o.reply parts.3.call g parts.3.shown parts.3.step (sym parts.3.grant ∙ is)) [
          | inl released ↦ taken High v (releases o.activity) (nat_le (release_edge o.activity) (grant_edge o.activity)) released
              (le-leb (release_edge o.activity) (grant_edge o.activity) (omega arith))
          | inr free ↦ rw free.0 (before ∙ ap (λ (h : Option ℕ). level_of (is_none h)) free.1)
        ]
