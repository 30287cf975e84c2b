-- At each sample of a run, BBSY* and the slots that drive it are those of a holder of the bus.
use Rattle.std.proofs.Common.{◌≡◌, ℕ, ◌+◌, ◌<◌, ◌==◌, ◌&&◌, Bool, true, false, not, if◌then◌else◌, List, [], ◌∷◌, ◌++◌, length, Option, Some, None, is_some, is_none, refl, ap, sym, subst, ◌∙◌, arith, inl, inr}
use Rattle.std.specs.Prelude.{nat_le}
use Rattle.std.proofs.lemmas.Bool.{cases_Bool, eq-eqb, ne_eqb, le-leb, leb-true}
use Rattle.std.proofs.lemmas.Option.{same_Some}
use Rattle.vme_core.specs.Runs.{Machine}
use Rattle.vme_arbiter.specs.Arbitration.{holds}
use Rattle.vme_script.specs.Configurations.{Configuration}
use Rattle.vme_script.specs.Lawful.{IsLawful}
use Rattle.vme_line_task.specs.Scripts.{slot_at}
use Rattle.vme_stepper.specs.Turns.{initial_state, state_after}
use Rattle.vme_trace.specs.declared.observation.Observation.{Observation}
use Rattle.vme_trace.specs.Observations.{observations}
use Rattle.vme_trace.specs.declared.dump.change.Value.{Value}
use Rattle.vme_trace.specs.declared.dump.change.Value.TheVariants.{Low, High, Free, Released, Number, Lanes, Grants}
use Rattle.vme_trace.specs.declared.dump.handshake.Handshake.{Handshake}
use Rattle.vme_trace.specs.Handshakes.{first_handshake}
use Rattle.vme_trace.specs.Changes.{level_of}
use Rattle.vme_trace.specs.Slots.{releases, release_edge, grant_edge, is_granted}
use Rattle.vme_trace.specs.Shown.{value_after_run, value_in_run}
use Rattle.vme_trace_laws.specs.Steps.{IsStepShown, IsRunShown}
use Rattle.vme_trace_laws.specs.Shown.{address_strobe}
use Rattle.vme_trace_laws.specs.Transfers.{open_transfer}
use Rattle.vme_trace_laws.specs.Values.{bus_busy_line, busy_line}
use Rattle.vme_trace_laws.proofs.lemmas.Waves.{pulse_at, pulse_late, pulse_early, busy_at, bus_busy_at}
use Rattle.vme_trace_laws.proofs.lemmas.Turns.{run_busy, edge_within, release_within, has_levels, run_bus_busy, opening_seated, AreGranted, run_granted, same_board, at_event, low_driven}
use Rattle.vme_legal_traces.specs.Samples.{is_high, sample_of, edge_sample}
use Rattle.vme_legal_traces.specs.Kept.{strict_scope}
use Rattle.vme_protocol.specs.Arbitration.{two_hold}
use Rattle.vme_legal_traces.proofs.Steps.{value_next}
use Rattle.vme_legal_traces.proofs.Seated.{Seated, run_seated, event_seated, holder_board}
use Rattle.vme_legal_traces.proofs.Driven.{held_by, one_holds}

-- the level that is shown of one
shown_level : (level : Bool) → is_high (level_of level) ≡ level
shown_level true = refl
shown_level false = refl

-- not and not again
not_not : (b : Bool) → not (not b) ≡ b
not_not true = refl
not_not false = refl

-- a value that has not been released
unreleased : (falls begun : Bool) (v : Value) → falls && begun ≡ false → (if falls && begun then High else v) ≡ v
unreleased falls begun v none = rw none refl

-- a value that has been
released_high : (falls begun : Bool) (v : Value) → falls && begun ≡ true → (if falls && begun then High else v) ≡ High
released_high falls begun v is = rw is refl

-- a slot of its own that releases
own_releases : (own released begun : Bool) → own ≡ true → released && begun ≡ true → (own && released) && begun ≡ true
own_releases true released begun own is = is
own_releases false released begun own is = absurd cc

-- a slot that does not release
not_releases : (own released begun : Bool) → released && begun ≡ false → (own && released) && begun ≡ false
not_releases true released begun is = is
not_releases false released begun is = refl

-- another slot does not release
other_keeps : (own released begun : Bool) → own ≡ false → (own && released) && begun ≡ false
other_keeps false released begun own = refl
other_keeps true released begun own = absurd cc

module _ (config : Configuration) (lawful : IsLawful config) where
  -- an event after some events: the machines before and after it, and who releases the bus
  pub record IsHere (start : Machine) (events : List Observation) (o : Observation) : Type 0 where
    pub here : Machine
    pub next : Machine
    pub run : IsRunShown config start events here
    pub more : IsRunShown config start (events ++ o ∷ []) next
    pub step : IsStepShown config here o next
    pub release : releases o.activity ≡ true → here.bus.object.holder ≡ Some (slot_at config o.board)

  -- an event in events that are granted
  find_here : (start after : Machine) (events later : List Observation) (o : Observation) → AreGranted config start (events ++ o ∷ later) after → IsHere start events o
  find_here start after [] later o run =
      record { here = start; next = run.0; run = refl; more = (run.0, run.1, refl); step = run.1; release = run.2 }
  find_here start after (e ∷ events) later o run =
      let rest = find_here run.0 after events later o run.4 in
      record { here = rest.here; next = rest.next; run = (run.0, run.1, rest.run); more = (run.0, run.1, rest.more); step = rest.step; release = rest.release }

  module _ (slots : List ℕ) (events later : List Observation) (o : Observation) (whole : observations config slots ≡ events ++ o ∷ later) where
    -- the event
    pub at : IsHere (initial_state config).machine events o
    at =
        find_here (initial_state config).machine (state_after config slots).machine events later o
        (subst (λ (all : List Observation). AreGranted config (initial_state config).machine all (state_after config slots).machine) whole
        (run_granted config lawful slots))

    -- BBSY* of a slot before the event
    pub slot_before : (b : ℕ) → b < length config.boards
        → value_after_run (busy_line b) (length config.boards) events High ≡ level_of (not (holds at.here.bus.object (slot_at config b)))
    slot_before b there = run_busy config lawful b there (initial_state config).machine events at.here 0 at.run

    -- and after it
    slot_after : (b : ℕ) → b < length config.boards
        → value_in_run (busy_line b) (length config.boards) events o High 19 ≡ level_of (not (holds at.next.bus.object (slot_at config b)))
    slot_after b there =
        sym (value_next (busy_line b) (length config.boards) events o High)
        ∙ run_busy config lawful b there (initial_state config).machine (events ++ o ∷ []) at.next 0 at.more

    -- BBSY* of the bus before the event
    bus_before : value_after_run bus_busy_line (length config.boards) events High ≡ level_of (is_none at.here.bus.object.holder)
    bus_before = run_bus_busy config lawful (initial_state config).machine events at.here 0 at.run (opening_seated config lawful)

    -- and after it
    bus_after : value_in_run bus_busy_line (length config.boards) events o High 19 ≡ level_of (is_none at.next.bus.object.holder)
    bus_after =
        sym (value_next bus_busy_line (length config.boards) events o High)
        ∙ run_bus_busy config lawful (initial_state config).machine (events ++ o ∷ []) at.next 0 at.more (opening_seated config lawful)

    -- the slots whose holder has a board
    seated_here : Seated config lawful at.here.bus.object
    seated_here = run_seated config lawful (initial_state config).machine events at.here at.run (opening_seated config lawful)

    -- the same after the event
    seated_next : Seated config lawful at.next.bus.object
    seated_next = event_seated config lawful at.here at.next o at.step seated_here

    module _ (k : ℕ) where
      -- a slot at an edge of the event
      pub slot_here : (b : ℕ) → b < length config.boards
          → value_in_run (busy_line b) (length config.boards) events o High k
          ≡ pulse_at High Low (o.board == b && releases o.activity) (is_granted o.grant b) (release_edge o.activity) (grant_edge o.activity + 1) k
          (value_after_run (busy_line b) (length config.boards) events High)
      slot_here b there = busy_at (length config.boards) (length events + 1) o b there k (value_after_run (busy_line b) (length config.boards) events High)

      -- BBSY* of the bus at an edge of the event
      bus_here : value_in_run bus_busy_line (length config.boards) events o High k
          ≡ pulse_at High Low (releases o.activity) (is_some o.grant) (release_edge o.activity) (grant_edge o.activity + 1) k
          (value_after_run bus_busy_line (length config.boards) events High)
      bus_here =
          bus_busy_at (length config.boards) (length events + 1) o (has_levels config lawful at.here at.next o at.step) k
          (value_after_run bus_busy_line (length config.boards) events High)

      -- the sample has a holder
      abbrev pub HasHolder : Option ℕ → Type 0
      HasHolder holder =
          (is_high (value_in_run bus_busy_line (length config.boards) events o High k) ≡ is_none holder)
          × ((b : ℕ) → b < length config.boards
          → not (is_high (value_in_run (busy_line b) (length config.boards) events o High k)) ≡ held_by holder (slot_at config b))

      -- from the grant on it is that after the event
      pub late_holder : nat_le (grant_edge o.activity + 1) k ≡ true → HasHolder at.next.bus.object.holder
      late_holder late =
          let past : nat_le (release_edge o.activity) k ≡ true = le-leb (release_edge o.activity) k (omega (arith, leb-true (grant_edge o.activity + 1) k late)) in (
            ap is_high (bus_here
                ∙ pulse_late High Low _ (releases o.activity) (is_some o.grant) (release_edge o.activity) (grant_edge o.activity + 1) k past late
                ∙ sym (pulse_late High Low _ (releases o.activity) (is_some o.grant) (release_edge o.activity) (grant_edge o.activity + 1) 19
                (release_within o.activity) (edge_within o.activity))
                ∙ sym (bus_busy_at (length config.boards) (length events + 1) o (has_levels config lawful at.here at.next o at.step) 19
                (value_after_run bus_busy_line (length config.boards) events High)) ∙ bus_after)
                ∙ shown_level (is_none at.next.bus.object.holder),
            λ b there.
                ap (λ (v : Value). not (is_high v)) (slot_here b there
                ∙ pulse_late High Low _ (o.board == b && releases o.activity) (is_granted o.grant b) (release_edge o.activity) (grant_edge o.activity + 1) k past late
                ∙ sym (pulse_late High Low _ (o.board == b && releases o.activity) (is_granted o.grant b) (release_edge o.activity) (grant_edge o.activity + 1) 19
                (release_within o.activity) (edge_within o.activity))
                ∙ sym (busy_at (length config.boards) (length events + 1) o b there 19 (value_after_run (busy_line b) (length config.boards) events High))
                ∙ slot_after b there)
                ∙ ap not (shown_level (not (holds at.next.bus.object (slot_at config b)))) ∙ not_not (holds at.next.bus.object (slot_at config b)),
          )

      -- before it, and before a release, it is that before the event
      pub early_holder : nat_le (grant_edge o.activity + 1) k ≡ false → releases o.activity && nat_le (release_edge o.activity) k ≡ false → HasHolder at.here.bus.object.holder
      early_holder early kept = (
        ap is_high (bus_here
            ∙ pulse_early High Low _ (releases o.activity) (is_some o.grant) (release_edge o.activity) (grant_edge o.activity + 1) k early
            ∙ unreleased (releases o.activity) (nat_le (release_edge o.activity) k) _ kept ∙ bus_before)
            ∙ shown_level (is_none at.here.bus.object.holder),
        λ b there.
            ap (λ (v : Value). not (is_high v)) (slot_here b there
            ∙ pulse_early High Low _ (o.board == b && releases o.activity) (is_granted o.grant b) (release_edge o.activity) (grant_edge o.activity + 1) k early
            ∙ unreleased (o.board == b && releases o.activity) (nat_le (release_edge o.activity) k) _
            (not_releases (o.board == b) (releases o.activity) (nat_le (release_edge o.activity) k) kept)
            ∙ slot_before b there)
            ∙ ap not (shown_level (not (holds at.here.bus.object (slot_at config b)))) ∙ not_not (holds at.here.bus.object (slot_at config b)),
      )

      -- after a release there is none
      pub no_holder : nat_le (grant_edge o.activity + 1) k ≡ false → releases o.activity && nat_le (release_edge o.activity) k ≡ true → HasHolder None
      no_holder early gone = (
        ap is_high (bus_here
            ∙ pulse_early High Low _ (releases o.activity) (is_some o.grant) (release_edge o.activity) (grant_edge o.activity + 1) k early
            ∙ released_high (releases o.activity) (nat_le (release_edge o.activity) k) _ gone),
        λ b there.
            ap (λ (v : Value). not (is_high v)) (slot_here b there
            ∙ pulse_early High Low _ (o.board == b && releases o.activity) (is_granted o.grant b) (release_edge o.activity) (grant_edge o.activity + 1) k early
            ∙ slot_gone b there),
      )
        where
          slot_gone : (b : ℕ) → b < length config.boards
              → (if (o.board == b && releases o.activity) && nat_le (release_edge o.activity) k then High
              else value_after_run (busy_line b) (length config.boards) events High) ≡ High
          slot_gone b there =
              elim (cases_Bool (o.board == b)) [
                | inl own ↦
                    released_high (o.board == b && releases o.activity) (nat_le (release_edge o.activity) k) _
                    (own_releases (o.board == b) (releases o.activity) (nat_le (release_edge o.activity) k) own gone)
                | inr other ↦
                    unreleased (o.board == b && releases o.activity) (nat_le (release_edge o.activity) k) _
                    (other_keeps (o.board == b) (releases o.activity) (nat_le (release_edge o.activity) k) other)
                    ∙ slot_before b there
                    ∙ ap (λ (h : Option ℕ). level_of (not (held_by h (slot_at config b)))) (at.release (left (releases o.activity) (nat_le (release_edge o.activity) k) gone))
                    ∙ ap (λ same. level_of (not same))
                    (ne_eqb (slot_at config o.board) (slot_at config b)
                    (λ same. true_false (o.board == b) (eq-eqb o.board b (same_board config lawful o.board b at.step.there there same)) other))
              ]
            where
              left : (a b : Bool) → (a && b) ≡ true → a ≡ true
              left true b h = refl
              left false b h = absurd cc

              true_false : (b : Bool) → b ≡ true → b ≡ false → ⊥
              true_false true is not = absurd cc
              true_false false is not = absurd cc

      -- the slot that holds the bus has a board
      abbrev Boards : Option ℕ → Type 0
      Boards holder = (slot : ℕ) → holder ≡ Some slot → (b : ℕ) × (b < length config.boards) × (slot_at config b ≡ slot)

      -- the test of a sample that has a holder
      pub with_holder : (timeout : ℕ) (holder : Option ℕ) → HasHolder holder → Boards holder → two_hold (strict_scope timeout) (edge_sample config events o k) ≡ false
      unfolding sample_of
      with_holder timeout holder has boards =
          one_holds config lawful timeout (edge_sample config events o k) holder
          (λ b. not (is_high (value_in_run (busy_line b) (length config.boards) events o High k))) has.0 refl has.1 boards

      -- one slot holds the bus at each sample
      pub sample_held : (timeout : ℕ) → two_hold (strict_scope timeout) (edge_sample config events o k) ≡ false
      sample_held timeout =
          elim (cases_Bool (nat_le (grant_edge o.activity + 1) k)) [
            | inl late ↦
                with_holder timeout at.next.bus.object.holder (late_holder late) (λ slot is. holder_board config lawful at.next.bus.object slot seated_next is)
            | inr early ↦ elim (cases_Bool (releases o.activity && nat_le (release_edge o.activity) k)) [
              | inl gone ↦ with_holder timeout None (no_holder early gone) (λ slot is. absurd (cc is))
              | inr kept ↦
                  with_holder timeout at.here.bus.object.holder (early_holder early kept)
                  (λ slot is. holder_board config lawful at.here.bus.object slot seated_here is)
            ]
          ]

      -- a slot drives BBSY* only while BBSY* is low
      driven_low : (b : ℕ) → b < length config.boards → (holder : Option ℕ) → HasHolder holder
          → value_in_run (busy_line b) (length config.boards) events o High k ≡ Low
          → is_high (value_in_run bus_busy_line (length config.boards) events o High k) ≡ false
      driven_low b there holder has low = has.0 ∙ some_holder holder (sym (has.1 b there) ∙ ap (λ (v : Value). not (is_high v)) low)
        where
          some_holder : (holder : Option ℕ) → held_by holder (slot_at config b) ≡ true → is_none holder ≡ false
          some_holder None is = absurd cc
          some_holder (Some slot) is = refl

      -- the same, for each holder
      busy_low : (b : ℕ) → b < length config.boards → value_in_run (busy_line b) (length config.boards) events o High k ≡ Low
          → is_high (value_in_run bus_busy_line (length config.boards) events o High k) ≡ false
      busy_low b there low =
          elim (cases_Bool (nat_le (grant_edge o.activity + 1) k)) [
            | inl late ↦ driven_low b there at.next.bus.object.holder (late_holder late) low
            | inr early ↦ elim (cases_Bool (releases o.activity && nat_le (release_edge o.activity) k)) [
              | inl gone ↦ driven_low b there None (no_holder early gone) low
              | inr kept ↦ driven_low b there at.here.bus.object.holder (early_holder early kept) low
            ]
          ]

      -- the board of the transfer that an event belongs to is there
      transfer_there : (found : Option Handshake) (b : ℕ) → (if is_some found then Some o.board else open_transfer events) ≡ Some b → b < length config.boards
      transfer_there (Some t) b is = subst (λ (n : ℕ). n < length config.boards) (same_Some _ _ is) at.step.there
      transfer_there None b is = ((at_event config lawful slots events later o whole).order.open_holds b is).0

      -- a line that is not high is low
      low_of : (v : Value) → is_high v ≡ false → v ≡ Low
      low_of Low is = refl
      low_of High is = absurd cc
      low_of Free is = absurd cc
      low_of Released is = absurd cc
      low_of (Number width number) is = absurd cc
      low_of (Lanes lanes) is = absurd cc
      low_of (Grants bits) is = absurd cc

      -- AS* is low only while BBSY* is
      pub strobe_busy : (edge_sample config events o k).address_strobe ≡ false → (edge_sample config events o k).busy ≡ false
      unfolding sample_of
      strobe_busy low =
          let driven = low_driven config lawful slots events later o whole k (low_of (value_in_run address_strobe (length config.boards) events o High k) low) in
          busy_low driven.0 (transfer_there (first_handshake o.activity o.reply) driven.0 driven.1) driven.2
