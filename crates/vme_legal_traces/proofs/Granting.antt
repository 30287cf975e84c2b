-- The samples of an event keep the rule of grants.
use Rattle.std.proofs.Common.{◌≡◌, ◌⊎◌, ℕ, zero, suc, ◌+◌, ◌-◌, ◌^◌, ◌<◌, ◌≤◌, ◌==◌, ◌&&◌, Bool, true, false, not, if◌then◌else◌, List, ◌∷◌, ◌++◌, length, Option, Some, None, is_none, refl, ap, sym, subst, ◌∙◌, arith, inl, inr}
use Rattle.std.specs.Prelude.{nat_le}
use Rattle.std.proofs.lemmas.Bool.{cases_Bool, ne_eqb, le-leb, lt-leb, leb-true, leb-false, false≢true}
use Rattle.std.proofs.lemmas.Bool.Decides.{eqb_tells}
use Rattle.std.proofs.lemmas.Option.{same_Some}
use Rattle.vme_script.specs.Configurations.{Configuration}
use Rattle.vme_script.specs.Lawful.{IsLawful}
use Rattle.vme_line_task.specs.Scripts.{slot_at}
use Rattle.vme_trace.specs.declared.observation.grant.Grant.{Grant}
use Rattle.vme_trace.specs.declared.observation.Observation.{Observation}
use Rattle.vme_trace.specs.Observations.{observations}
use Rattle.vme_trace.specs.declared.dump.change.Value.{Value}
use Rattle.vme_trace.specs.declared.dump.change.Value.TheVariants.{Low, High, Grants}
use Rattle.vme_trace.specs.Slots.{releases, release_edge, grant_edge, is_granted, passes_grant, grant_lines}
use Rattle.vme_trace.specs.Events.{event_changes}
use Rattle.vme_trace.specs.Shown.{value_at, value_after_run, value_in_run}
use Rattle.vme_trace_laws.specs.Events.{grant_lines_in}
use Rattle.vme_trace_laws.specs.Grants.{request_line}
use Rattle.vme_trace_laws.specs.Values.{bus_busy_line, busy_line}
use Rattle.vme_trace_laws.proofs.lemmas.Waves.{pulse_at, pulse_early, chain_at, chain_rests, grant_low, chain_low, busy_taken}
use Rattle.vme_trace_laws.proofs.lemmas.Turns.{run_rests, same_board, slot_ok, slot_granted, request_granted, busy_granted}
use Rattle.vme_protocol.specs.declared.sample.Sample.{Sample}
use Rattle.vme_protocol.specs.Arbitration.{breaks_grants}
use Rattle.vme_legal_traces.specs.Samples.{is_high, is_granting, slots_where, sample_of, edge_sample}
use Rattle.vme_legal_traces.specs.Kept.{strict_scope, HasBoardsInOrder}
use Rattle.vme_legal_traces.proofs.Driven.{held_by, no_slots, one_slot}
use Rattle.vme_legal_traces.proofs.Sets.{slots_same, slot_set, slots_below}
use Rattle.vme_legal_traces.proofs.Pairs.{quiet_pair, taken_pair}
use Rattle.vme_legal_traces.proofs.Holding.{HasHolder, at, slot_here, late_holder, early_holder, no_holder}

-- a value between two edges
shown_by : (passes begun over : Bool) (value : Value) → ℕ → Value
shown_by passes begun over value k = if passes && over then Grants 15 else (if passes && begun then value else Grants 15)

-- edges that are past an edge stay past it
past_next : (edge k : ℕ) → nat_le edge k ≡ true → nat_le edge (k + 1) ≡ true
past_next edge k past = le-leb edge (k + 1) (omega (arith, leb-true edge k past))

-- an edge that is not passed next is not passed
soon_now : (edge k : ℕ) → nat_le edge (k + 1) ≡ false → nat_le edge k ≡ false
soon_now edge k soon = lt-leb edge k (omega (arith, leb-false edge (k + 1) soon))

-- an edge that is passed at the next, and not before, is the next
passed_now : (edge k : ℕ) → nat_le edge k ≡ false → nat_le edge (k + 1) ≡ true → edge ≡ k + 1
passed_now edge k soon past = omega (arith, leb-false edge k soon, leb-true edge (k + 1) past)

module _ (config : Configuration) (lawful : IsLawful config) (slots : List ℕ) (events later : List Observation) (o : Observation)
    (whole : observations config slots ≡ events ++ o ∷ later) where
  -- the slots that drive BBSY* at an edge
  abbrev pub drivers_at : ℕ → ℕ
  drivers_at k = slots_where config (λ b. not (is_high (value_in_run (busy_line b) (length config.boards) events o High k))) (length config.boards)

  -- and before the event
  abbrev pub drivers_before : ℕ
  drivers_before = slots_where config (λ b. not (is_high (value_after_run (busy_line b) (length config.boards) events High))) (length config.boards)

  -- the slots with a grant line that is low at an edge
  abbrev pub grants_at : ℕ → ℕ
  grants_at k = slots_where config (λ b. is_granting (value_in_run (grant_lines_in b) (length config.boards) events o (Grants 15) k)) (length config.boards)

  -- one holder at two edges
  same_holder : (j k : ℕ) (holder : Option ℕ) → HasHolder config lawful slots events later o whole j holder → HasHolder config lawful slots events later o whole k holder
      → drivers_at k ≡ drivers_at j
  same_holder j k holder first second = slots_same config _ _ (length config.boards) (λ b there. second.1 b there ∙ sym (first.1 b there))

  -- no holder at an edge
  none_holds : (k : ℕ) → HasHolder config lawful slots events later o whole k None → drivers_at k ≡ 0
  none_holds k has = no_slots config _ (length config.boards) (λ b there. has.1 b there)

  -- without a grant the slots that drive BBSY* stay, but for a release
  no_grant : (k : ℕ) → o.grant ≡ None → nat_le (release_edge o.activity) k ≡ true → drivers_at (k + 1) ≡ drivers_at k
  no_grant k none past =
      slots_same config _ _ (length config.boards) (λ b there.
      ap (λ (v : Value). not (is_high v)) (slot_here config lawful slots events later o whole (k + 1) b there
      ∙ ungranted b (nat_le (grant_edge o.activity + 1) (k + 1)) (nat_le (grant_edge o.activity + 1) k) (nat_le (release_edge o.activity) (k + 1))
      (nat_le (release_edge o.activity) k) (value_after_run (busy_line b) (length config.boards) events High)
      (ap (λ (g : Option Grant). is_granted g b) none) (past_next (release_edge o.activity) k past) past
      ∙ sym (slot_here config lawful slots events later o whole k b there)))
    where
      ungranted : (b : ℕ) (up up' down down' : Bool) (v : Value) → is_granted o.grant b ≡ false → down ≡ true → down' ≡ true
          → (if is_granted o.grant b && up then Low else (if (o.board == b && releases o.activity) && down then High else v))
          ≡ (if is_granted o.grant b && up' then Low else (if (o.board == b && releases o.activity) && down' then High else v))
      ungranted b up up' down down' v none is is' = rw (none, is, is') refl

  -- two edges before a grant: the slots that drive BBSY* stay, or there is none
  early_pair : (k : ℕ) → nat_le (grant_edge o.activity + 1) (k + 1) ≡ false → (drivers_at (k + 1) ≡ drivers_at k) ⊎ (drivers_at (k + 1) ≡ 0)
  early_pair k early =
      elim (cases_Bool (releases o.activity && nat_le (release_edge o.activity) (k + 1))) [
        | inl gone ↦ inr (none_holds (k + 1) (no_holder config lawful slots events later o whole (k + 1) early gone))
        | inr kept ↦
            inl (same_holder k (k + 1) (at config lawful slots events later o whole).here.bus.object.holder
            (early_holder config lawful slots events later o whole k (soon_now (grant_edge o.activity + 1) k early)
            (kept_before (releases o.activity) (nat_le (release_edge o.activity) (k + 1)) (nat_le (release_edge o.activity) k) kept
            (λ soon. soon_now (release_edge o.activity) k soon)))
            (early_holder config lawful slots events later o whole (k + 1) early kept))
      ]
    where
      kept_before : (released next now : Bool) → released && next ≡ false → (next ≡ false → now ≡ false) → released && now ≡ false
      kept_before false next now kept soon = refl
      kept_before true next now kept soon = soon kept

  -- the first edge
  first_pair : (drivers_at 0 ≡ drivers_before) ⊎ (drivers_at 0 ≡ 0)
  first_pair =
      let early : nat_le (grant_edge o.activity + 1) 0 ≡ false = lt-leb (grant_edge o.activity + 1) 0 (omega arith) in
      elim (cases_Bool (releases o.activity && nat_le (release_edge o.activity) 0)) [
        | inl gone ↦ inr (none_holds 0 (no_holder config lawful slots events later o whole 0 early gone))
        | inr kept ↦
            inl (slots_same config _ _ (length config.boards) (λ b there.
            ap (λ (v : Value). not (is_high v)) (slot_here config lawful slots events later o whole 0 b there
            ∙ pulse_early High Low _ (o.board == b && releases o.activity) (is_granted o.grant b) (release_edge o.activity) (grant_edge o.activity + 1) 0 early
            ∙ unreleased (o.board == b) (releases o.activity) (nat_le (release_edge o.activity) 0) _ kept)))
      ]
    where
      unreleased : (own released begun : Bool) (v : Value) → released && begun ≡ false → (if (own && released) && begun then High else v) ≡ v
      unreleased false released begun v kept = refl
      unreleased true released begun v kept = rw kept refl

  -- grant lines are high before an event
  chain_before : (b : ℕ) → b < length config.boards → value_after_run (grant_lines_in b) (length config.boards) events (Grants 15) ≡ Grants 15
  chain_before b there = run_rests (grant_lines_in b) (length config.boards) (Grants 15) (λ n e. chain_rests e b (length config.boards) n there) 0 events

  -- the grant lines of a slot at an edge
  chain_here : (k b : ℕ) → b < length config.boards
      → value_in_run (grant_lines_in b) (length config.boards) events o (Grants 15) k
      ≡ pulse_at (Grants (grant_lines o.grant)) (Grants 15) (passes_grant o.grant b) (passes_grant o.grant b) (grant_edge o.activity)
      (grant_edge o.activity + 3) k (Grants 15)
  chain_here k b there =
      chain_at o b (length config.boards) (length events + 1) there k (value_after_run (grant_lines_in b) (length config.boards) events (Grants 15))
      ∙ ap (pulse_at (Grants (grant_lines o.grant)) (Grants 15) (passes_grant o.grant b) (passes_grant o.grant b) (grant_edge o.activity) (grant_edge o.activity + 3) k)
      (chain_before b there)

  -- two edges at which the same is shown of a grant
  same_grants : (j k : ℕ) → nat_le (grant_edge o.activity) k ≡ nat_le (grant_edge o.activity) j
      → nat_le (grant_edge o.activity + 3) k ≡ nat_le (grant_edge o.activity + 3) j → grants_at k ≡ grants_at j
  same_grants j k begun over =
      slots_same config _ _ (length config.boards) (λ b there.
      ap is_granting (chain_here k b there ∙ agree (passes_grant o.grant b) begun over ∙ sym (chain_here j b there)))
    where
      agree : (passes : Bool) → nat_le (grant_edge o.activity) k ≡ nat_le (grant_edge o.activity) j
          → nat_le (grant_edge o.activity + 3) k ≡ nat_le (grant_edge o.activity + 3) j
          → pulse_at (Grants (grant_lines o.grant)) (Grants 15) passes passes (grant_edge o.activity) (grant_edge o.activity + 3) k (Grants 15)
          ≡ pulse_at (Grants (grant_lines o.grant)) (Grants 15) passes passes (grant_edge o.activity) (grant_edge o.activity + 3) j (Grants 15)
      agree false begun over = refl
      agree true begun over = rw (begun, over) refl

  -- after a grant, or before it, none is shown
  no_grants : (k : ℕ) → (nat_le (grant_edge o.activity) k ≡ false) ⊎ (nat_le (grant_edge o.activity + 3) k ≡ true) → grants_at k ≡ 0
  no_grants k apart =
      no_slots config _ (length config.boards) (λ b there. ap is_granting (chain_here k b there ∙ by_side (passes_grant o.grant b) apart))
    where
      by_side : (passes : Bool) → (nat_le (grant_edge o.activity) k ≡ false) ⊎ (nat_le (grant_edge o.activity + 3) k ≡ true)
          → pulse_at (Grants (grant_lines o.grant)) (Grants 15) passes passes (grant_edge o.activity) (grant_edge o.activity + 3) k (Grants 15) ≡ Grants 15
      by_side false apart = refl
      by_side true (inr over) = rw over refl
      by_side true (inl soon) =
          pulse_early (Grants (grant_lines o.grant)) (Grants 15) (Grants 15) true true (grant_edge o.activity) (grant_edge o.activity + 3) k
          (lt-leb (grant_edge o.activity + 3) k (omega (arith, leb-false (grant_edge o.activity) k soon)))
          ∙ rw soon refl

  -- without a grant none is shown
  none_shown : (k : ℕ) → o.grant ≡ None → grants_at k ≡ 0
  none_shown k none =
      no_slots config _ (length config.boards) (λ b there. ap is_granting (chain_here k b there ∙ by_none (ap (λ (g : Option Grant). passes_grant g b) none)))
    where
      by_none : {passes : Bool} → passes ≡ false
          → pulse_at (Grants (grant_lines o.grant)) (Grants 15) passes passes (grant_edge o.activity) (grant_edge o.activity + 3) k (Grants 15) ≡ Grants 15
      by_none {passes} none = rw none refl

  -- the grants of two edges: as before, or none, or BBSY* is high
  abbrev GrantsPair : ℕ → ℕ → Type 0
  GrantsPair j k =
      (grants_at k ≡ grants_at j)
      ⊎ ((grants_at k ≡ 0) ⊎ (is_high (value_in_run bus_busy_line (length config.boards) events o High k) ≡ true))

  -- the edge at which a grant begins
  begin_pair : (k : ℕ) (found : Option Grant) → o.grant ≡ found → grant_edge o.activity ≡ k + 1 → GrantsPair k (k + 1)
  begin_pair k None is here = inr (inl (none_shown (k + 1) is))
  begin_pair k (Some g) is here =
      inr (inr (ap (λ (j : ℕ). is_high (value_in_run bus_busy_line (length config.boards) events o High j)) (sym here)
      ∙ ap is_high (busy_granted config lawful slots events later o g whole is)))

  -- the grants of two edges
  grants_pair : (k : ℕ) → GrantsPair k (k + 1)
  grants_pair k =
      elim (cases_Bool (nat_le (grant_edge o.activity) (k + 1))) [
        | inr soon ↦ inr (inl (no_grants (k + 1) (inl soon)))
        | inl begun ↦ elim (cases_Bool (nat_le (grant_edge o.activity) k)) [
          | inr first ↦ begin_pair k o.grant refl (passed_now (grant_edge o.activity) k first begun)
          | inl before ↦ elim (cases_Bool (nat_le (grant_edge o.activity + 3) (k + 1))) [
            | inl over ↦ inr (inl (no_grants (k + 1) (inr over)))
            | inr shown ↦ inl (same_grants k (k + 1) (begun ∙ sym before) (shown ∙ sym (soon_now (grant_edge o.activity + 3) k shown)))
          ]
        ]
      ]

  module _ (order : HasBoardsInOrder config) (timeout : ℕ) (g : Grant) (is : o.grant ≡ Some g) (k : ℕ) (here : grant_edge o.activity ≡ k) where
    -- the board of the grant
    there : g.board < length config.boards
    there = (slot_granted config lawful slots events later o g whole is).0

    -- BBSY* is high as the grant begins
    high : is_high (value_in_run bus_busy_line (length config.boards) events o High k) ≡ true
    high =
        ap (λ (j : ℕ). is_high (value_in_run bus_busy_line (length config.boards) events o High j)) (sym here)
        ∙ ap is_high (busy_granted config lawful slots events later o g whole is)

    -- a free bus has no holder
    free_holder : (holder : Option ℕ) → is_none holder ≡ true → holder ≡ None
    free_holder None free = refl
    free_holder (Some slot) free = absurd cc

    -- no slot drives BBSY* as the grant begins
    free_now : drivers_at k ≡ 0
    free_now =
        let early : nat_le (grant_edge o.activity + 1) k ≡ false = lt-leb (grant_edge o.activity + 1) k (omega (arith, here)) in
        elim (cases_Bool (releases o.activity && nat_le (release_edge o.activity) k)) [
          | inl gone ↦ none_holds k (no_holder config lawful slots events later o whole k early gone)
          | inr kept ↦
              let has = early_holder config lawful slots events later o whole k early kept in
              let holder = (at config lawful slots events later o whole).here.bus.object.holder in
              none_holds k (subst (HasHolder config lawful slots events later o whole k) (free_holder holder (sym has.0 ∙ high)) has)
        ]

    -- who holds the bus, if a slot does
    named : (holder : Option ℕ) (slot : ℕ) → held_by holder slot ≡ true → holder ≡ Some slot
    named None slot held = absurd cc
    named (Some h) slot held =
        elim (eqb_tells h slot) [ inl same ↦ ap Some same.1 | inr other ↦ absurd (false≢true (sym other.0 ∙ held)) ]

    -- the slot that takes the grant drives BBSY* next
    taken_next : drivers_at (k + 1) ≡ 2 ^ (slot_at config g.board - 1)
    taken_next =
        let late : nat_le (grant_edge o.activity + 1) (k + 1) ≡ true = le-leb (grant_edge o.activity + 1) (k + 1) (omega (arith, here)) in
        let has = late_holder config lawful slots events later o whole (k + 1) late in
        let holder = (at config lawful slots events later o whole).next.bus.object.holder in
        let low : value_in_run (busy_line g.board) (length config.boards) events o High (k + 1) ≡ Low
        = busy_taken (length config.boards) (length events + 1) o g (k + 1) (value_after_run (busy_line g.board) (length config.boards) events High) is there
        (omega (arith, here)) in
        let own : not (is_high (value_in_run (busy_line g.board) (length config.boards) events o High (k + 1))) ≡ true
        = ap (λ (v : Value). not (is_high v)) low in
        let holds = named holder (slot_at config g.board) (sym (has.1 g.board there) ∙ own) in
        one_slot config _ (length config.boards) g.board there own
        (λ b there_b apart. has.1 b there_b ∙ ap (λ (h : Option ℕ). held_by h (slot_at config b)) holds
        ∙ ne_eqb (slot_at config g.board) (slot_at config b) (λ same. apart (same_board config lawful b g.board there_b there (sym same))))

    -- a level's bit is low
    low_grants : (level : ℕ) → level ≤ 3 → not (15 - 2 ^ level == 15) ≡ true
    low_grants zero below = refl
    low_grants (suc zero) below = refl
    low_grants (suc (suc zero)) below = refl
    low_grants (suc (suc (suc zero))) below = refl
    low_grants (suc (suc (suc (suc level)))) below = absurd (omega (arith, below))

    -- the grant is shown at the slot that takes it
    shown_own : is_granting (value_in_run (grant_lines_in g.board) (length config.boards) events o (Grants 15) k) ≡ true
    shown_own =
        let placed = slot_granted config lawful slots events later o g whole is in
        ap is_granting (chain_low (length config.boards) (length events + 1) o g g.board k
        (value_after_run (grant_lines_in g.board) (length config.boards) events (Grants 15)) is placed.3 there (omega arith)
        (omega (arith, here), omega (arith, here)))
        ∙ low_grants g.level placed.3

    -- a slot at which it is shown is that slot, or one before it
    shown_before : (b : ℕ) → b < length config.boards
        → is_granting (value_in_run (grant_lines_in b) (length config.boards) events o (Grants 15) k) ≡ true → slot_at config b ≤ slot_at config g.board
    shown_before b there_b shown =
        let found = grant_low (length config.boards) (length events + 1) o b k there_b (λ same. false≢true (sym (ap is_granting
        (ap (λ (v : Value). value_at (grant_lines_in b) (event_changes (length config.boards) (length events + 1) o) v k) (chain_before b there_b) ∙ same))
        ∙ shown)) in
        let one : found.0 ≡ g = same_Some _ _ (sym found.1 ∙ is) in
        order b g.board (subst (λ (h : Grant). b ≤ h.board) one found.2) there

    -- a lawful slot
    first_slot : (b : ℕ) → b < length config.boards → 1 ≤ slot_at config b
    first_slot b there_b = leb-true 1 (slot_at config b) (left (nat_le 1 (slot_at config b)) _ (slot_ok config lawful b there_b))
      where
        left : (a b : Bool) → (a && b) ≡ true → a ≡ true
        left true b h = refl
        left false b h = absurd cc

    -- the two samples at which a grant is taken
    taken_samples : breaks_grants (strict_scope timeout) (edge_sample config events o k) (edge_sample config events o (k + 1)) ≡ false
    unfolding sample_of
    taken_samples =
        let slot = slot_at config g.board in
        let next : slot - 1 + 1 ≡ slot = omega (arith, first_slot g.board there) in
        taken_pair timeout (slot - 1) (edge_sample config events o k) (edge_sample config events o (k + 1)) free_now taken_next
        (slot_set config _ (length config.boards) g.board there
        (ap (λ (v : Value). not (is_high v)) (ap (λ (j : ℕ). value_in_run (request_line g.board) (length config.boards) events o High j) (sym here)
        ∙ request_granted config lawful slots events later o g whole is)))
        (slot_set config _ (length config.boards) g.board there shown_own)
        (same_grants k (k + 1)
        (le-leb (grant_edge o.activity) (k + 1) (omega (arith, here)) ∙ sym (le-leb (grant_edge o.activity) k (omega (arith, here))))
        (lt-leb (grant_edge o.activity + 3) (k + 1) (omega (arith, here)) ∙ sym (lt-leb (grant_edge o.activity + 3) k (omega (arith, here)))))
        (subst (λ (top : ℕ). grants_at k < 2 ^ top) (sym next)
        (slots_below config _ (length config.boards) slot (λ b there_b shown. (first_slot b there_b, shown_before b there_b shown))))

  module _ (order : HasBoardsInOrder config) (timeout : ℕ) where
    -- two samples at which no grant is taken
    quiet_samples : (k : ℕ) → (drivers_at (k + 1) ≡ drivers_at k) ⊎ (drivers_at (k + 1) ≡ 0)
        → breaks_grants (strict_scope timeout) (edge_sample config events o k) (edge_sample config events o (k + 1)) ≡ false
    unfolding sample_of
    quiet_samples k drivers = quiet_pair timeout (edge_sample config events o k) (edge_sample config events o (k + 1)) drivers (grants_pair k)

    -- the two samples at which a grant may be taken
    granted_samples : (k : ℕ) (found : Option Grant) → o.grant ≡ found → grant_edge o.activity ≡ k
        → breaks_grants (strict_scope timeout) (edge_sample config events o k) (edge_sample config events o (k + 1)) ≡ false
    granted_samples k None is here =
        quiet_samples k (inl (no_grant k is (le-leb (release_edge o.activity) k (omega (arith, here)))))
    granted_samples k (Some g) is here = taken_samples order timeout g is k here

    -- two samples of the event
    pub pair_keeps : (k : ℕ) → breaks_grants (strict_scope timeout) (edge_sample config events o k) (edge_sample config events o (k + 1)) ≡ false
    pair_keeps k =
        elim (cases_Bool (nat_le (grant_edge o.activity + 1) (k + 1))) [
          | inr early ↦ quiet_samples k (early_pair k early)
          | inl late ↦ elim (cases_Bool (nat_le (grant_edge o.activity + 1) k)) [
            | inl past ↦
                quiet_samples k
                (inl (same_holder k (k + 1) (at config lawful slots events later o whole).next.bus.object.holder
                (late_holder config lawful slots events later o whole k past) (late_holder config lawful slots events later o whole (k + 1) late)))
            | inr soon ↦
                granted_samples k o.grant refl (let next : grant_edge o.activity + 1 ≡ k + 1 = passed_now (grant_edge o.activity + 1) k soon late in omega (arith, next))
          ]
        ]

    -- the first sample of the event, by the drivers of the sample before it
    pub first_keeps : (a : Sample) → a.drivers ≡ drivers_before → breaks_grants (strict_scope timeout) a (edge_sample config events o 0) ≡ false
    unfolding sample_of
    first_keeps a is = quiet_pair timeout a (edge_sample config events o 0) (from_before first_pair) (inr (inl (no_grants 0 (inl (lt-leb (grant_edge o.activity) 0 (omega arith))))))
      where
        from_before : (drivers_at 0 ≡ drivers_before) ⊎ (drivers_at 0 ≡ 0) → (drivers_at 0 ≡ a.drivers) ⊎ (drivers_at 0 ≡ 0)
        from_before (inl same) = inl (same ∙ sym is)
        from_before (inr none) = inr none
