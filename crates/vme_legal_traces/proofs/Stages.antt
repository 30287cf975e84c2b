-- The samples of an event keep J1 and J13 if the answers of its handshakes do, and its lines are driven.
use Rattle.std.proofs.Common.{◌≡◌, ℕ, zero, suc, Bool, true, false, not, ◌&&◌, ◌||◌, if◌then◌else◌, List, [], ◌∷◌, ◌++◌, length, Some, refl, ap, sym, ◌∙◌, inl, inr}
use Rattle.vme_script.specs.Configurations.{Configuration}
use Rattle.vme_script.specs.Lawful.{IsLawful}
use Rattle.vme_protocol.specs.declared.sample.Sample.{Sample}
use Rattle.vme_protocol.specs.declared.transfer.Transfer.{Transfer}
use Rattle.vme_protocol.specs.declared.watch.Watch.{Watch}
use Rattle.vme_protocol.specs.Transfers.{opened, after_answer}
use Rattle.vme_protocol.specs.Places.{place_of, breaks_transfer}
use Rattle.vme_trace.specs.declared.observation.Observation.{Observation}
use Rattle.vme_trace.specs.declared.dump.change.Value.{Value}
use Rattle.vme_trace.specs.declared.dump.change.Value.TheVariants.{Low, High}
use Rattle.vme_trace.specs.declared.dump.handshake.Handshake.{Handshake}
use Rattle.vme_trace.specs.Observations.{observations}
use Rattle.vme_trace.specs.Handshakes.{first_handshake, second_handshake}
use Rattle.vme_trace.specs.Slots.{has_ended}
use Rattle.vme_trace_laws.specs.Shown.{address_strobe}
use Rattle.vme_trace_laws.proofs.lemmas.Waves.{HasNone, HasOne, HasTwo}
use Rattle.vme_trace_laws.proofs.lemmas.Turns.{event_paired, strobe_before_event}
use Rattle.vme_legal_traces.specs.Samples.{is_high, edge_sample, event_samples}
use Rattle.vme_legal_traces.specs.Kept.{keeps_after, strict_scope}
use Rattle.vme_legal_traces.proofs.Order.{Levels, levels_at, falls_in, nothing, resting}
use Rattle.vme_legal_traces.proofs.Levels.{levels_of, before, ends_resting, none_levels, one_levels, two_levels}
use Rattle.vme_legal_traces.proofs.Steps.{value_next}
use Rattle.vme_legal_traces.proofs.Strobed.{run_strobed}
use Rattle.vme_legal_traces.proofs.Shaken.{one_early}
use Rattle.vme_legal_traces.proofs.Unchanged.{has_low, chosen, all_true}
use Rattle.vme_legal_traces.proofs.Walked.{rest_after}
use Rattle.vme_legal_traces.proofs.Phased.{phased, phase_before, none_is, one_is, two_is}
use Rattle.vme_legal_traces.proofs.Defined.{Seen, IsSeen, IsAnswer, rested, none_seen, one_seen, two_seen, none_defined}
use Rattle.vme_legal_traces.proofs.Defined as defined
use Rattle.vme_legal_traces.proofs.Carried.{Carried, IsNamed, none_seen_is, one_seen_is, two_seen_is}
use Rattle.vme_legal_traces.proofs.Both.{rule_of, Unread, one_keeps}

-- what holds of a transfer at each phase of an event
abbrev pub at_phase : (Transfer → Type 0) → (Transfer → Type 0) → (Transfer → Type 0) → ℕ → Transfer → Type 0
at_phase A B C zero u = Unit {0}
at_phase A B C (suc zero) u = A u
at_phase A B C (suc (suc zero)) u = B u
at_phase A B C (suc (suc (suc n))) u = C u

-- AS* before a handshake
level_opens : (opens : Bool) → is_high (if opens then High else Low) ≡ opens
level_opens true = refl
level_opens false = refl

-- the phase before an event with a handshake
phase_of : (A B C : Transfer → Type 0) (opens : Bool) (u : Transfer) → (opens ≡ false → A u) → at_phase A B C (phase_before opens) u
phase_of A B C true u goes = tt
phase_of A B C false u goes = goes refl

module _ (config : Configuration) (lawful : IsLawful config) (slots : List ℕ) (timeout : ℕ) (undefined : Bool) where
  module _ (events later : List Observation) (o : Observation) (whole : observations config slots ≡ events ++ o ∷ later) (w : Watch)
      (last_is : levels_of w.last ≡ rest_after config events) (scope_is : w.scope ≡ strict_scope timeout) (unread : Unread undefined w)
      (D : Transfer → Type 0) (samples : List Sample)
      (rest : (w' : Watch) → levels_of w'.last ≡ rest_after config (events ++ o ∷ []) → w'.scope ≡ strict_scope timeout
      → ((rest_after config (events ++ o ∷ [])).strobe ≡ false → D w'.transfer) → Unread undefined w' → keeps_after (rule_of undefined) w' samples ≡ true) where
    -- the levels at the last edge of the event
    last_rests : levels_of (edge_sample config events o 19) ≡ rest_after config (events ++ o ∷ [])
    last_rests =
        ends_resting config events o
        ∙ ap (λ (v : Value). resting (is_high v)) (sym (value_next address_strobe (length config.boards) events o High))

    -- a sample of the event
    abbrev sample : ℕ → Sample
    sample k = edge_sample config events o k

    -- what an answer at an edge leaves
    abbrev pub Answers : ℕ → (Transfer → Type 0) → (Transfer → Type 0) → Type 0
    Answers k X Y = (u : Transfer) → X u
        → (breaks_transfer u (edge_sample config events o k) ≡ false)
        × Y (after_answer u (place_of u (edge_sample config events o k)) (edge_sample config events o k))

    -- the samples of the event, by its levels
    event_by : (A B C : Transfer → Type 0) (opens one two : Bool) (final phase : ℕ) (levels : ℕ → Levels)
        → ((k : ℕ) → levels_of (edge_sample config events o k) ≡ levels k)
        → ((u : Transfer) → at_phase A B C final u → D u) → (opens ≡ true → A (opened (strict_scope timeout) (sample 1)))
        → (one ≡ true → Answers 4 A B) → (two ≡ true → Answers 13 B C) → at_phase A B C phase w.transfer
        → phased opens one two final levels phase (rest_after config events) 0 20 ≡ true
        → (E : Bool → ℕ) (seen : Seen) → IsSeen E seen (edge_sample config events o)
        → (one ≡ true → (u : Transfer) → A u → IsAnswer (E false) u (sample 4)) → (two ≡ true → (u : Transfer) → B u → IsAnswer (E true) u (sample 13))
        → defined.defined seen levels rested (rest_after config events) 0 20 ≡ true
        → keeps_after (rule_of undefined) w (event_samples config events o ++ samples) ≡ true
    event_by A B C opens one two final phase levels same ends begin first second is h E seen seen_is first_lanes second_lanes known =
        let last : levels 19 ≡ rest_after config (events ++ o ∷ []) = sym (same 19) ∙ last_rests in
        one_keeps (at_phase A B C) opens one two final (strict_scope timeout) (edge_sample config events o) levels same begin first second
        E seen seen_is first_lanes second_lanes samples undefined w phase (rest_after config events) last_is scope_is is unread h known
        (λ w' last' scope' left. rest w' (last' ∙ last) scope' (λ low. ends w'.transfer (left (ap (λ (l : Levels). l.strobe) last ∙ low))))

    -- the samples of an event without a handshake
    pub none_by : HasNone o → at_phase D D D (phase_before (before config events o)) w.transfer
        → keeps_after (rule_of undefined) w (event_samples config events o ++ samples) ≡ true
    none_by none is =
        let strobe = before config events o in
        event_by D D D false false false 1 (phase_before strobe) (levels_at strobe false false 7 nothing nothing) (none_levels config events o none)
        (λ u own. own) (λ no. absurd (cc no)) (λ no. absurd (cc no)) (λ no. absurd (cc no)) is (none_is strobe)
        (λ late. 0) none_seen (none_seen_is config events o) (λ no. absurd (cc no)) (λ no. absurd (cc no)) (none_defined strobe)

    -- AS* before a handshake of the event is high if it opens a transfer
    opens_before : (t : Handshake) → first_handshake o.activity o.reply ≡ Some t → before config events o ≡ t.opens
    opens_before t first = ap is_high (strobe_before_event config lawful slots events later o whole t first) ∙ level_opens t.opens

    -- a handshake of the event has a data strobe
    first_low : (t : Handshake) → first_handshake o.activity o.reply ≡ Some t → (not t.lines.strobes.ds1 || not t.lines.strobes.ds0) ≡ true
    first_low t first = has_low t.lines.strobes.ds1 t.lines.strobes.ds0 (run_strobed config slots events later o whole t (inl first))

    -- and so has the second
    second_low : (t : Handshake) → second_handshake o.activity o.reply ≡ Some t → (not t.lines.strobes.ds1 || not t.lines.strobes.ds0) ≡ true
    second_low t second = has_low t.lines.strobes.ds1 t.lines.strobes.ds0 (run_strobed config slots events later o whole t (inr second))

    -- the samples of an event with one handshake
    pub one_by : (A : Transfer → Type 0) (one : HasOne o) → (one.t.opens ≡ true → A (opened (strict_scope timeout) (sample 1))) → (one.t.opens ≡ false → A w.transfer)
        → Answers 4 A D → (one.t.opens ≡ true → IsNamed config events o 1) → Carried config events o one.t.lines.write A 0
        → keeps_after (rule_of undefined) w (event_samples config events o ++ samples) ≡ true
    one_by A one begin goes first named carried =
        let v = one.t in
        let ds1 = not v.lines.strobes.ds1 in
        let ds0 = not v.lines.strobes.ds0 in
        let early : v.late ≡ false
        = one_early (first_handshake o.activity o.reply) (second_handshake o.activity o.reply) v (event_paired o.activity o.reply) one.first one.second in
        let levels : Bool → ℕ → Levels = λ (b : Bool). levels_at b v.opens (has_ended o) 7 (falls_in ds1 ds0 v.berr) nothing in
        event_by A D D v.opens true false 2 (phase_before v.opens) (levels (before config events o))
        (one_levels config events o one) (λ u own. own) begin (λ yes. first) (λ no. absurd (cc no)) (phase_of A D D v.opens w.transfer goes)
        (ap (λ (b : Bool). phased v.opens true false 2 (levels b) (phase_before v.opens) (resting b) 0 20) (opens_before v one.first)
        ∙ one_is ds1 ds0 v.opens (has_ended o) v.berr)
        (λ late. carried.0) (one_seen v.opens v.lines.write) (one_seen_is config events o one A carried.0 early named carried.1)
        (λ yes. carried.1.lanes) (λ no. absurd (cc no))
        (ap (λ (b : Bool). defined.defined (one_seen v.opens v.lines.write) (levels b) rested (resting b) 0 20) (opens_before v one.first)
        ∙ chosen (ds1 || ds0) _ (first_low v one.first) (defined.one_is v.opens (has_ended o) v.lines.write ds1 ds0 v.berr))

    -- the samples of an event with two
    pub two_by : (A B : Transfer → Type 0) (two : HasTwo o) → (two.t.opens ≡ true → A (opened (strict_scope timeout) (sample 1)))
        → (two.t.opens ≡ false → A w.transfer) → Answers 4 A B → Answers 13 B D
        → (two.t.opens ≡ true → IsNamed config events o 1) → Carried config events o two.t.lines.write A 0 → Carried config events o two.u.lines.write B 9
        → keeps_after (rule_of undefined) w (event_samples config events o ++ samples) ≡ true
    two_by A B two begin goes first second named carried carried' =
        let v = two.t in
        let u = two.u in
        let ds1 = not v.lines.strobes.ds1 in
        let ds0 = not v.lines.strobes.ds0 in
        let ds1' = not u.lines.strobes.ds1 in
        let ds0' = not u.lines.strobes.ds0 in
        let levels : Bool → ℕ → Levels
        = λ (b : Bool). levels_at b v.opens (has_ended o) 16 (falls_in ds1 ds0 v.berr) (falls_in ds1' ds0' u.berr) in
        let seen = two_seen v.opens v.lines.write u.lines.write in
        event_by A B D v.opens true true 3 (phase_before v.opens) (levels (before config events o))
        (two_levels config events o two) (λ u own. own) begin (λ yes. first) (λ yes. second) (phase_of A B D v.opens w.transfer goes)
        (ap (λ (b : Bool). phased v.opens true true 3 (levels b) (phase_before v.opens) (resting b) 0 20) (opens_before v two.first)
        ∙ two_is ds1 ds0 ds1' ds0' v.opens (has_ended o) v.berr u.berr)
        (λ late. if late then carried'.0 else carried.0) seen (two_seen_is config events o two A B carried.0 carried'.0 named carried.1 carried'.1)
        (λ yes. carried.1.lanes) (λ yes. carried'.1.lanes)
        (ap (λ (b : Bool). defined.defined seen (levels b) rested (resting b) 0 20) (opens_before v two.first)
        ∙ chosen ((ds1 || ds0) && (ds1' || ds0')) _ (all_true _ _ (first_low v two.first) (second_low u two.second))
        (defined.two_is v.opens (has_ended o) v.lines.write u.lines.write ds1 ds0 v.berr ds1' ds0' u.berr))
