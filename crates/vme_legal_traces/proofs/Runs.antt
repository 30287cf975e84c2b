-- The samples of a run keep the rules of the order of AS*, data strobes and answers.
use Rattle.std.proofs.Common.{◌≡◌, ℕ, Bool, true, false, not, ◌&&◌, ◌||◌, if◌then◌else◌, List, [], ◌∷◌, ◌++◌, length, Some, refl, ap, sym, subst, ◌∙◌, inl, inr, ◌⊎◌}
use Rattle.vme_script.specs.Configurations.{Configuration}
use Rattle.vme_script.specs.Lawful.{IsLawful}
use Rattle.vme_protocol.specs.declared.sample.Sample.{Sample}
use Rattle.vme_protocol.specs.declared.rule.Rule.{Rule}
use Rattle.vme_protocol.specs.declared.watch.Watch.{Watch}
use Rattle.vme_protocol.specs.Watching.{started}
use Rattle.vme_trace.specs.declared.observation.Observation.{Observation}
use Rattle.vme_trace.specs.declared.dump.change.Value.{Value}
use Rattle.vme_trace.specs.declared.dump.change.Value.TheVariants.{Low, High}
use Rattle.vme_trace.specs.declared.dump.handshake.Handshake.{Handshake}
use Rattle.vme_trace.specs.Observations.{observations}
use Rattle.vme_trace.specs.Handshakes.{first_handshake}
use Rattle.vme_trace.specs.Slots.{has_ended}
use Rattle.vme_trace.specs.Shown.{value_after_run, value_in_run}
use Rattle.vme_trace_laws.specs.Shown.{address_strobe}
use Rattle.vme_trace_laws.proofs.lemmas.Waves.{shape}
use Rattle.vme_trace_laws.proofs.lemmas.Turns.{strobe_before_event}
use Rattle.vme_legal_traces.specs.Samples.{is_high, edge_sample, start_of, sample_of, event_samples, run_samples, trace_samples}
use Rattle.vme_legal_traces.specs.Kept.{keeps_after, keeps, strict_scope}
use Rattle.vme_legal_traces.proofs.Order.{is_order_rule, Levels, IsOrderly, levels_at, falls_in, nothing, resting, orderly, none_keeps, one_keeps, two_keeps}
use Rattle.vme_legal_traces.proofs.Levels.{levels_of, before, ends_resting, none_levels, one_levels, two_levels}
use Rattle.vme_legal_traces.proofs.Simulated.{Agrees, simulated}
use Rattle.vme_legal_traces.proofs.Strobed.{run_strobed}
use Rattle.vme_legal_traces.proofs.Steps.{value_next, regroup}
use Rattle.vme_legal_traces.proofs.Holding.{strobe_busy}

-- a strobe that a handshake has
has_low : (ds1 ds0 : Bool) → (ds1 ≡ false) ⊎ (ds0 ≡ false) → (not ds1 || not ds0) ≡ true
has_low false ds0 low = refl
has_low true false low = refl
has_low true true (inl low) = absurd cc
has_low true true (inr low) = absurd cc

-- a choice whose condition holds
chosen : (condition kept : Bool) → condition ≡ true → (if condition then kept else true) ≡ true → kept ≡ true
chosen true kept is h = h
chosen false kept is h = absurd cc

-- conditions that hold together
all_true : (a b : Bool) → a ≡ true → b ≡ true → (a && b) ≡ true
all_true true b is h = h
all_true false b is h = absurd cc

-- AS* before a handshake
level_opens : (opens : Bool) → is_high (if opens then High else Low) ≡ opens
level_opens true = refl
level_opens false = refl

module _ (config : Configuration) (lawful : IsLawful config) (slots : List ℕ) (timeout : ℕ) (rule : Rule) (is : is_order_rule rule ≡ true)
    (orderly_rule : IsOrderly rule) where
  -- what is remembered agrees with the levels after some events
  abbrev At : List Observation → Watch → Type 0
  At events w = Agrees timeout (resting (is_high (value_after_run address_strobe (length config.boards) events High))) w

  module _ (events later : List Observation) (o : Observation) (whole : observations config slots ≡ events ++ o ∷ later) (w : Watch) (at : At events w)
      (samples : List Sample)
      (rest : (w' : Watch) → Agrees timeout (levels_of (edge_sample config events o 19)) w' → keeps_after rule w' samples ≡ true) where
    -- AS* before a handshake of the event is high if it opens a transfer
    opens_before : (t : Handshake) → first_handshake o.activity o.reply ≡ Some t → before config events o ≡ t.opens
    opens_before t first = ap is_high (strobe_before_event config lawful slots events later o whole t first) ∙ level_opens t.opens

    -- the samples of the event, by its levels
    event_by : (levels : ℕ → Levels) → ((k : ℕ) → levels_of (edge_sample config events o k) ≡ levels k)
        → orderly rule levels w.transfer.answered (resting (before config events o)) 0 20 ≡ true
        → keeps_after rule w (event_samples config events o ++ samples) ≡ true
    event_by levels same h =
        simulated timeout rule is (edge_sample config events o) levels same (λ k. strobe_busy config lawful slots events later o whole k) samples w w.transfer.answered (resting (before config events o)) 0 20 at.strict at.last_is
        refl h (λ w' agrees. rest w' (subst (λ (l : Levels). Agrees timeout l w') (sym (same 19)) agrees))

    -- the samples of the event
    event_keeps : keeps_after rule w (event_samples config events o ++ samples) ≡ true
    event_keeps =
        let answered = w.transfer.answered in
        elim (shape o) [
          | inl none ↦
              event_by (levels_at (before config events o) false false 7 nothing nothing) (none_levels config events o none)
              (chosen (before config events o || answered) _ at.answered (none_keeps rule answered (before config events o) orderly_rule.none))
          | inr (inl one) ↦
              let t = one.t in
              let opens = opens_before t one.first in
              let strobed = run_strobed config slots events later o whole t (inl one.first) in
              let p = falls_in (not t.lines.strobes.ds1) (not t.lines.strobes.ds0) t.berr in
              event_by (levels_at (before config events o) t.opens (has_ended o) 7 p nothing) (one_levels config events o one)
              (ap (λ (b : Bool). orderly rule (levels_at b t.opens (has_ended o) 7 p nothing) answered (resting b) 0 20) opens
              ∙ chosen ((t.opens || answered) && (not t.lines.strobes.ds1 || not t.lines.strobes.ds0)) _
              (all_true (t.opens || answered) _ (ap (λ (b : Bool). b || answered) (sym opens) ∙ at.answered)
              (has_low t.lines.strobes.ds1 t.lines.strobes.ds0 strobed))
              (one_keeps rule answered t.opens (has_ended o) (not t.lines.strobes.ds1) (not t.lines.strobes.ds0) t.berr orderly_rule.one))
          | inr (inr two) ↦
              let t = two.t in
              let u = two.u in
              let opens = opens_before t two.first in
              let strobed = run_strobed config slots events later o whole t (inl two.first) in
              let strobed_late = run_strobed config slots events later o whole u (inr two.second) in
              let p = falls_in (not t.lines.strobes.ds1) (not t.lines.strobes.ds0) t.berr in
              let q = falls_in (not u.lines.strobes.ds1) (not u.lines.strobes.ds0) u.berr in
              event_by (levels_at (before config events o) t.opens (has_ended o) 16 p q) (two_levels config events o two)
              (ap (λ (b : Bool). orderly rule (levels_at b t.opens (has_ended o) 16 p q) answered (resting b) 0 20) opens
              ∙ chosen ((t.opens || answered) && (not t.lines.strobes.ds1 || not t.lines.strobes.ds0) && (not u.lines.strobes.ds1 || not u.lines.strobes.ds0)) _
              (all_true _ _ (all_true (t.opens || answered) _ (ap (λ (b : Bool). b || answered) (sym opens) ∙ at.answered)
              (has_low t.lines.strobes.ds1 t.lines.strobes.ds0 strobed))
              (has_low u.lines.strobes.ds1 u.lines.strobes.ds0 strobed_late))
              (two_keeps rule answered t.opens (has_ended o) (not t.lines.strobes.ds1) (not t.lines.strobes.ds0) t.berr
              (not u.lines.strobes.ds1) (not u.lines.strobes.ds0) u.berr orderly_rule.two))
        ]

  -- the levels at the last edge of an event
  last_rests : (events : List Observation) (o : Observation)
      → levels_of (edge_sample config events o 19) ≡ resting (is_high (value_in_run address_strobe (length config.boards) events o High 19))
  last_rests events o = ends_resting config events o

  -- the samples of later events
  later_keep : (events later : List Observation) (w : Watch) → observations config slots ≡ events ++ later → At events w
      → keeps_after rule w (run_samples config events later) ≡ true
  later_keep events [] w whole at = refl
  later_keep events (o ∷ later) w whole at =
      event_keeps events later o whole w at (run_samples config (events ++ o ∷ []) later)
      (λ w' agrees. later_keep (events ++ o ∷ []) later w' (whole ∙ sym (regroup events later o)) (next_at events o w' agrees))
    where
      next_at : (events : List Observation) (o : Observation) (w' : Watch) → Agrees timeout (levels_of (edge_sample config events o 19)) w' → At (events ++ o ∷ []) w'
      next_at events o w' agrees =
          subst (λ (l : Levels). Agrees timeout l w') (last_rests events o ∙ ap (λ (v : Value). resting (is_high v)) (sym (value_next address_strobe (length config.boards) events o High)))
          agrees

  -- the samples of a trace keep a rule of the order
  pub trace_keeps : keeps rule (strict_scope timeout) (trace_samples config slots) ≡ true
  unfolding trace_samples sample_of
  trace_keeps =
      later_keep [] (observations config slots) (started (strict_scope timeout) (sample_of config 0 start_of)) refl
      (record { strict = refl; last_is = refl; answered = refl })
