-- In our own traces an answer comes ten units of time after the first strobe.
use Rattle.std.proofs.Common.{◌≡◌, ℕ, zero, suc, ◌+◌, ◌-◌, ◌*◌, ◌≤◌, Bool, true, false, not, ◌&&◌, if◌then◌else◌, List, [], ◌∷◌, ◌++◌, length, map, refl, ap, sym, ◌∙◌, arith, inl, inr}
use Rattle.std.specs.Prelude.{nat_lt}
use Rattle.std.specs.List.{range_with_len}
use Rattle.std.proofs.lemmas.Bool.{lt-leb, leb-false}
use Rattle.vme_script.specs.Configurations.{Configuration}
use Rattle.vme_protocol.specs.declared.sample.Sample.{Sample}
use Rattle.vme_protocol.specs.declared.scope.Scope.{Scope}
use Rattle.vme_protocol.specs.declared.rule.Rule.TheVariants as rules
use Rattle.vme_protocol.specs.declared.watch.Watch.{Watch}
use Rattle.vme_protocol.specs.Handshakes.{after_sample}
use Rattle.vme_protocol.specs.Exchange.{is_late}
use Rattle.vme_protocol.specs.Samples.{has_strobe, has_answer}
use Rattle.vme_protocol.specs.Watching.{started, watched}
use Rattle.vme_trace.specs.declared.observation.Observation.{Observation}
use Rattle.vme_trace.specs.declared.dump.change.Value.{Value}
use Rattle.vme_trace.specs.declared.dump.change.Value.TheVariants.{High}
use Rattle.vme_trace.specs.Slots.{has_ended}
use Rattle.vme_trace.specs.Shown.{value_after_run}
use Rattle.vme_trace_laws.specs.Shown.{address_strobe}
use Rattle.vme_trace_laws.proofs.lemmas.Waves.{shape}
use Rattle.vme_legal_traces.specs.Samples.{is_high, edge_sample, start_of, sample_of, event_samples, run_samples, trace_samples}
use Rattle.vme_legal_traces.specs.Kept.{breaks, keeps_after, keeps, strict_scope}
use Rattle.vme_trace.specs.Observations.{observations}
use Rattle.vme_legal_traces.proofs.Each.{kept_parts, kept_both}
use Rattle.vme_legal_traces.proofs.Order.{Levels, strobed, answering, Falls, levels_at, nothing, falls_in, resting, both, each}
use Rattle.vme_legal_traces.proofs.Levels.{levels_of, before, ends_resting, none_levels, one_levels, two_levels}
use Rattle.vme_legal_traces.proofs.Simulated.{last_level}
use Rattle.vme_legal_traces.proofs.Steps.{value_next}

-- whether an answer comes at most two edges after the first strobe, of so many levels from an edge on, and no strobe is low then
abbrev timely : (ℕ → Levels) → Levels → ℕ → ℕ → ℕ → Bool
timely levels last since k zero = not (strobed last)
timely levels last since k (suc count) =
    not (strobed last && not (answering last) && nat_lt 2 (k - since))
    && timely levels (levels k) (if strobed last then since else k) (k + 1) count

-- an event is timely, by AS* before it, its fall and its rise
abbrev event_timely : Bool → Bool → Bool → ℕ → Falls → Falls → Bool
event_timely strobe opens ends up t u = timely (levels_at strobe opens ends up t u) (resting strobe) 0 0 20

-- an event with one handshake, or none
one_timely : (both λ strobe. both λ opens. both λ ends. both λ ds1. both λ ds0. both λ berr. event_timely strobe opens ends 7 (falls_in ds1 ds0 berr) nothing) ≡ true
one_timely = refl

-- an event without a handshake
none_timely : (both λ strobe. event_timely strobe false false 7 nothing nothing) ≡ true
none_timely = refl

-- an event with two handshakes
two_timely : (both λ strobe. both λ opens. both λ ends. both λ ds1. both λ ds0. both λ berr. both λ ds1'. both λ ds0'. both λ berr'.
    event_timely strobe opens ends 16 (falls_in ds1 ds0 berr) (falls_in ds1' ds0' berr')) ≡ true
two_timely = refl

-- a strobe that has been low for at most two edges is not late
not_late : (strobe answer : Bool) (k since base time fell timeout : ℕ) → (strobe && not answer && nat_lt 2 (k - since)) ≡ false
    → (strobe ≡ true → fell ≡ base + 5 * since) → time ≡ base + 5 * k → 10 ≤ timeout → (strobe && not answer && nat_lt timeout (time - fell)) ≡ false
not_late false answer k since base time fell timeout h when now most = refl
not_late true true k since base time fell timeout h when now most = refl
not_late true false k since base time fell timeout h when now most =
    lt-leb (suc timeout) (time - fell) (omega (arith, leb-false 3 (k - since) h, when refl, now, most))

module _ (timeout : ℕ) (most : 10 ≤ timeout) (sample : ℕ → Sample) (levels : ℕ → Levels) (same : (k : ℕ) → levels_of (sample k) ≡ levels k)
    (base : ℕ) (times : (k : ℕ) → (sample k).time ≡ base + 5 * k) (later : List Sample) where
  -- the time of the first strobe, after a sample
  next_since : (strobe : Bool) (w : Watch) (k since : ℕ) → (strobe ≡ true → w.handshake.since ≡ base + 5 * since)
      → (if strobe then w.handshake.since else (sample k).time) ≡ base + 5 * (if strobe then since else k)
  next_since true w k since when = when refl
  next_since false w k since when = times k

  -- samples whose levels are timely are not late
  timed : (w : Watch) (last : Levels) (since k count : ℕ) → w.scope ≡ strict_scope timeout → levels_of w.last ≡ last
      → (strobed last ≡ true → w.handshake.since ≡ base + 5 * since) → timely levels last since k count ≡ true
      → ((w' : Watch) → w'.scope ≡ strict_scope timeout → levels_of w'.last ≡ last_level levels last k count → keeps_after rules.Timeout w' later ≡ true)
      → keeps_after rules.Timeout w (map sample (range_with_len k count) ++ later) ≡ true
  unfolding watched is_late after_sample
  timed w last since k zero strict last_is when h rest = rest w strict last_is
  timed w last since k (suc count) strict last_is when h rest =
      let s = sample k in
      let parts = kept_parts (strobed last && not (answering last) && nat_lt 2 (k - since)) _ h in
      let here : breaks rules.Timeout w s ≡ false
      = ap (λ (scope : Scope). has_strobe w.last && not (has_answer w.last) && nat_lt scope.timeout (s.time - w.handshake.since)) strict
      ∙ ap (λ (l : Levels). strobed l && not (answering l) && nat_lt timeout (s.time - w.handshake.since)) last_is
      ∙ not_late (strobed last) (answering last) k since base s.time w.handshake.since timeout parts.0 when (times k) most in
      kept_both (breaks rules.Timeout w s) (keeps_after rules.Timeout (watched w s) (map sample (range_with_len (k + 1) count) ++ later)) here
      (timed (watched w s) (levels k) (if strobed last then since else k) (k + 1) count strict (same k)
      (λ low. ap (λ (l : Levels). if strobed l then w.handshake.since else s.time) last_is ∙ next_since (strobed last) w k since when) parts.1 rest)

module _ (config : Configuration) (slots : List ℕ) (timeout : ℕ) (most : 10 ≤ timeout) where
  -- the levels after some events
  abbrev rest_after : List Observation → Levels
  rest_after events = resting (is_high (value_after_run address_strobe (length config.boards) events High))

  module _ (events : List Observation) (o : Observation) (w : Watch) (strict : w.scope ≡ strict_scope timeout) (last_is : levels_of w.last ≡ rest_after events)
      (samples : List Sample)
      (rest : (w' : Watch) → w'.scope ≡ strict_scope timeout → levels_of w'.last ≡ rest_after (events ++ o ∷ []) → keeps_after rules.Timeout w' samples ≡ true) where
    -- the samples of the event, by its levels
    event_by : (levels : ℕ → Levels) → ((k : ℕ) → levels_of (edge_sample config events o k) ≡ levels k)
        → timely levels (rest_after events) 0 0 20 ≡ true → keeps_after rules.Timeout w (event_samples config events o ++ samples) ≡ true
    unfolding sample_of
    event_by levels same h =
        timed timeout most (edge_sample config events o) levels same (100 * (length events + 1)) (λ k. refl) samples w (rest_after events) 0 0 20 strict last_is
        (λ low. absurd cc) h
        (λ w' strict' last. rest w' strict' (last ∙ sym (same 19) ∙ ends_resting config events o
        ∙ ap (λ (v : Value). resting (is_high v)) (sym (value_next address_strobe (length config.boards) events o High))))

    -- the samples of the event
    event_keeps : keeps_after rules.Timeout w (event_samples config events o ++ samples) ≡ true
    event_keeps =
        let strobe = before config events o in
        elim (shape o) [
          | inl none ↦
              event_by (levels_at strobe false false 7 nothing nothing) (none_levels config events o none)
              (each (λ strobe. event_timely strobe false false 7 nothing nothing) none_timely strobe)
          | inr (inl one) ↦
              let t = one.t in
              event_by (levels_at strobe t.opens (has_ended o) 7 (falls_in (not t.lines.strobes.ds1) (not t.lines.strobes.ds0) t.berr) nothing)
              (one_levels config events o one)
              (each (λ berr. event_timely strobe t.opens (has_ended o) 7 (falls_in (not t.lines.strobes.ds1) (not t.lines.strobes.ds0) berr) nothing)
              (each (λ ds0. both λ berr. event_timely strobe t.opens (has_ended o) 7 (falls_in (not t.lines.strobes.ds1) ds0 berr) nothing)
              (each (λ ds1. both λ ds0. both λ berr. event_timely strobe t.opens (has_ended o) 7 (falls_in ds1 ds0 berr) nothing)
              (each (λ ends. both λ ds1. both λ ds0. both λ berr. event_timely strobe t.opens ends 7 (falls_in ds1 ds0 berr) nothing)
              (each (λ opens. both λ ends. both λ ds1. both λ ds0. both λ berr. event_timely strobe opens ends 7 (falls_in ds1 ds0 berr) nothing)
              (each (λ strobe. both λ opens. both λ ends. both λ ds1. both λ ds0. both λ berr. event_timely strobe opens ends 7 (falls_in ds1 ds0 berr) nothing)
              one_timely strobe) t.opens) (has_ended o)) (not t.lines.strobes.ds1)) (not t.lines.strobes.ds0)) t.berr)
          | inr (inr two) ↦
              let t = two.t in
              let u = two.u in
              let p = falls_in (not t.lines.strobes.ds1) (not t.lines.strobes.ds0) t.berr in
              event_by (levels_at strobe t.opens (has_ended o) 16 p (falls_in (not u.lines.strobes.ds1) (not u.lines.strobes.ds0) u.berr))
              (two_levels config events o two)
              (each (λ berr'. event_timely strobe t.opens (has_ended o) 16 p (falls_in (not u.lines.strobes.ds1) (not u.lines.strobes.ds0) berr'))
              (each (λ ds0'. both λ berr'. event_timely strobe t.opens (has_ended o) 16 p (falls_in (not u.lines.strobes.ds1) ds0' berr'))
              (each (λ ds1'. both λ ds0'. both λ berr'. event_timely strobe t.opens (has_ended o) 16 p (falls_in ds1' ds0' berr'))
              (each (λ berr. both λ ds1'. both λ ds0'. both λ berr'.
              event_timely strobe t.opens (has_ended o) 16 (falls_in (not t.lines.strobes.ds1) (not t.lines.strobes.ds0) berr) (falls_in ds1' ds0' berr'))
              (each (λ ds0. both λ berr. both λ ds1'. both λ ds0'. both λ berr'.
              event_timely strobe t.opens (has_ended o) 16 (falls_in (not t.lines.strobes.ds1) ds0 berr) (falls_in ds1' ds0' berr'))
              (each (λ ds1. both λ ds0. both λ berr. both λ ds1'. both λ ds0'. both λ berr'.
              event_timely strobe t.opens (has_ended o) 16 (falls_in ds1 ds0 berr) (falls_in ds1' ds0' berr'))
              (each (λ ends. both λ ds1. both λ ds0. both λ berr. both λ ds1'. both λ ds0'. both λ berr'.
              event_timely strobe t.opens ends 16 (falls_in ds1 ds0 berr) (falls_in ds1' ds0' berr'))
              (each (λ opens. both λ ends. both λ ds1. both λ ds0. both λ berr. both λ ds1'. both λ ds0'. both λ berr'.
              event_timely strobe opens ends 16 (falls_in ds1 ds0 berr) (falls_in ds1' ds0' berr'))
              (each (λ strobe. both λ opens. both λ ends. both λ ds1. both λ ds0. both λ berr. both λ ds1'. both λ ds0'. both λ berr'.
              event_timely strobe opens ends 16 (falls_in ds1 ds0 berr) (falls_in ds1' ds0' berr'))
              two_timely strobe) t.opens) (has_ended o)) (not t.lines.strobes.ds1)) (not t.lines.strobes.ds0)) t.berr)
              (not u.lines.strobes.ds1)) (not u.lines.strobes.ds0)) u.berr)
        ]

  -- the samples of later events
  later_timely : (events later : List Observation) (w : Watch) → w.scope ≡ strict_scope timeout → levels_of w.last ≡ rest_after events
      → keeps_after rules.Timeout w (run_samples config events later) ≡ true
  later_timely events [] w strict last_is = refl
  later_timely events (o ∷ later) w strict last_is =
      event_keeps events o w strict last_is (run_samples config (events ++ o ∷ []) later)
      (λ w' strict' last. later_timely (events ++ o ∷ []) later w' strict' last)

  -- the samples of a trace
  pub trace_timely : keeps rules.Timeout (strict_scope timeout) (trace_samples config slots) ≡ true
  unfolding trace_samples sample_of
  trace_timely = later_timely [] (observations config slots) (started (strict_scope timeout) (sample_of config 0 start_of)) refl refl
