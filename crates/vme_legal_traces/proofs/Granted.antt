-- The samples of a trace keep the rule of grants.
use Rattle.std.proofs.Common.{◌≡◌, ℕ, zero, suc, ◌+◌, true, false, not, List, [], ◌∷◌, ◌++◌, length, map, refl, ap, sym, ◌∙◌}
use Rattle.std.specs.List.{range_with_len}
use Rattle.vme_script.specs.Configurations.{Configuration}
use Rattle.vme_script.specs.Lawful.{IsLawful}
use Rattle.vme_protocol.specs.declared.sample.Sample.{Sample}
use Rattle.vme_protocol.specs.declared.scope.Scope.{Scope}
use Rattle.vme_protocol.specs.declared.rule.Rule.TheVariants as rules
use Rattle.vme_protocol.specs.declared.watch.Watch.{Watch}
use Rattle.vme_protocol.specs.Arbitration.{breaks_grants}
use Rattle.vme_protocol.specs.Watching.{started, watched}
use Rattle.vme_trace.specs.declared.observation.Observation.{Observation}
use Rattle.vme_trace.specs.declared.dump.change.Value.{Value}
use Rattle.vme_trace.specs.declared.dump.change.Value.TheVariants.{High}
use Rattle.vme_trace.specs.Observations.{observations}
use Rattle.vme_trace.specs.Shown.{value_after_run}
use Rattle.vme_trace_laws.specs.Values.{busy_line}
use Rattle.vme_legal_traces.specs.Samples.{is_high, slots_where, edge_sample, start_of, sample_of, run_samples, trace_samples}
use Rattle.vme_legal_traces.specs.Kept.{keeps_after, keeps, strict_scope, HasBoardsInOrder}
use Rattle.vme_legal_traces.proofs.Each.{kept_both}
use Rattle.vme_legal_traces.proofs.Steps.{value_next, regroup}
use Rattle.vme_legal_traces.proofs.Sets.{slots_same}
use Rattle.vme_legal_traces.proofs.Granting.{pair_keeps, first_keeps}

-- the last of so many edges more than one, from one on
abbrev last_edge : ℕ → ℕ → ℕ
last_edge k zero = k
last_edge k (suc count) = last_edge (k + 1) count

module _ (timeout : ℕ) (sample : ℕ → Sample) (pair : (k : ℕ) → breaks_grants (strict_scope timeout) (sample k) (sample (k + 1)) ≡ false)
    (later : List Sample) where
  -- samples of which each two that follow each other keep the rule, and others
  edges_granted : (w : Watch) (k count : ℕ) → w.scope ≡ strict_scope timeout → breaks_grants (strict_scope timeout) w.last (sample k) ≡ false
      → ((w' : Watch) → w'.scope ≡ strict_scope timeout → w'.last ≡ sample (last_edge k count) → keeps_after rules.Grant w' later ≡ true)
      → keeps_after rules.Grant w (map sample (range_with_len k (suc count)) ++ later) ≡ true
  unfolding watched
  edges_granted w k zero strict first rest =
      kept_both (breaks_grants w.scope w.last (sample k)) _ (ap (λ (scope : Scope). breaks_grants scope w.last (sample k)) strict ∙ first)
      (rest (watched w (sample k)) strict refl)
  edges_granted w k (suc count) strict first rest =
      kept_both (breaks_grants w.scope w.last (sample k)) _ (ap (λ (scope : Scope). breaks_grants scope w.last (sample k)) strict ∙ first)
      (edges_granted (watched w (sample k)) (k + 1) count strict (pair k) rest)

module _ (config : Configuration) (lawful : IsLawful config) (order : HasBoardsInOrder config) (slots : List ℕ) (timeout : ℕ) where
  -- the slots that drive BBSY* after some events
  abbrev drivers_after : List Observation → ℕ
  drivers_after events = slots_where config (λ b. not (is_high (value_after_run (busy_line b) (length config.boards) events High))) (length config.boards)

  -- they are those of the last sample of the last event
  next_drivers : (events : List Observation) (o : Observation) → (edge_sample config events o 19).drivers ≡ drivers_after (events ++ o ∷ [])
  unfolding sample_of
  next_drivers events o =
      slots_same config _ _ (length config.boards)
      (λ b there. ap (λ (v : Value). not (is_high v)) (sym (value_next (busy_line b) (length config.boards) events o High)))

  -- the samples of later events
  later_granted : (events later : List Observation) (w : Watch) → observations config slots ≡ events ++ later → w.scope ≡ strict_scope timeout
      → w.last.drivers ≡ drivers_after events → keeps_after rules.Grant w (run_samples config events later) ≡ true
  later_granted events [] w whole strict drivers = refl
  later_granted events (o ∷ later) w whole strict drivers =
      edges_granted timeout (edge_sample config events o) (pair_keeps config lawful slots events later o whole order timeout)
      (run_samples config (events ++ o ∷ []) later) w 0 19 strict
      (first_keeps config lawful slots events later o whole order timeout w.last drivers)
      (λ w' strict' last. later_granted (events ++ o ∷ []) later w' (whole ∙ sym (regroup events later o)) strict'
      (ap (λ (s : Sample). s.drivers) last ∙ next_drivers events o))

  -- the samples of a trace
  pub trace_granted : keeps rules.Grant (strict_scope timeout) (trace_samples config slots) ≡ true
  unfolding trace_samples sample_of
  trace_granted = later_granted [] (observations config slots) (started (strict_scope timeout) (sample_of config 0 start_of)) refl refl refl
