-- At each sample of a trace one slot at most drives BBSY*.
use Rattle.std.proofs.Common.{◌≡◌, ℕ, zero, suc, ◌+◌, true, false, List, [], ◌∷◌, ◌++◌, map, refl, ap, sym, ◌∙◌}
use Rattle.std.specs.List.{range_with_len}
use Rattle.vme_script.specs.Configurations.{Configuration}
use Rattle.vme_script.specs.Lawful.{IsLawful}
use Rattle.vme_protocol.specs.declared.sample.Sample.{Sample}
use Rattle.vme_protocol.specs.declared.scope.Scope.{Scope}
use Rattle.vme_protocol.specs.declared.rule.Rule.TheVariants as rules
use Rattle.vme_protocol.specs.declared.watch.Watch.{Watch}
use Rattle.vme_protocol.specs.Arbitration.{two_hold}
use Rattle.vme_protocol.specs.Watching.{started, watched}
use Rattle.vme_trace.specs.declared.observation.Observation.{Observation}
use Rattle.vme_trace.specs.Observations.{observations}
use Rattle.vme_legal_traces.specs.Samples.{edge_sample, start_of, sample_of, run_samples, trace_samples}
use Rattle.vme_legal_traces.specs.Kept.{keeps_after, keeps, strict_scope}
use Rattle.vme_legal_traces.proofs.Each.{kept_both}
use Rattle.vme_legal_traces.proofs.Steps.{regroup}
use Rattle.vme_legal_traces.proofs.Holding.{sample_held}

module _ (timeout : ℕ) (sample : ℕ → Sample) (held : (k : ℕ) → two_hold (strict_scope timeout) (sample k) ≡ false) (later : List Sample)
    (rest : (w' : Watch) → w'.scope ≡ strict_scope timeout → keeps_after rules.TwoHolders w' later ≡ true) where
  -- samples that have one holder, and others
  edges_held : (w : Watch) (k count : ℕ) → w.scope ≡ strict_scope timeout
      → keeps_after rules.TwoHolders w (map sample (range_with_len k count) ++ later) ≡ true
  unfolding watched
  edges_held w k zero strict = rest w strict
  edges_held w k (suc count) strict =
      kept_both (two_hold w.scope (sample k)) _ (ap (λ (scope : Scope). two_hold scope (sample k)) strict ∙ held k)
      (edges_held (watched w (sample k)) (k + 1) count strict)

module _ (config : Configuration) (lawful : IsLawful config) (slots : List ℕ) (timeout : ℕ) where
  -- the samples of later events
  later_held : (events later : List Observation) (w : Watch) → observations config slots ≡ events ++ later → w.scope ≡ strict_scope timeout
      → keeps_after rules.TwoHolders w (run_samples config events later) ≡ true
  later_held events [] w whole strict = refl
  later_held events (o ∷ later) w whole strict =
      edges_held timeout (edge_sample config events o) (λ k. sample_held config lawful slots events later o whole k timeout)
      (run_samples config (events ++ o ∷ []) later)
      (λ w' strict'. later_held (events ++ o ∷ []) later w' (whole ∙ sym (regroup events later o)) strict') w 0 20 strict

  -- the samples of a trace
  pub trace_held : keeps rules.TwoHolders (strict_scope timeout) (trace_samples config slots) ≡ true
  unfolding trace_samples
  trace_held = later_held [] (observations config slots) (started (strict_scope timeout) (sample_of config 0 start_of)) refl refl
