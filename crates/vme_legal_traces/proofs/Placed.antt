-- In our own traces each datum may come in its transfer, and its lines are driven.
use Rattle.std.proofs.Common.{◌≡◌, ℕ, Bool, true, false, List, [], ◌∷◌, ◌++◌, Option, Some, None, is_none, refl, ap, sym, subst, ◌∙◌, inl, inr}
use Rattle.vme_cycle.specs.SignalLines.{SignalLines}
use Rattle.vme_cycle.specs.Plans.{signals_of}
use Rattle.vme_script.specs.Configurations.{Configuration}
use Rattle.vme_script.specs.Lawful.{IsLawful}
use Rattle.vme_protocol.specs.declared.sample.Sample.{Sample}
use Rattle.vme_protocol.specs.declared.transfer.Transfer.{Transfer}
use Rattle.vme_protocol.specs.declared.watch.Watch.{Watch}
use Rattle.vme_protocol.specs.Watching.{started}
use Rattle.vme_trace.specs.declared.observation.Observation.{Observation}
use Rattle.vme_trace.specs.Observations.{observations}
use Rattle.vme_trace.specs.Handshakes.{unanswered_handshake}
use Rattle.vme_trace.specs.Slots.{has_ended}
use Rattle.vme_trace_laws.specs.Transfers.{OpenTransfer}
use Rattle.vme_trace_laws.proofs.lemmas.Waves.{HasOne}
use Rattle.vme_legal_traces.specs.Samples.{edge_sample, event_samples, trace_samples, sample_of, start_of}
use Rattle.vme_legal_traces.specs.Kept.{keeps_after, keeps, strict_scope}
use Rattle.vme_legal_traces.proofs.Levels.{levels_of, before}
use Rattle.vme_legal_traces.proofs.Addresses.{Address, address_of, top_of, alone_plain}
use Rattle.vme_legal_traces.proofs.Shaken.{none_of, sample_names, one_shows}
use Rattle.vme_legal_traces.proofs.Named.{Names, names_defined}
use Rattle.vme_legal_traces.proofs.Rows.{run_planned}
use Rattle.vme_legal_traces.proofs.Walked.{IsQuiet, IsAlone, View, rest_after, IsOpen, trace_walked}
use Rattle.vme_legal_traces.proofs.Located.{level_for}
use Rattle.vme_legal_traces.proofs.Opening.{some_data}
use Rattle.vme_legal_traces.proofs.Leveled.{HasLevel, early_edge, one_answered, one_level, one_driven, none_wrote}
use Rattle.vme_legal_traces.proofs.Answering.{IsReady, IsFresh, first_comes}
use Rattle.vme_legal_traces.proofs.Phased.{phase_before}
use Rattle.vme_legal_traces.proofs.Halves.{write_of, strobes_from}
use Rattle.vme_legal_traces.proofs.Loading.{alone_carried}
use Rattle.vme_legal_traces.proofs.Both.{rule_of, Unread}
use Rattle.vme_legal_traces.proofs.Stages.{at_phase, none_by, one_by}
use Rattle.vme_legal_traces.proofs.Comes.{Left, At, fresh_of, datum_event}

module _ (config : Configuration) (lawful : IsLawful config) (slots : List ℕ) (timeout : ℕ) (undefined : Bool) where
  -- an event without a handshake keeps the two rules
  quiet_event : (events later : List Observation) (o : Observation) (going next : Option OpenTransfer) (w : Watch)
      → observations config slots ≡ events ++ o ∷ later → IsQuiet o going next → levels_of w.last ≡ rest_after config events
      → IsOpen config events going → IsOpen config (events ++ o ∷ []) next → At config lawful slots timeout undefined going events w → (samples : List Sample)
      → ((w' : Watch) → levels_of w'.last ≡ rest_after config (events ++ o ∷ []) → At config lawful slots timeout undefined next (events ++ o ∷ []) w' → keeps_after (rule_of undefined) w' samples ≡ true)
      → keeps_after (rule_of undefined) w (event_samples config events o ++ samples) ≡ true
  quiet_event events later o None next w whole quiet last_is strobe strobe' at samples rest =
      let high : before config events o ≡ true = strobe in
      none_by config lawful slots timeout undefined events later o whole w last_is at.0 at.2 (λ u. Unit {0}) samples
      (λ w' last scope left unread. rest w' last (scope, subst (λ (one : Option OpenTransfer). Left config lawful slots timeout undefined one (events ++ o ∷ []) w') (sym quiet.same) tt, unread))
      (none_of o quiet.first)
      (subst (λ (b : Bool). at_phase (λ u. Unit {0}) (λ u. Unit {0}) (λ u. Unit {0}) (phase_before b) w.transfer) (sym high) tt)
  quiet_event events later o (Some one) next w whole quiet last_is strobe strobe' at samples rest =
      let none = none_of o quiet.first in
      let known = at.1 in
      let low : before config events o ≡ false = strobe in
      let D : Transfer → Type 0 = IsReady one.transfer one.moved in
      none_by config lawful slots timeout undefined events later o whole w last_is at.0 at.2 D samples
      (λ w' last scope left unread.
      let low' : (rest_after config (events ++ o ∷ [])).strobe ≡ false = strobe' ∙ ap (λ (found : Option OpenTransfer). is_none found) quiet.same in
      rest w' last (
        scope,
        subst (λ (found : Option OpenTransfer). Left config lawful slots timeout undefined found (events ++ o ∷ []) w') (sym quiet.same) (record {
          lawful_one = known.lawful_one;
          ready = left low';
          level = none_wrote config events o (level_for one.transfer) none known.level;
        }),
        unread,
      )) none (subst (λ (b : Bool). at_phase D D D (phase_before b) w.transfer) (sym low) known.ready)

  -- a cycle that no board answers keeps the two rules
  alone_event : (events later : List Observation) (o : Observation) (going next : Option OpenTransfer) (w : Watch)
      → observations config slots ≡ events ++ o ∷ later → IsAlone o going next → levels_of w.last ≡ rest_after config events
      → At config lawful slots timeout undefined going events w → (samples : List Sample)
      → ((w' : Watch) → levels_of w'.last ≡ rest_after config (events ++ o ∷ []) → At config lawful slots timeout undefined next (events ++ o ∷ []) w' → keeps_after (rule_of undefined) w' samples ≡ true)
      → keeps_after (rule_of undefined) w (event_samples config events o ++ samples) ≡ true
  alone_event events later o going next w whole alone last_is at samples rest =
      let s = alone.signals in
      let planned = run_planned config slots events later o whole s alone.activity in
      let t = planned.0 in
      let one : HasOne o = record { t = unanswered_handshake s; first = alone.first; second = alone.second } in
      let same : address_of s ≡ address_of (signals_of t 0) = ap address_of planned.2 in
      let names = sample_names config events o (address_of s) 1 (one_shows config events o (address_of s) one (alone_plain s) refl
      (record { begins = λ is. refl; goes = λ is. absurd (cc is) }) 1 (early_edge (has_ended o))) in
      let fresh = fresh_of config lawful slots timeout undefined events o t planned.1 (subst (λ (a : Address). Names a.am (top_of a) (edge_sample config events o 1)) same names) in
      let answered = one_answered config events o one in
      let strobes = strobes_from t 0 s true (edge_sample config events o 4) answered (ap (λ (x : SignalLines). x.strobes) planned.2) in
      let has_level : HasLevel config events o (level_for t) one.t = record {
        still = refl;
        begins = λ is. ap (λ (x : SignalLines). x.write) planned.2 ∙ write_of t 0;
        goes = λ is. absurd (cc is);
      } in
      let level = one_level config events o (level_for t) one refl has_level in
      one_by config lawful slots timeout undefined events later o whole w last_is at.0 at.2 (λ u. Unit {0}) samples
      (λ w' last scope left unread. rest w' last (scope, subst (λ (found : Option OpenTransfer). Left config lawful slots timeout undefined found (events ++ o ∷ []) w') (sym alone.closed) tt, unread))
      (IsFresh t) one (λ is. fresh) (λ is. absurd (cc is))
      (λ u is. (first_comes t planned.1 (some_data t planned.1) u (edge_sample config events o 4) level strobes is, tt))
      (λ is. names_defined (address_of s).am (top_of (address_of s)) (edge_sample config events o 1) names)
      (alone_carried config events o t planned.1 s planned.2 one refl (one_driven config events o (level_for t) one refl has_level) level answered.dtack strobes)

  -- each event keeps the two rules
  each_event : (events later : List Observation) (o : Observation) (going next : Option OpenTransfer) (w : Watch)
      → observations config slots ≡ events ++ o ∷ later → View config o going next → levels_of w.last ≡ rest_after config events
      → IsOpen config events going → IsOpen config (events ++ o ∷ []) next → At config lawful slots timeout undefined going events w → (samples : List Sample)
      → ((w' : Watch) → levels_of w'.last ≡ rest_after config (events ++ o ∷ []) → At config lawful slots timeout undefined next (events ++ o ∷ []) w' → keeps_after (rule_of undefined) w' samples ≡ true)
      → keeps_after (rule_of undefined) w (event_samples config events o ++ samples) ≡ true
  each_event events later o going next w whole (inl quiet) last_is strobe strobe' at samples rest =
      quiet_event events later o going next w whole quiet last_is strobe strobe' at samples rest
  each_event events later o going next w whole (inr (inl alone)) last_is strobe strobe' at samples rest =
      alone_event events later o going next w whole alone last_is at samples rest
  each_event events later o going next w whole (inr (inr datum)) last_is strobe strobe' at samples rest =
      datum_event config lawful slots timeout undefined events later o going next w whole datum last_is strobe' at samples rest

  -- the samples of a trace keep them
  pub trace_placed : keeps (rule_of undefined) (strict_scope timeout) (trace_samples config slots) ≡ true
  trace_placed =
      trace_walked config lawful slots (rule_of undefined) (At config lawful slots timeout undefined) each_event timeout (refl, tt, unread_start undefined)
    where
      unread_start : (undefined : Bool) → Unread undefined (started (strict_scope timeout) (sample_of config 0 start_of))
      unread_start true = refl
      unread_start false = tt
