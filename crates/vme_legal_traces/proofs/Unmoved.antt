-- In our own traces the address stands from the sample before AS* falls, while AS* is low.
use Rattle.std.proofs.Common.{◌≡◌, ℕ, Bool, true, false, not, ◌||◌, if◌then◌else◌, List, [], ◌∷◌, ◌++◌, length, Option, Some, None, is_none, refl, ap, sym, subst, ◌∙◌, inl, inr}
use Rattle.std.proofs.lemmas.Bool.{false≢true}
use Rattle.std.proofs.lemmas.Option.{same_Some}
use Rattle.vme_am.specs.Codes.{CodeRow}
use Rattle.vme_cycle.specs.Lawful.{Transfer, IsLawfulTransfer}
use Rattle.vme_cycle.specs.SignalLines.{SignalLines}
use Rattle.vme_cycle.specs.Plans.{signals_of}
use Rattle.vme_script.specs.Configurations.{Configuration}
use Rattle.vme_script.specs.Lawful.{IsLawful}
use Rattle.vme_protocol.specs.declared.sample.Sample.{Sample}
use Rattle.vme_protocol.specs.declared.rule.Rule.TheVariants as rules
use Rattle.vme_protocol.specs.declared.watch.Watch.{Watch}
use Rattle.vme_protocol.specs.Scopes.{is_strict}
use Rattle.vme_protocol.specs.Transfers.{is_wide_code}
use Rattle.vme_trace.specs.declared.observation.activity.TransferredDatum.{TransferredDatum}
use Rattle.vme_trace.specs.declared.observation.Observation.{Observation}
use Rattle.vme_trace.specs.declared.dump.change.Value.{Value}
use Rattle.vme_trace.specs.declared.dump.change.Value.TheVariants.{Low, High}
use Rattle.vme_trace.specs.declared.dump.handshake.Handshake.{Handshake}
use Rattle.vme_trace.specs.Observations.{observations}
use Rattle.vme_trace.specs.Handshakes.{unanswered_handshake, first_of_datum, first_handshake, second_handshake}
use Rattle.vme_trace.specs.Slots.{has_ended}
use Rattle.vme_trace_laws.specs.Shown.{address_strobe}
use Rattle.vme_trace_laws.specs.Transfers.{OpenTransfer, open_at}
use Rattle.vme_trace_laws.proofs.lemmas.Waves.{HasNone, shape}
use Rattle.vme_trace_laws.proofs.lemmas.Turns.{event_paired, strobe_before_event, first_opens}
use Rattle.vme_legal_traces.specs.Samples.{is_high, edge_sample, event_samples, trace_samples}
use Rattle.vme_legal_traces.specs.Kept.{keeps_after, keeps, strict_scope}
use Rattle.vme_legal_traces.proofs.Order.{Levels, levels_at, falls_in, nothing, resting}
use Rattle.vme_legal_traces.proofs.Levels.{levels_of, before, ends_resting, none_levels, one_levels, two_levels}
use Rattle.vme_legal_traces.proofs.Named.{IsOf}
use Rattle.vme_legal_traces.proofs.Addressed.{addressed, addressed_keeps, IsKnown, known_before, none_named, one_named, two_named, none_is, one_is, two_is}
use Rattle.vme_legal_traces.proofs.Steps.{value_next}
use Rattle.vme_legal_traces.proofs.Walked.{after_datum, IsQuiet, IsAlone, IsDatum, View, rest_after, IsOpen, trace_walked}
use Rattle.vme_legal_traces.proofs.Addresses.{Address, address_of, top_of, no_address, same_address, first_address, first_plain, second_plain, alone_plain, wide_code, signals_row}
use Rattle.vme_legal_traces.proofs.Shaken.{Shows, ShowsAt, IsShaken, none_of, both_hold, one_early, sample_names, shows_next, none_shows, one_names, two_names, shaken_next}

-- AS* before a handshake
level_opens : (opens : Bool) → is_high (if opens then High else Low) ≡ opens
level_opens true = refl
level_opens false = refl

module _ (config : Configuration) (lawful : IsLawful config) (slots : List ℕ) where
  module _ (events later : List Observation) (o : Observation) (whole : observations config slots ≡ events ++ o ∷ later) (a : Address) where
    module _ (w : Watch) (last_is : levels_of w.last ≡ rest_after config events) (strict : is_strict w.scope ≡ true) (wide : Bool)
        (wide_is : wide ≡ true → is_wide_code a.am ≡ true) (samples : List Sample)
        (rest : (w' : Watch) → levels_of w'.last ≡ rest_after config (events ++ o ∷ []) → is_strict w'.scope ≡ true
        → ((rest_after config (events ++ o ∷ [])).strobe ≡ false → IsOf a.am (top_of a) w'.transfer × (wide ≡ true → w'.transfer.answered ≡ true))
        → keeps_after rules.AddressChanges w' samples ≡ true) where
      -- what is remembered of the transfer that goes on
      record IsGoing (opens : Bool) : Type 0 where
        own : opens ≡ false → IsOf a.am (top_of a) w.transfer
        answered : opens ≡ false → wide ≡ true → w.transfer.answered ≡ true

      -- the levels at the last edge of the event
      last_rests : levels_of (edge_sample config events o 19) ≡ rest_after config (events ++ o ∷ [])
      last_rests =
          ends_resting config events o
          ∙ ap (λ (v : Value). resting (is_high v)) (sym (value_next address_strobe (length config.boards) events o High))

      -- what is known before the event
      known_of : (opens : Bool) → IsGoing opens → IsKnown a.am (top_of a) (known_before opens wide) w
      known_of opens going = record {
        strict = strict;
        live = λ is. going.own (not_opens opens is);
        freed = λ is.
            let parts = both_hold (not opens) wide is in
            ((going.own (not_opens opens parts.0)).wide ∙ wide_is parts.1, going.answered (not_opens opens parts.0) parts.1);
        last = λ is. absurd (cc is);
      }
        where
          not_opens : (b : Bool) → not b ≡ true → b ≡ false
          not_opens false h = refl
          not_opens true h = absurd cc

      -- the samples of the event, by its levels
      event_by : (opens : Bool) (levels : ℕ → Levels) (named : ℕ → Bool) → IsGoing opens → ((k : ℕ) → levels_of (edge_sample config events o k) ≡ levels k)
          → ((k : ℕ) → named k ≡ true → ShowsAt config events o a k)
          → addressed wide named levels (known_before opens wide) (rest_after config events) 0 20 ≡ true
          → keeps_after rules.AddressChanges w (event_samples config events o ++ samples) ≡ true
      event_by opens levels named going same names h =
          let ends : levels 19 ≡ rest_after config (events ++ o ∷ []) = sym (same 19) ∙ last_rests in
          addressed_keeps a.am (top_of a) wide wide_is named (edge_sample config events o) levels same (λ k is. sample_names config events o a k (names k is)) samples w
          (known_before opens wide) (rest_after config events) 0 20 last_is (known_of opens going) h
          (λ w' last strict' left. rest w' (last ∙ ends) strict'
          (λ low. left (ap (λ (l : Levels). l.strobe) ends ∙ low)))

      -- the samples of an event without a handshake
      none_by : HasNone o → IsGoing (before config events o) → ((before config events o) ≡ false → wide ≡ false → Shows config a events)
          → keeps_after rules.AddressChanges w (event_samples config events o ++ samples) ≡ true
      none_by none going shows =
          let strobe = before config events o in
          event_by strobe (levels_at strobe false false 7 nothing nothing) (none_named strobe wide) going (none_levels config events o none)
          (λ k is. let parts = both_hold (not strobe) (not wide) is in none_shows config events o a none (shows (not_of strobe parts.0) (not_of wide parts.1)) k)
          (none_is strobe wide)
        where
          not_of : (b : Bool) → not b ≡ true → b ≡ false
          not_of false h = refl
          not_of true h = absurd cc

      -- AS* before a handshake of the event is high if it opens a transfer
      opens_before : (t : Handshake) → first_handshake o.activity o.reply ≡ Some t → before config events o ≡ t.opens
      opens_before t first = ap is_high (strobe_before_event config lawful slots events later o whole t first) ∙ level_opens t.opens

      -- the samples of an event with handshakes
      shaken_by : (t : Handshake) → first_handshake o.activity o.reply ≡ Some t → IsShaken config events o a wide t → IsGoing t.opens
          → keeps_after rules.AddressChanges w (event_samples config events o ++ samples) ≡ true
      shaken_by t first s going =
          elim (shape o) [
            | inl none ↦ absurd (cc (sym none.first ∙ first))
            | inr (inl one) ↦
                let same : t ≡ one.t = same_Some _ _ (sym first ∙ one.first) in
                let v = one.t in
                let opens = opens_before v one.first in
                let early = one_early (first_handshake o.activity o.reply) (second_handshake o.activity o.reply) v (event_paired o.activity o.reply) one.first one.second in
                let ds1 = not v.lines.strobes.ds1 in
                let ds0 = not v.lines.strobes.ds0 in
                event_by v.opens (levels_at (before config events o) v.opens (has_ended o) 7 (falls_in ds1 ds0 v.berr) nothing)
                (one_named wide v.opens (has_ended o)) (subst (λ (h : Handshake). IsGoing h.opens) same going) (one_levels config events o one)
                (one_names config events o a wide one early (subst (IsShaken config events o a wide) same s))
                (ap (λ (b : Bool). addressed wide (one_named wide v.opens (has_ended o)) (levels_at b v.opens (has_ended o) 7 (falls_in ds1 ds0 v.berr) nothing)
                (known_before v.opens wide) (resting b) 0 20) opens
                ∙ one_is ds1 ds0 wide v.opens (has_ended o) v.berr)
            | inr (inr two) ↦
                let same : t ≡ two.t = same_Some _ _ (sym first ∙ two.first) in
                let v = two.t in
                let u = two.u in
                let opens = opens_before v two.first in
                let ds1 = not v.lines.strobes.ds1 in
                let ds0 = not v.lines.strobes.ds0 in
                let ds1' = not u.lines.strobes.ds1 in
                let ds0' = not u.lines.strobes.ds0 in
                let p = falls_in ds1 ds0 v.berr in
                let q = falls_in ds1' ds0' u.berr in
                event_by v.opens (levels_at (before config events o) v.opens (has_ended o) 16 p q)
                (two_named wide v.opens (has_ended o)) (subst (λ (h : Handshake). IsGoing h.opens) same going) (two_levels config events o two)
                (two_names config events o a wide two (subst (IsShaken config events o a wide) same s))
                (ap (λ (b : Bool). addressed wide (two_named wide v.opens (has_ended o)) (levels_at b v.opens (has_ended o) 16 p q)
                (known_before v.opens wide) (resting b) 0 20) opens
                ∙ two_is ds1 ds0 ds1' ds0' wide v.opens (has_ended o) v.berr u.berr)
          ]

  -- what is known of the open transfer after events
  record IsLeft (t : Transfer) (events : List Observation) (w : Watch) : Type 0 where
    lawful_one : IsLawfulTransfer t
    own : IsOf (address_of (signals_of t 0)).am (top_of (address_of (signals_of t 0))) w.transfer
    answered : t.am.wide ≡ true → w.transfer.answered ≡ true
    shows : t.am.wide ≡ false → Shows config (address_of (signals_of t 0)) events

  -- what is known of it, if there is one
  abbrev Left : Option OpenTransfer → List Observation → Watch → Type 0
  Left None events w = Unit {0}
  Left (Some one) events w = IsLeft one.transfer events w

  -- and the scope is strict
  abbrev At : Option OpenTransfer → List Observation → Watch → Type 0
  At going events w = (is_strict w.scope ≡ true) × Left going events w

  -- an event without a handshake keeps J5
  quiet_event : (events later : List Observation) (o : Observation) (going next : Option OpenTransfer) (w : Watch)
      → observations config slots ≡ events ++ o ∷ later → IsQuiet o going next → levels_of w.last ≡ rest_after config events
      → IsOpen config events going → IsOpen config (events ++ o ∷ []) next → At going events w → (samples : List Sample)
      → ((w' : Watch) → levels_of w'.last ≡ rest_after config (events ++ o ∷ []) → At next (events ++ o ∷ []) w' → keeps_after rules.AddressChanges w' samples ≡ true)
      → keeps_after rules.AddressChanges w (event_samples config events o ++ samples) ≡ true
  quiet_event events later o None next w whole quiet last_is strobe strobe' at samples rest =
      let none = none_of o quiet.first in
      let high : before config events o ≡ true = strobe in
      none_by events later o whole no_address w last_is at.0 false (λ is. absurd (cc is)) samples
      (λ w' last strict left. rest w' last (strict, subst (λ (one : Option OpenTransfer). Left one (events ++ o ∷ []) w') (sym quiet.same) tt)) none
      (record { own = λ low. absurd (false≢true (sym low ∙ high)); answered = λ low. absurd (false≢true (sym low ∙ high)) })
      (λ low. absurd (false≢true (sym low ∙ high)))
  quiet_event events later o (Some one) next w whole quiet last_is strobe strobe' at samples rest =
      let none = none_of o quiet.first in
      let t = one.transfer in
      let known = at.1 in
      let a : Address = address_of (signals_of t 0) in
      none_by events later o whole a w last_is at.0 t.am.wide (wide_code t known.lawful_one) samples
      (λ w' last strict left.
      let low : (rest_after config (events ++ o ∷ [])).strobe ≡ false = strobe' ∙ ap (λ (open_one : Option OpenTransfer). is_none open_one) quiet.same in
      let own = left low in
      rest w' last (
        strict,
        subst (λ (open_one : Option OpenTransfer). Left open_one (events ++ o ∷ []) w') (sym quiet.same) (record {
          lawful_one = known.lawful_one;
          own = own.0;
          answered = own.1;
          shows = λ narrow. shows_next config events o a (none_shows config events o a none (known.shows narrow) 19);
        }),
      )) none
      (record { own = λ low. known.own; answered = λ low. known.answered }) (λ low. known.shows)

  -- a cycle that no board answers keeps J5
  alone_event : (events later : List Observation) (o : Observation) (going next : Option OpenTransfer) (w : Watch)
      → observations config slots ≡ events ++ o ∷ later → IsAlone o going next → levels_of w.last ≡ rest_after config events
      → At going events w → (samples : List Sample)
      → ((w' : Watch) → levels_of w'.last ≡ rest_after config (events ++ o ∷ []) → At next (events ++ o ∷ []) w' → keeps_after rules.AddressChanges w' samples ≡ true)
      → keeps_after rules.AddressChanges w (event_samples config events o ++ samples) ≡ true
  alone_event events later o going next w whole alone last_is at samples rest =
      let s = alone.signals in
      shaken_by events later o whole (address_of s) w last_is at.0 false (λ is. absurd (cc is)) samples
      (λ w' last strict left. rest w' last (strict, subst (λ (one : Option OpenTransfer). Left one (events ++ o ∷ []) w') (sym alone.closed) tt))
      (unanswered_handshake s) alone.first
      (record {
        begins = λ is. refl;
        goes = λ is. absurd (cc is);
        plain = λ h. alone_plain s;
        second = λ narrow u is. absurd (cc (sym alone.second ∙ is));
      })
      (record { own = λ is. absurd (cc is); answered = λ is. absurd (cc is) })

  module _ (events later : List Observation) (o : Observation) (going next : Option OpenTransfer) (w : Watch)
      (whole : observations config slots ≡ events ++ o ∷ later) (datum : IsDatum config o going next) (last_is : levels_of w.last ≡ rest_after config events)
      (strobe' : IsOpen config (events ++ o ∷ []) next) (at : At going events w) where
    -- the datum, its transfer and its first handshake
    abbrev d : TransferredDatum
    d = datum.datum

    -- the transfer
    abbrev t : Transfer
    t = datum.shown.transfer

    -- the first handshake
    abbrev h : Handshake
    h = first_of_datum datum.datum datum.reply

    -- the address of the transfer
    abbrev a : Address
    a = address_of (signals_of datum.shown.transfer 0)

    -- what is known of a transfer that goes on
    left_before : h.opens ≡ false → IsLeft t events w
    left_before is =
        let later_one : d.first ≡ false = sym (first_opens d datum.reply) ∙ is in
        subst (λ (one : Option OpenTransfer). Left one events w)
        (datum.was ∙ ap (λ (b : Bool). if b then None else Some (open_at o.board t datum.shown.number)) later_one) at.1

    -- the row of the datum
    same_row : d.signals.am ≡ t.am
    same_row = ap (λ (s : SignalLines). s.am) datum.shown.signals ∙ signals_row t datum.shown.number

    -- what its handshakes do with the address
    datum_shaken : IsShaken config events o a t.am.wide h
    datum_shaken = record {
      begins = λ is. first_address d datum.reply ∙ ap address_of datum.shown.signals ∙ same_address t datum.shown.number;
      goes = λ is narrow. (left_before is).shows narrow;
      plain = λ is. first_plain d datum.reply
          (ap (λ (b : Bool). b || not d.signals.am.wide) (sym (first_opens d datum.reply))
          ∙ ap (λ (row : CodeRow). h.opens || not row.wide) same_row ∙ is);
      second = λ narrow u is. second_plain d datum.reply u (ap (λ (row : CodeRow). row.wide) same_row ∙ narrow) (sym datum.second ∙ is);
    }

    -- what is known of the open transfer after the event
    left_after : (w' : Watch)
        → ((rest_after config (events ++ o ∷ [])).strobe ≡ false → IsOf a.am (top_of a) w'.transfer × (t.am.wide ≡ true → w'.transfer.answered ≡ true))
        → Left next (events ++ o ∷ []) w'
    left_after w' left =
        after_datum config o going next datum (λ found. Left found (events ++ o ∷ []) w') tt λ goes same.
        let own = left (strobe' ∙ ap (λ (found : Option OpenTransfer). is_none found) same) in
        record {
          lawful_one = datum.shown.lawful;
          own = own.0;
          answered = own.1;
          shows = λ narrow. shaken_next config events o a t.am.wide h datum.first datum_shaken narrow goes;
        }

    -- the event keeps J5
    datum_event : (samples : List Sample)
        → ((w' : Watch) → levels_of w'.last ≡ rest_after config (events ++ o ∷ []) → At next (events ++ o ∷ []) w'
        → keeps_after rules.AddressChanges w' samples ≡ true)
        → keeps_after rules.AddressChanges w (event_samples config events o ++ samples) ≡ true
    datum_event samples rest =
        shaken_by events later o whole a w last_is at.0 t.am.wide (wide_code t datum.shown.lawful) samples
        (λ w' last strict left. rest w' last (strict, left_after w' left)) h datum.first datum_shaken
        (record { own = λ is. (left_before is).own; answered = λ is. (left_before is).answered })

  -- each event keeps J5
  each_event : (events later : List Observation) (o : Observation) (going next : Option OpenTransfer) (w : Watch)
      → observations config slots ≡ events ++ o ∷ later → View config o going next → levels_of w.last ≡ rest_after config events
      → IsOpen config events going → IsOpen config (events ++ o ∷ []) next → At going events w → (samples : List Sample)
      → ((w' : Watch) → levels_of w'.last ≡ rest_after config (events ++ o ∷ []) → At next (events ++ o ∷ []) w' → keeps_after rules.AddressChanges w' samples ≡ true)
      → keeps_after rules.AddressChanges w (event_samples config events o ++ samples) ≡ true
  each_event events later o going next w whole (inl quiet) last_is strobe strobe' at samples rest =
      quiet_event events later o going next w whole quiet last_is strobe strobe' at samples rest
  each_event events later o going next w whole (inr (inl alone)) last_is strobe strobe' at samples rest =
      alone_event events later o going next w whole alone last_is at samples rest
  each_event events later o going next w whole (inr (inr datum)) last_is strobe strobe' at samples rest =
      datum_event events later o going next w whole datum last_is strobe' at samples rest

  -- the samples of a trace keep J5
  pub trace_unmoved : (timeout : ℕ) → keeps rules.AddressChanges (strict_scope timeout) (trace_samples config slots) ≡ true
  trace_unmoved timeout = trace_walked config lawful slots rules.AddressChanges At each_event timeout (refl, tt)
