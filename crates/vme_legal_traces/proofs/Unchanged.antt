-- In our own traces WRITE* and data stand under the strobe and the answer.
use Rattle.std.proofs.Common.{◌≡◌, ℕ, suc, ◌+◌, ◌<◌, Bool, true, false, nat_eq, not, ◌&&◌, ◌||◌, if◌then◌else◌, List, [], ◌∷◌, ◌++◌, length, Option, Some, None, refl, ap, sym, ◌∙◌, arith, inl, inr, ◌⊎◌}
use Rattle.std.specs.Prelude.{nat_le}
use Rattle.std.proofs.lemmas.Bool.{false≢true, lt-leb, le-leb}
use Rattle.std.proofs.lemmas.Option.{same_Some}
use Rattle.vme_core.specs.declared.event.EventReply.{EventReply}
use Rattle.vme_core.specs.declared.event.EventReply.TheVariants as replies
use Rattle.vme_script.specs.Configurations.{Configuration}
use Rattle.vme_script.specs.Lawful.{IsLawful}
use Rattle.vme_protocol.specs.declared.sample.Sample.{Sample}
use Rattle.vme_protocol.specs.declared.rule.Rule.TheVariants as rules
use Rattle.vme_protocol.specs.declared.watch.Watch.{Watch}
use Rattle.vme_protocol.specs.Watching.{started}
use Rattle.vme_trace.specs.declared.observation.activity.Activity.{Activity}
use Rattle.vme_trace.specs.declared.observation.activity.Activity.TheVariants.{Requests, Polls, Releases, Transfers, Local, Other}
use Rattle.vme_trace.specs.declared.observation.Observation.{Observation}
use Rattle.vme_trace.specs.declared.dump.change.Value.{Value}
use Rattle.vme_trace.specs.declared.dump.change.Value.TheVariants.{High, Free}
use Rattle.vme_trace.specs.declared.dump.handshake.Handshake.{Handshake}
use Rattle.vme_trace.specs.Changes.{level_of}
use Rattle.vme_trace.specs.Variables.{bus_code}
use Rattle.vme_trace.specs.Observations.{observations}
use Rattle.vme_trace.specs.Handshakes.{edge_of, first_handshake, second_handshake}
use Rattle.vme_trace.specs.Bus.{handshake_changes}
use Rattle.vme_trace.specs.Slots.{has_ended}
use Rattle.vme_trace.specs.Events.{event_changes}
use Rattle.vme_trace.specs.Shown.{value_after, value_at, value_after_run}
use Rattle.vme_trace_laws.specs.Shown.{address_strobe}
use Rattle.vme_trace_laws.proofs.lemmas.Waves.{pulse, at_pulse, pulse_early, HasOne, HasTwo, shape, one_parts, two_parts, write_after}
use Rattle.vme_trace_laws.proofs.lemmas.Turns.{ArePaired, event_paired}
use Rattle.vme_legal_traces.specs.Samples.{is_high, edge_sample, start_of, sample_of, event_samples, run_samples, trace_samples}
use Rattle.vme_legal_traces.specs.Kept.{keeps_after, keeps, strict_scope}
use Rattle.vme_legal_traces.proofs.Order.{Levels, levels_at, falls_in, nothing, resting}
use Rattle.vme_legal_traces.proofs.Levels.{levels_of, before, ends_resting, none_levels, one_levels, two_levels}
use Rattle.vme_legal_traces.proofs.Strobed.{run_strobed}
use Rattle.vme_legal_traces.proofs.Standing.{write_zero, one_write, two_write, one_lines, two_lines}
use Rattle.vme_legal_traces.proofs.Stable.{Known, stable, stable_keeps, none_known, one_known, two_known, none_stable, one_is, two_is}
use Rattle.vme_legal_traces.proofs.Edges.{two_steady, at_or, at_edge, either, both_of, one_levels_at, one_lines_at, two_levels_at, two_lines_at}
use Rattle.vme_legal_traces.proofs.Written.{first_level, second_level, write_cycle, joined, run_high}
use Rattle.vme_legal_traces.proofs.Steps.{value_next, regroup}

-- WRITE* does not fall in a first handshake
first_stays : (activity : Activity) (reply : EventReply) (t : Handshake) → first_handshake activity reply ≡ Some t → t.falls ≡ false
first_stays Requests reply t is = absurd (cc is)
first_stays Polls reply t is = absurd (cc is)
first_stays (Releases None) reply t is = absurd (cc is)
first_stays (Releases (Some s)) reply t is = ap (λ (h : Handshake). h.falls) (sym (same_Some _ _ is))
first_stays (Transfers d) (replies.Board reply) t is = ap (λ (h : Handshake). h.falls) (sym (same_Some _ _ is)) ∙ (first_level d reply).1
first_stays (Transfers d) (replies.Bus reply) t is = absurd (cc is)
first_stays (Local cmd) reply t is = absurd (cc is)
first_stays Other reply t is = absurd (cc is)

-- the second handshake of a read has the level of the first
second_stays : (activity : Activity) (reply : EventReply) (t u : Handshake) → first_handshake activity reply ≡ Some t → second_handshake activity reply ≡ Some u
    → u.lines.write ≡ true → (u.falls ≡ false) × (t.lines.write ≡ true)
second_stays Requests reply t u first is read = absurd (cc is)
second_stays Polls reply t u first is read = absurd (cc is)
second_stays (Releases signals) reply t u first is read = absurd (cc is)
second_stays (Transfers d) (replies.Board reply) t u first is read =
    elim (second_level d reply u is) [
      | inl plain ↦ (
        plain.0,
        ap (λ (h : Handshake). h.lines.write) (sym (same_Some _ _ first)) ∙ (first_level d reply).0 ∙ sym plain.1 ∙ read,
      )
      | inr half ↦ absurd (false≢true (sym half.1 ∙ read))
    ]
second_stays (Transfers d) (replies.Bus reply) t u first is read = absurd (cc is)
second_stays (Local cmd) reply t u first is read = absurd (cc is)
second_stays Other reply t u first is read = absurd (cc is)

-- a level before its release
high_choice : (opens past : Bool) (level v : Value) → past ≡ true → is_high level ≡ true → (opens ≡ false → is_high v ≡ true)
    → is_high (if opens && past then level else v) ≡ true
high_choice true true level v is high other = high
high_choice true false level v is high other = absurd cc
high_choice false past level v is high other = other refl

-- a single handshake is an early one
one_early : (first second : Option Handshake) (t : Handshake) → ArePaired first second → first ≡ Some t → second ≡ None → t.late ≡ false
one_early None second t pair is none = absurd (cc is)
one_early (Some s) (Some u) t pair is none = absurd (cc none)
one_early (Some s) None t pair is none = ap (λ (h : Handshake). h.late) (sym (same_Some _ _ is)) ∙ pair

-- nothing is known of edge 0 of an event with one handshake
one_start : (write : Bool) → (one_known write).still 0 ≡ false
one_start true = refl
one_start false = refl

-- nor of an event with two
two_start : (write write' : Bool) → (two_known write write').still 0 ≡ false
two_start true true = refl
two_start true false = refl
two_start false true = refl
two_start false false = refl

-- a strobe that a handshake has
pub has_low : (ds1 ds0 : Bool) → (ds1 ≡ false) ⊎ (ds0 ≡ false) → (not ds1 || not ds0) ≡ true
has_low false ds0 low = refl
has_low true false low = refl
has_low true true (inl low) = absurd cc
has_low true true (inr low) = absurd cc

-- a choice whose condition holds
pub chosen : (condition kept : Bool) → condition ≡ true → (if condition then kept else true) ≡ true → kept ≡ true
chosen true kept is h = h
chosen false kept is h = absurd cc

-- conditions that hold together
pub all_true : (a b : Bool) → a ≡ true → b ≡ true → (a && b) ≡ true
all_true true b is h = h
all_true false b is h = absurd cc

module _ (config : Configuration) (lawful : IsLawful config) (slots : List ℕ) where
  -- the levels after some events
  abbrev rest_after : List Observation → Levels
  rest_after events = resting (is_high (value_after_run address_strobe (length config.boards) events High))

  module _ (events later : List Observation) (o : Observation) (whole : observations config slots ≡ events ++ o ∷ later) where
    -- WRITE* that a sample shows
    write_shown : (k : ℕ) → ((v : Value) → v ≡ value_after_run (bus_code 77) (length config.boards) events Free
        → is_high (value_at (bus_code 77) (event_changes (length config.boards) (length events + 1) o) v k) ≡ true)
        → (edge_sample config events o k).write ≡ true
    unfolding sample_of
    write_shown k is = is (value_after_run (bus_code 77) (length config.boards) events Free) refl

    -- the level of WRITE* before its release, in a read
    read_level : (t : Handshake) (k : ℕ) (v : Value) → first_handshake o.activity o.reply ≡ Some t → t.lines.write ≡ true
        → v ≡ value_after_run (bus_code 77) (length config.boards) events Free → is_high (if t.opens && nat_le 0 k then level_of t.lines.write else v) ≡ true
    read_level t k v first read is =
        high_choice t.opens (nat_le 0 k) (level_of t.lines.write) v (le-leb 0 k (omega arith)) (ap (λ (b : Bool). is_high (level_of b)) read)
        (λ none. ap is_high is ∙ run_high config lawful slots events later o whole t first none read)

    -- WRITE* is high in an event with one handshake of a read
    one_high : (one : HasOne o) (k : ℕ) → one.t.lines.write ≡ true → one.t.late ≡ false → k < 10 → (edge_sample config events o k).write ≡ true
    one_high one k read early soon = write_shown k λ v is.
        let t = one.t in
        let edge : edge_of t 9 ≡ 10 = rw early refl in
        let order : 0 < edge_of t 9 = omega (arith, edge) in
        ap is_high (at_pulse (bus_code 77) (event_changes (length config.boards) (length events + 1) o) (level_of t.lines.write) Free v t.opens t.ends 0
        (edge_of t 9) order
        (λ j w. one_parts (bus_code 77) (length config.boards) (length events + 1) o one write_cycle j w
        ∙ write_after j t w (first_stays o.activity o.reply t one.first)) k
        ∙ pulse_early (level_of t.lines.write) Free v t.opens t.ends 0 (edge_of t 9) k (lt-leb (edge_of t 9) k (omega (arith, edge, soon))))
        ∙ read_level t k v one.first read is

    -- WRITE* is high in an event with two handshakes of a read
    two_high : (two : HasTwo o) (k : ℕ) → two.u.lines.write ≡ true → k < 19 → (edge_sample config events o k).write ≡ true
    two_high two k read soon = write_shown k λ v is.
        let t = two.t in
        let u = two.u in
        let both = second_stays o.activity o.reply t u two.first two.second read in
        let edge : edge_of u 9 ≡ 19 = ap (λ (b : Bool). if b then 10 + 9 else 1 + 9) two.late in
        let order : 0 < edge_of u 9 = omega (arith, edge) in
        ap is_high (at_pulse (bus_code 77) (event_changes (length config.boards) (length events + 1) o) (level_of t.lines.write) Free v t.opens u.ends 0
        (edge_of u 9) order
        (λ j w. two_parts (bus_code 77) (length config.boards) (length events + 1) o two write_cycle j w
        ∙ ap (value_after (bus_code 77) j (handshake_changes u)) (write_after j t w (first_stays o.activity o.reply t two.first))
        ∙ write_after j u (pulse (level_of t.lines.write) Free t.opens t.ends 0 (edge_of t 9) j w) both.0
        ∙ joined (level_of t.lines.write) (level_of u.lines.write) w t.opens t.ends u.opens u.ends (edge_of t 9) (edge_of u 9) j two.goes_on two.opened) k
        ∙ pulse_early (level_of t.lines.write) Free v t.opens u.ends 0 (edge_of u 9) k (lt-leb (edge_of u 9) k (omega (arith, edge, soon))))
        ∙ read_level t k v two.first both.1 is

    -- WRITE* at edge 0 of an event with two handshakes
    zero_value : (two : HasTwo o) (v : Value) → value_at (bus_code 77) (event_changes (length config.boards) (length events + 1) o) v 0
        ≡ (if two.t.opens && nat_le 0 0 then level_of two.t.lines.write else v)
    unfolding value_at
    zero_value two v =
        let t = two.t in
        two_parts (bus_code 77) (length config.boards) (length events + 1) o two write_cycle 0 v
        ∙ write_zero two.u _ two.opened two.late
        ∙ write_after 0 t v (first_stays o.activity o.reply t two.first)
        ∙ ap (λ (b : Bool). if b && nat_eq (edge_of t 9) 0 then Free else (if t.opens && nat_eq 0 0 then level_of t.lines.write else v)) two.goes_on

    -- it is high, if the first is that of a read
    zero_high : (two : HasTwo o) → two.t.lines.write ≡ true → (edge_sample config events o 0).write ≡ true
    zero_high two read = write_shown 0 λ v is.
        let t = two.t in
        ap is_high (zero_value two v) ∙ read_level t 0 v two.first read is

    -- WRITE* stands from edge 0 to edge 4
    early_high_at : (two : HasTwo o) (k : ℕ) → two.t.lines.write ≡ true → (nat_eq k 3 || nat_eq k 4) ≡ true → (edge_sample config events o k).write ≡ true
    early_high_at two k read =
        let step = two_steady config events o two in
        let three : (edge_sample config events o 3).write ≡ true
        = step 2 refl refl refl ∙ step 1 refl refl refl ∙ step 0 refl refl refl ∙ zero_high two read in
        at_or (λ j. (edge_sample config events o j).write ≡ true) 3 k _ three
        (at_edge (λ j. (edge_sample config events o j).write ≡ true) 4 k (step 3 refl refl refl ∙ three))

    -- WRITE* is high where it is known to be in an event with one handshake
    one_highs : (one : HasOne o) → one.t.late ≡ false → (k : ℕ) → (one_known one.t.lines.write).high k ≡ true → (edge_sample config events o k).write ≡ true
    one_highs one early k h =
        let parts = both_of one.t.lines.write (nat_eq k 3 || nat_eq k 4) h in
        at_or (λ j. (edge_sample config events o j).write ≡ true) 3 k _ (one_high one 3 parts.0 early (omega arith))
        (at_edge (λ j. (edge_sample config events o j).write ≡ true) 4 k (one_high one 4 parts.0 early (omega arith))) parts.1

    -- and in an event with two
    two_highs : (two : HasTwo o) (k : ℕ) → (two_known two.t.lines.write two.u.lines.write).high k ≡ true → (edge_sample config events o k).write ≡ true
    two_highs two k h =
        either _ _ ((edge_sample config events o k).write ≡ true)
        (λ h. let parts = both_of two.t.lines.write (nat_eq k 3 || nat_eq k 4) h in early_high_at two k parts.0 parts.1)
        (λ h. let parts = both_of two.u.lines.write (nat_eq k 12 || nat_eq k 13) h in
        at_or (λ j. (edge_sample config events o j).write ≡ true) 12 k _ (two_high two 12 parts.0 (omega arith))
        (at_edge (λ j. (edge_sample config events o j).write ≡ true) 13 k (two_high two 13 parts.0 (omega arith))) parts.1) h

    module _ (w : Watch) (last_is : levels_of w.last ≡ rest_after events) (unread : w.handshake.lanes ≡ 0) (samples : List Sample)
        (rest : (w' : Watch) → levels_of w'.last ≡ rest_after (events ++ o ∷ []) → w'.handshake.lanes ≡ 0 → keeps_after rules.DataChange w' samples ≡ true) where
      -- the levels at the last edge of the event
      last_rests : levels_of (edge_sample config events o 19) ≡ rest_after (events ++ o ∷ [])
      last_rests =
          ends_resting config events o
          ∙ ap (λ (v : Value). resting (is_high v)) (sym (value_next address_strobe (length config.boards) events o High))

      -- the samples of the event, by its levels
      event_by : (known : Known) (levels : ℕ → Levels) → ((k : ℕ) → levels_of (edge_sample config events o k) ≡ levels k)
          → known.steady 0 ≡ false → known.still 0 ≡ false
          → ((k : ℕ) → known.steady (suc k) ≡ true → (edge_sample config events o (suc k)).write ≡ (edge_sample config events o k).write)
          → ((k : ℕ) → known.still (suc k) ≡ true → (edge_sample config events o (suc k)).lines ≡ (edge_sample config events o k).lines)
          → ((k : ℕ) → known.high k ≡ true → (edge_sample config events o k).write ≡ true)
          → stable known levels false true (rest_after events) 0 20 ≡ true
          → keeps_after rules.DataChange w (event_samples config events o ++ samples) ≡ true
      event_by known levels same start start' writes stands highs h =
          let next : (k : ℕ) → suc k ≡ k + 1 = λ k. omega arith in
          stable_keeps known (edge_sample config events o) levels same
          (λ k is. ap (λ (j : ℕ). (edge_sample config events o j).write) (sym (next k)) ∙ writes k (ap known.steady (next k) ∙ is))
          (λ k is. ap (λ (j : ℕ). (edge_sample config events o j).lines) (sym (next k)) ∙ stands k (ap known.still (next k) ∙ is))
          highs samples w false true (rest_after events) 0 20 last_is (λ is. absurd (cc is)) (λ is. unread)
          (λ is. absurd (false≢true (sym start ∙ is))) (λ is. absurd (false≢true (sym start' ∙ is))) h
          (λ w' last none. rest w' (last ∙ sym (same 19) ∙ last_rests) none)

      -- the samples of the event
      event_keeps : keeps_after rules.DataChange w (event_samples config events o ++ samples) ≡ true
      event_keeps =
          let strobe = before config events o in
          elim (shape o) [
            | inl none ↦
                event_by none_known (levels_at strobe false false 7 nothing nothing) (none_levels config events o none) refl refl
                (λ k is. absurd (cc is)) (λ k is. absurd (cc is)) (λ k is. absurd (cc is)) (none_stable strobe)
            | inr (inl one) ↦
                let t = one.t in
                let early : t.late ≡ false
                = one_early (first_handshake o.activity o.reply) (second_handshake o.activity o.reply) t (event_paired o.activity o.reply) one.first one.second in
                let ds1 = not t.lines.strobes.ds1 in
                let ds0 = not t.lines.strobes.ds0 in
                event_by (one_known t.lines.write) (levels_at strobe t.opens (has_ended o) 7 (falls_in ds1 ds0 t.berr) nothing)
                (one_levels config events o one) refl (one_start t.lines.write)
                (λ k is. one_write config events o one k (one_levels_at t early (suc k) is))
                (λ k is. one_lines config events o one k (one_lines_at t early (suc k) is)) (one_highs one early)
                (chosen (ds1 || ds0) _ (has_low t.lines.strobes.ds1 t.lines.strobes.ds0 (run_strobed config slots events later o whole t (inl one.first)))
                (one_is strobe t.opens (has_ended o) t.lines.write ds1 ds0 t.berr))
            | inr (inr two) ↦
                let t = two.t in
                let u = two.u in
                let ds1 = not t.lines.strobes.ds1 in
                let ds0 = not t.lines.strobes.ds0 in
                let ds1' = not u.lines.strobes.ds1 in
                let ds0' = not u.lines.strobes.ds0 in
                event_by (two_known t.lines.write u.lines.write)
                (levels_at strobe t.opens (has_ended o) 16 (falls_in ds1 ds0 t.berr) (falls_in ds1' ds0' u.berr))
                (two_levels config events o two) refl (two_start t.lines.write u.lines.write)
                (λ k is. let both = two_levels_at t u two.early two.late (suc k) is in two_write config events o two k both.0 both.1)
                (λ k is. let both = two_lines_at t u two.early two.late (suc k) is in two_lines config events o two k both.0 both.1) (two_highs two)
                (chosen ((ds1 || ds0) && (ds1' || ds0')) _
                (all_true _ _ (has_low t.lines.strobes.ds1 t.lines.strobes.ds0 (run_strobed config slots events later o whole t (inl two.first)))
                (has_low u.lines.strobes.ds1 u.lines.strobes.ds0 (run_strobed config slots events later o whole u (inr two.second))))
                (two_is strobe t.opens (has_ended o) t.lines.write u.lines.write ds1 ds0 t.berr ds1' ds0' u.berr))
          ]

  -- the samples of later events
  later_unchanged : (events later : List Observation) (w : Watch) → observations config slots ≡ events ++ later → levels_of w.last ≡ rest_after events
      → w.handshake.lanes ≡ 0 → keeps_after rules.DataChange w (run_samples config events later) ≡ true
  later_unchanged events [] w whole last_is none = refl
  later_unchanged events (o ∷ later) w whole last_is none =
      event_keeps events later o whole w last_is none (run_samples config (events ++ o ∷ []) later)
      (λ w' last none'. later_unchanged (events ++ o ∷ []) later w' (whole ∙ sym (regroup events later o)) last none')

  -- the samples of a trace
  pub trace_unchanged : (timeout : ℕ) → keeps rules.DataChange (strict_scope timeout) (trace_samples config slots) ≡ true
  unfolding trace_samples sample_of
  trace_unchanged timeout = later_unchanged [] (observations config slots) (started (strict_scope timeout) (sample_of config 0 start_of)) refl refl refl
