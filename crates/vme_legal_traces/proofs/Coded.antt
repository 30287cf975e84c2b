-- In our own traces an answer ends only cycles whose code has a row in the table of address modifiers.
use Rattle.std.proofs.Common.{◌≡◌, ℕ, zero, suc, ◌+◌, ◌<◌, Bool, true, false, nat_eq, not, ◌&&◌, ◌||◌, if◌then◌else◌, List, [], ◌∷◌, ◌++◌, length, map, Option, Some, None, refl, ap, sym, subst, ◌∙◌, arith, inl, inr}
use Rattle.std.specs.List.{range_with_len}
use Rattle.std.proofs.lemmas.Bool.{false≢true, lt-leb}
use Rattle.std.proofs.lemmas.Bool.Decides.{eqb_tells}
use Rattle.vme_script.specs.Configurations.{Configuration}
use Rattle.vme_script.specs.Lawful.{IsLawful}
use Rattle.vme_protocol.specs.declared.sample.Sample.{Sample}
use Rattle.vme_protocol.specs.declared.rule.Rule.TheVariants as rules
use Rattle.vme_protocol.specs.declared.place.Place.{Place}
use Rattle.vme_protocol.specs.declared.transfer.Transfer.{Transfer}
use Rattle.vme_protocol.specs.declared.watch.Watch.{Watch}
use Rattle.vme_protocol.specs.Samples.{address_strobe_falls, answer_falls}
use Rattle.vme_protocol.specs.Transfers.{has_row, opened, is_address_phase, passed, took, after_answer}
use Rattle.vme_protocol.specs.Places.{place_of}
use Rattle.vme_protocol.specs.Exchange.{has_no_row}
use Rattle.vme_protocol.specs.Watching.{started, current, watched}
use Rattle.vme_trace.specs.declared.observation.Observation.{Observation}
use Rattle.vme_trace.specs.declared.dump.change.Value.{Value}
use Rattle.vme_trace.specs.declared.dump.change.Value.TheVariants.{Low, High, Released, Number}
use Rattle.vme_trace.specs.declared.dump.handshake.Handshake.{Handshake}
use Rattle.vme_trace.specs.Observations.{observations}
use Rattle.vme_trace.specs.Variables.{bus_code}
use Rattle.vme_trace.specs.Handshakes.{edge_of, first_handshake}
use Rattle.vme_trace.specs.Bus.{handshake_changes}
use Rattle.vme_trace.specs.Slots.{has_ended}
use Rattle.vme_trace.specs.Events.{event_changes}
use Rattle.vme_trace.specs.Shown.{value_after, value_at, value_after_run}
use Rattle.vme_trace_laws.specs.Shown.{address_strobe}
use Rattle.vme_trace_laws.proofs.lemmas.Waves.{pulse, pulse_at, at_pulse, pulse_early, HasOne, HasTwo, shape, modifier_after, IsCycleLine, one_parts, two_parts}
use Rattle.vme_trace_laws.proofs.lemmas.Turns.{strobe_before_event}
use Rattle.vme_legal_traces.specs.Samples.{is_high, number_of, edge_sample, start_of, sample_of, event_samples, run_samples, trace_samples}
use Rattle.vme_legal_traces.specs.Kept.{breaks, keeps_after, keeps, strict_scope}
use Rattle.vme_legal_traces.proofs.Each.{kept_parts, kept_both}
use Rattle.vme_legal_traces.proofs.Order.{Levels, answer_down, levels_at, falls_in, nothing, resting, both, each}
use Rattle.vme_legal_traces.proofs.Levels.{levels_of, before, ends_resting, none_levels, one_levels, two_levels}
use Rattle.vme_legal_traces.proofs.Simulated.{last_level}
use Rattle.vme_legal_traces.proofs.Rows.{run_rowed}
use Rattle.vme_legal_traces.proofs.Steps.{value_next, regroup}

-- whether the code of the transfer is known to have a row: as AS* falls, if it does at edge 1 of an event with which a transfer begins
abbrev known : Bool → Bool → Levels → Levels → ℕ → Bool
known opens row a b k = if a.strobe && not b.strobe then opens && nat_eq k 1 else row

-- whether so many levels have no answer before the code is known to have a row, and after them AS* is high or the code is known
abbrev coded : Bool → (ℕ → Levels) → Bool → Levels → ℕ → ℕ → Bool
coded opens levels row last k zero = last.strobe || row
coded opens levels row last k (suc count) =
    not (answer_down last (levels k) && not (known opens row last (levels k) k))
    && coded opens levels (known opens row last (levels k) k) (levels k) (k + 1) count

-- an event without a handshake
abbrev none_coded : Bool → Bool → Bool
none_coded strobe row = if strobe || row then coded false (levels_at strobe false false 7 nothing nothing) row (resting strobe) 0 20 else true

-- an event with one handshake
abbrev one_coded : Bool → Bool → Bool → Bool → Bool → Bool → Bool
one_coded ds1 ds0 row opens ends berr =
    if opens || row then coded opens (levels_at opens opens ends 7 (falls_in ds1 ds0 berr) nothing) row (resting opens) 0 20 else true

-- an event with two
abbrev two_coded : Bool → Bool → Bool → Bool → Bool → Bool → Bool → Bool → Bool → Bool
two_coded ds1 ds0 ds1' ds0' row opens ends berr berr' =
    if opens || row
    then coded opens (levels_at opens opens ends 16 (falls_in ds1 ds0 berr) (falls_in ds1' ds0' berr')) row (resting opens) 0 20
    else true

-- decided by computing
each_none : both (λ strobe. both λ row. none_coded strobe row) ≡ true
each_none = refl

-- decided by computing
each_one : (ds1 ds0 : Bool) → both (λ row. both λ opens. both λ ends. both λ berr. one_coded ds1 ds0 row opens ends berr) ≡ true
each_one ds1 ds0 = refl

-- decided by computing
each_two : (ds1 ds0 ds1' ds0' : Bool)
    → both (λ row. both λ opens. both λ ends. both λ berr. both λ berr'. two_coded ds1 ds0 ds1' ds0' row opens ends berr berr') ≡ true
each_two ds1 ds0 ds1' ds0' = refl

-- each event without a handshake
none_is : (strobe row : Bool) → none_coded strobe row ≡ true
none_is strobe row = each (λ row. none_coded strobe row) (each (λ strobe. both λ row. none_coded strobe row) each_none strobe) row

-- each event with one
one_is : (ds1 ds0 row opens ends berr : Bool) → one_coded ds1 ds0 row opens ends berr ≡ true
one_is ds1 ds0 row opens ends berr =
    each (λ berr. one_coded ds1 ds0 row opens ends berr)
    (each (λ ends. both λ berr. one_coded ds1 ds0 row opens ends berr)
    (each (λ opens. both λ ends. both λ berr. one_coded ds1 ds0 row opens ends berr)
    (each (λ row. both λ opens. both λ ends. both λ berr. one_coded ds1 ds0 row opens ends berr)
    (each_one ds1 ds0) row) opens) ends) berr

-- each event with two
two_is : (ds1 ds0 ds1' ds0' row opens ends berr berr' : Bool) → two_coded ds1 ds0 ds1' ds0' row opens ends berr berr' ≡ true
two_is ds1 ds0 ds1' ds0' row opens ends berr berr' =
    each (λ berr'. two_coded ds1 ds0 ds1' ds0' row opens ends berr berr')
    (each (λ berr. both λ berr'. two_coded ds1 ds0 ds1' ds0' row opens ends berr berr')
    (each (λ ends. both λ berr. both λ berr'. two_coded ds1 ds0 ds1' ds0' row opens ends berr berr')
    (each (λ opens. both λ ends. both λ berr. both λ berr'. two_coded ds1 ds0 ds1' ds0' row opens ends berr berr')
    (each (λ row. both λ opens. both λ ends. both λ berr. both λ berr'. two_coded ds1 ds0 ds1' ds0' row opens ends berr berr')
    (each_two ds1 ds0 ds1' ds0') row) opens) ends) berr) berr'

-- whether the code has a row, before an answer at a sample
current_row : (w : Watch) (s : Sample)
    → (current w s).has_row ≡ (if address_strobe_falls w.last s then has_row s.am else w.transfer.has_row)
unfolding opened
current_row w s = by_fall (address_strobe_falls w.last s)
  where
    by_fall : (falls : Bool) → (if falls then opened w.scope s else w.transfer).has_row ≡ (if falls then has_row s.am else w.transfer.has_row)
    by_fall true = refl
    by_fall false = refl

-- an answer leaves it
after_row : (t : Transfer) (place : Option Place) (s : Sample) → (after_answer t place s).has_row ≡ t.has_row
unfolding after_answer took
after_row t None s = refl
after_row t (Some place) s = by_phase (is_address_phase t s)
  where
    by_phase : (phase : Bool) → (if phase then passed t else took t place s).has_row ≡ t.has_row
    by_phase true = refl
    by_phase false = refl

-- whether it has one after a sample
next_row : (w : Watch) (s : Sample) → (watched w s).transfer.has_row ≡ (current w s).has_row
unfolding watched
next_row w s = by_answer (answer_falls w.last s)
  where
    by_answer : (falls : Bool) → (if falls then after_answer (current w s) (place_of (current w s) s) s else current w s).has_row ≡ (current w s).has_row
    by_answer true = after_row (current w s) (place_of (current w s) s) s
    by_answer false = refl

-- what is known of a choice is so
by_choice : (falls fits row fitting has : Bool) → (fits ≡ true → fitting ≡ true) → (row ≡ true → has ≡ true) → (if falls then fits else row) ≡ true
    → (if falls then fitting else has) ≡ true
by_choice true fits row fitting has one two h = one h
by_choice false fits row fitting has one two h = two h

-- an answer to a code that has a row
with_row : (falls judged row has : Bool) → (falls && not row) ≡ false → (row ≡ true → has ≡ true) → (falls && judged && not has) ≡ false
with_row false judged row has h is = refl
with_row true judged false has h is = absurd cc
with_row true true true has h is = rw (is refl) refl
with_row true false true has h is = refl

-- AS* is high, or the code has a row
high_or : (strobe row has : Bool) → (strobe || row) ≡ true → (row ≡ true → has ≡ true) → (strobe || has) ≡ true
high_or true row has h is = refl
high_or false row has h is = is h

module _ (sample : ℕ → Sample) (levels : ℕ → Levels) (same : (k : ℕ) → levels_of (sample k) ≡ levels k) (opens : Bool)
    (fits : (k : ℕ) → (opens && nat_eq k 1) ≡ true → has_row (sample k).am ≡ true) (later : List Sample) where
  -- samples whose levels are coded keep the rule
  coded_keeps : (w : Watch) (row : Bool) (last : Levels) (k count : ℕ) → levels_of w.last ≡ last → (row ≡ true → w.transfer.has_row ≡ true)
      → coded opens levels row last k count ≡ true
      → ((w' : Watch) → levels_of w'.last ≡ last_level levels last k count
      → ((last_level levels last k count).strobe || w'.transfer.has_row) ≡ true → keeps_after rules.CodeUnknown w' later ≡ true)
      → keeps_after rules.CodeUnknown w (map sample (range_with_len k count) ++ later) ≡ true
  unfolding watched has_no_row
  coded_keeps w row last k zero last_is is h rest = rest w last_is (high_or last.strobe row w.transfer.has_row h is)
  coded_keeps w row last k (suc count) last_is is h rest =
      let s = sample k in
      let row' = known opens row last (levels k) k in
      let parts = kept_parts (answer_down last (levels k) && not row') _ h in
      let as_known : known opens row (levels_of w.last) (levels_of s) k ≡ row'
      = ap (λ (l : Levels). known opens row l (levels_of s) k) last_is ∙ ap (λ (m : Levels). known opens row last m k) (same k) in
      let as_answered : answer_falls w.last s ≡ answer_down last (levels k)
      = ap (λ (l : Levels). answer_down l (levels_of s)) last_is ∙ ap (λ (m : Levels). answer_down last m) (same k) in
      let has : row' ≡ true → (current w s).has_row ≡ true
      = λ is_known. current_row w s
      ∙ by_choice (address_strobe_falls w.last s) (opens && nat_eq k 1) row (has_row s.am) w.transfer.has_row (fits k) is (as_known ∙ is_known) in
      let here : breaks rules.CodeUnknown w s ≡ false
      = with_row (answer_falls w.last s) (current w s).judged row' (current w s).has_row
      (ap (λ (falls : Bool). falls && not row') as_answered ∙ parts.0) has in
      kept_both (breaks rules.CodeUnknown w s) (keeps_after rules.CodeUnknown (watched w s) (map sample (range_with_len (k + 1) count) ++ later)) here
      (coded_keeps (watched w s) row' (levels k) (k + 1) count (same k) (λ is_known. next_row w s ∙ has is_known) parts.1 rest)

-- the address is released after AS* falls
release_order : (late : Bool) → 1 < (if late then 10 + 9 else 1 + 9)
release_order false = omega arith
release_order true = omega arith

-- AM5 to AM0 at edge 1, if a transfer begins
code_begins : (opens ends : Bool) (up : ℕ) (value v : Value) → opens ≡ true → 1 < up → pulse_at value Released opens ends 0 up 1 v ≡ value
code_begins opens ends up value v is order = pulse_early value Released v opens ends 0 up 1 (lt-leb up 1 order) ∙ rw is refl

-- the changes of a handshake that does not end, and of one that begins none
joined : (first second v : Value) (opens ends opens_later ends_later : Bool) (up up_later k : ℕ) → ends ≡ false → opens_later ≡ false
    → pulse second Released opens_later ends_later 0 up_later k (pulse first Released opens ends 0 up k v) ≡ pulse first Released opens ends_later 0 up_later k v
joined first second v opens ends opens_later ends_later up up_later k goes_on none = rw (goes_on, none) refl

-- AM5 to AM0 are a line of a cycle
code_line : IsCycleLine (bus_code 74)
code_line = record { number = 74; is = refl; past = omega arith }

-- a property of edge 1 alone
at_one : (opens : Bool) (P : ℕ → Type 0) → (opens ≡ true → P 1) → (k : ℕ) → (opens && nat_eq k 1) ≡ true → P k
at_one false P one k h = absurd cc
at_one true P one k h =
    elim (eqb_tells k 1) [
      | inl same ↦ subst P (sym same.1) (one refl)
      | inr other ↦ absurd (false≢true (sym other.0 ∙ h))
    ]

-- a choice whose condition holds
chosen : (condition kept : Bool) → condition ≡ true → (if condition then kept else true) ≡ true → kept ≡ true
chosen true kept is h = h
chosen false kept is h = absurd cc

-- AS* before a handshake
level_opens : (opens : Bool) → is_high (if opens then High else Low) ≡ opens
level_opens true = refl
level_opens false = refl

module _ (config : Configuration) (lawful : IsLawful config) (slots : List ℕ) where
  -- the levels after some events
  abbrev rest_after : List Observation → Levels
  rest_after events = resting (is_high (value_after_run address_strobe (length config.boards) events High))

  module _ (events later : List Observation) (o : Observation) (whole : observations config slots ≡ events ++ o ∷ later) where
    -- the code that a sample shows
    code_shown : (code : ℕ) → ((v : Value) → value_at (bus_code 74) (event_changes (length config.boards) (length events + 1) o) v 1 ≡ Number 6 code)
        → (edge_sample config events o 1).am ≡ code
    unfolding sample_of
    code_shown code is = ap number_of (is (value_after_run (bus_code 74) (length config.boards) events Released))

    -- the code at edge 1 of an event with one handshake has a row
    one_fits : (one : HasOne o) → one.t.opens ≡ true → has_row (edge_sample config events o 1).am ≡ true
    one_fits one opens =
        let t = one.t in
        let changes = event_changes (length config.boards) (length events + 1) o in
        let order : 1 < edge_of t 9 = release_order t.late in
        ap has_row (code_shown t.lines.am.code (λ v.
        at_pulse (bus_code 74) changes (Number 6 t.lines.am.code) Released v t.opens t.ends 0 (edge_of t 9) (omega (arith, order))
        (λ k w. one_parts (bus_code 74) (length config.boards) (length events + 1) o one code_line k w ∙ modifier_after k t w) 1
        ∙ code_begins t.opens t.ends (edge_of t 9) (Number 6 t.lines.am.code) v opens order))
        ∙ run_rowed config slots events later o whole t one.first

    -- and so has that of an event with two
    two_fits : (two : HasTwo o) → two.t.opens ≡ true → has_row (edge_sample config events o 1).am ≡ true
    two_fits two opens =
        let t = two.t in
        let u = two.u in
        let changes = event_changes (length config.boards) (length events + 1) o in
        let order : 1 < edge_of u 9 = release_order u.late in
        ap has_row (code_shown t.lines.am.code (λ v.
        at_pulse (bus_code 74) changes (Number 6 t.lines.am.code) Released v t.opens u.ends 0 (edge_of u 9) (omega (arith, order))
        (λ k w. two_parts (bus_code 74) (length config.boards) (length events + 1) o two code_line k w
        ∙ ap (value_after (bus_code 74) k (handshake_changes u)) (modifier_after k t w)
        ∙ modifier_after k u (pulse (Number 6 t.lines.am.code) Released t.opens t.ends 0 (edge_of t 9) k w)
        ∙ joined (Number 6 t.lines.am.code) (Number 6 u.lines.am.code) w t.opens t.ends u.opens u.ends (edge_of t 9) (edge_of u 9) k two.goes_on two.opened) 1
        ∙ code_begins t.opens u.ends (edge_of u 9) (Number 6 t.lines.am.code) v opens order))
        ∙ run_rowed config slots events later o whole t two.first

    module _ (w : Watch) (last_is : levels_of w.last ≡ rest_after events) (named : ((rest_after events).strobe || w.transfer.has_row) ≡ true)
        (samples : List Sample)
        (rest : (w' : Watch) → levels_of w'.last ≡ rest_after (events ++ o ∷ []) → ((rest_after (events ++ o ∷ [])).strobe || w'.transfer.has_row) ≡ true
        → keeps_after rules.CodeUnknown w' samples ≡ true) where
      -- AS* before a handshake of the event is high if it opens a transfer
      opens_before : (t : Handshake) → first_handshake o.activity o.reply ≡ Some t → before config events o ≡ t.opens
      opens_before t first = ap is_high (strobe_before_event config lawful slots events later o whole t first) ∙ level_opens t.opens

      -- the levels at the last edge of the event
      last_rests : levels_of (edge_sample config events o 19) ≡ rest_after (events ++ o ∷ [])
      last_rests =
          ends_resting config events o
          ∙ ap (λ (v : Value). resting (is_high v)) (sym (value_next address_strobe (length config.boards) events o High))

      -- the samples of the event, by its levels
      event_by : (levels : ℕ → Levels) (opens : Bool) → ((k : ℕ) → levels_of (edge_sample config events o k) ≡ levels k)
          → (opens ≡ true → has_row (edge_sample config events o 1).am ≡ true)
          → coded opens levels w.transfer.has_row (rest_after events) 0 20 ≡ true
          → keeps_after rules.CodeUnknown w (event_samples config events o ++ samples) ≡ true
      event_by levels opens same fits h =
          let ends : levels 19 ≡ rest_after (events ++ o ∷ []) = sym (same 19) ∙ last_rests in
          coded_keeps (edge_sample config events o) levels same opens
          (at_one opens (λ k. has_row (edge_sample config events o k).am ≡ true) fits) samples w w.transfer.has_row (rest_after events) 0 20 last_is
          (λ is. is) h
          (λ w' last has. rest w' (last ∙ ends) (ap (λ (l : Levels). l.strobe || w'.transfer.has_row) (sym ends) ∙ has))

      -- the samples of the event
      event_keeps : keeps_after rules.CodeUnknown w (event_samples config events o ++ samples) ≡ true
      event_keeps =
          let strobe = before config events o in
          let row = w.transfer.has_row in
          elim (shape o) [
            | inl none ↦
                event_by (levels_at strobe false false 7 nothing nothing) false (none_levels config events o none) (λ is. absurd (cc is))
                (chosen (strobe || row) _ named (none_is strobe row))
            | inr (inl one) ↦
                let t = one.t in
                let opens = opens_before t one.first in
                let ds1 = not t.lines.strobes.ds1 in
                let ds0 = not t.lines.strobes.ds0 in
                event_by (levels_at strobe t.opens (has_ended o) 7 (falls_in ds1 ds0 t.berr) nothing) t.opens (one_levels config events o one)
                (one_fits one)
                (ap (λ (b : Bool). coded t.opens (levels_at b t.opens (has_ended o) 7 (falls_in ds1 ds0 t.berr) nothing) row (resting b) 0 20) opens
                ∙ chosen (t.opens || row) _ (ap (λ (b : Bool). b || row) (sym opens) ∙ named) (one_is ds1 ds0 row t.opens (has_ended o) t.berr))
            | inr (inr two) ↦
                let t = two.t in
                let u = two.u in
                let opens = opens_before t two.first in
                let ds1 = not t.lines.strobes.ds1 in
                let ds0 = not t.lines.strobes.ds0 in
                let ds1' = not u.lines.strobes.ds1 in
                let ds0' = not u.lines.strobes.ds0 in
                let p = falls_in ds1 ds0 t.berr in
                let q = falls_in ds1' ds0' u.berr in
                event_by (levels_at strobe t.opens (has_ended o) 16 p q) t.opens (two_levels config events o two)
                (two_fits two)
                (ap (λ (b : Bool). coded t.opens (levels_at b t.opens (has_ended o) 16 p q) row (resting b) 0 20) opens
                ∙ chosen (t.opens || row) _ (ap (λ (b : Bool). b || row) (sym opens) ∙ named)
                (two_is ds1 ds0 ds1' ds0' row t.opens (has_ended o) t.berr u.berr))
          ]

  -- the samples of later events
  later_coded : (events later : List Observation) (w : Watch) → observations config slots ≡ events ++ later → levels_of w.last ≡ rest_after events
      → ((rest_after events).strobe || w.transfer.has_row) ≡ true → keeps_after rules.CodeUnknown w (run_samples config events later) ≡ true
  later_coded events [] w whole last_is named = refl
  later_coded events (o ∷ later) w whole last_is named =
      event_keeps events later o whole w last_is named (run_samples config (events ++ o ∷ []) later)
      (λ w' last has. later_coded (events ++ o ∷ []) later w' (whole ∙ sym (regroup events later o)) last has)

  -- the samples of a trace
  pub trace_coded : (timeout : ℕ) → keeps rules.CodeUnknown (strict_scope timeout) (trace_samples config slots) ≡ true
  unfolding trace_samples sample_of
  trace_coded timeout = later_coded [] (observations config slots) (started (strict_scope timeout) (sample_of config 0 start_of)) refl refl refl
