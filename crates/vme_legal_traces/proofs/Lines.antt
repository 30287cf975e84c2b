-- The lines of the address at the edges of an event at which they carry no data.
use Rattle.std.proofs.Common.{◌≡◌, ℕ, zero, suc, ◌+◌, ◌-◌, ◌*◌, ◌%◌, ◌^◌, ◌==◌, ◌<◌, ◌≤◌, Bool, true, false, nat_eq, not, ◌&&◌, ◌||◌, if◌then◌else◌, List, Option, Some, None, refl, ap, sym, ◌∙◌, arith, inl, inr}
use Rattle.std.specs.Prelude.{nat_le}
use Rattle.std.proofs.lemmas.Bool.{ne_eqb, le-leb}
use Rattle.std.proofs.lemmas.Bool.Decides.{leb_tells}
use Rattle.vme_script.specs.Configurations.{Configuration}
use Rattle.vme_trace.specs.declared.observation.Observation.{Observation}
use Rattle.vme_trace.specs.declared.dump.change.Value.{Value}
use Rattle.vme_trace.specs.declared.dump.change.Value.TheVariants.{Low, Free, Released, Number}
use Rattle.vme_trace.specs.declared.dump.variable.Variable.TheVariants.{AddressModifier, AddressLines, LongWord, DataLines}
use Rattle.vme_trace.specs.declared.dump.handshake.Handshake.{Handshake}
use Rattle.vme_trace.specs.Changes.{level_of}
use Rattle.vme_trace.specs.Variables.{bus_code}
use Rattle.vme_trace.specs.Handshakes.{edge_of, second_handshake}
use Rattle.vme_trace.specs.Bus.{is_wide, address_number, drive_edge, upper_number, byte_on, lane_at, address_strobe_changes, address_changes, level_changes, data_strobe_changes, data_changes, handshake_changes}
use Rattle.vme_trace.specs.Slots.{ends_with, has_ended}
use Rattle.vme_trace.specs.Events.{event_changes}
use Rattle.vme_trace.specs.Shown.{value_after, value_at}
use Rattle.vme_trace_laws.specs.Addresses.{CarriesNoData}
use Rattle.vme_trace_laws.proofs.lemmas.Waves.{pulse, pulse_at, at_pulse, HasOne, HasTwo, IsCycleLine, one_parts, two_parts, modifier_after, address_after, long_word_after, write_after, other, last_other, own, last_own, silent, after_append, level_line, address_strobe_quiet, address_quiet, address_level_quiet, level_quiet, data_strobe_quiet, data_quiet, answer_quiet}
use Rattle.vme_legal_traces.specs.Samples.{is_free, number_of, bit_of, lanes_of, data_number, free_lane, free_lanes, edge_sample, sample_of, value_shown}
use Rattle.vme_legal_traces.proofs.Named.{Names}

-- an edge of a late handshake
late_edge : (late : Bool) (a k : ℕ) → late ≡ true → k < 10 → nat_eq (if late then 10 + a else 1 + a) k ≡ false
late_edge true a k is soon = ne_eqb (10 + a) k (λ same. absurd (omega (arith, same, soon)))
late_edge false a k is soon = absurd cc

-- a change at another edge
skip : (x k : ℕ) (b : Bool) (e : ℕ) (v before : Value) → nat_eq e k ≡ false → (if b && nat_eq e k then v else before) ≡ before
skip x k false e v before off = refl
skip x k true e v before off = rw off refl

-- the edge at which data are driven
late_driven : (write late : Bool) (k : ℕ) → late ≡ true → k < 10
    → nat_eq (if write then (if late then 10 + 2 else 1 + 2) else (if late then 10 + 0 else 1 + 0)) k ≡ false
late_driven true late k is soon = late_edge late 2 k is soon
late_driven false late k is soon = late_edge late 0 k is soon

-- a line has a value from the begin of a handshake that begins a transfer until the address is released, and a late handshake does
-- not move it before the second half of an event
pub record IsAddressed (P : Handshake → Type 0) (x : ℕ) (value : Handshake → Value) (rest : Value) : Type 0 where
  pub line : IsCycleLine (bus_code x)
  pub each : (k : ℕ) (t : Handshake) (v : Value) → P t
      → value_after (bus_code x) k (handshake_changes t) v ≡ pulse (value t) rest t.opens t.ends 0 (edge_of t 9) k v
  pub late : (k : ℕ) (u : Handshake) (v : Value) → u.opens ≡ false → u.late ≡ true → k < 10
      → value_after (bus_code x) k (handshake_changes u) v ≡ v

-- a pulse of a late handshake, before it
pulse_late : (opens ends : Bool) (up k : ℕ) (first later v : Value) → opens ≡ false → nat_eq up k ≡ false → pulse first later opens ends 0 up k v ≡ v
pulse_late false ends up k first later v none off = skip 0 k ends up later v off
pulse_late true ends up k first later v none off = absurd cc

-- AM5 to AM0
pub modifier_line : IsAddressed CarriesNoData 74 (λ t. Number 6 t.lines.am.code) Released
modifier_line = record {
  line = record { number = 74; is = refl; past = omega arith };
  each = λ k t v plain. modifier_after k t v;
  late = λ k u v none late soon. modifier_after k u v
      ∙ pulse_late u.opens u.ends (edge_of u 9) k (Number 6 u.lines.am.code) Released v none (late_edge u.late 9 k late soon);
}

-- A31 to A01 in a late handshake, by their own changes
address_late_own : (k : ℕ) (u : Handshake) (v : Value) → u.opens ≡ false → u.late ≡ true → k < 10 → value_after (bus_code 75) k (address_changes u) v ≡ v
unfolding address_changes
address_late_own k u v none late soon =
    own (bus_code 75) k u.opens 0 (Number 32 (address_number u.lines)) _ v refl
    ∙ (own (bus_code 75) k u.clears 10 Released _ _ refl
    ∙ (own (bus_code 75) k (is_wide u) (drive_edge u) (Number 32 (upper_number u.lines.lanes - upper_number u.lines.lanes % 2)) _ _ refl
    ∙ (own (bus_code 75) k (is_wide u) (edge_of u 7) Released _ _ refl
    ∙ (last_own (bus_code 75) k u.ends (edge_of u 9) Released _ refl
    ∙ (skip 75 k u.ends (edge_of u 9) Released _ (late_edge u.late 9 k late soon)
    ∙ (skip 75 k (is_wide u) (edge_of u 7) Released _ (late_edge u.late 7 k late soon)
    ∙ (skip 75 k (is_wide u) (drive_edge u) _ _ (late_driven u.lines.write u.late k late soon)
    ∙ (skip 75 k u.clears 10 Released _ (ne_eqb 10 k (λ same. absurd (omega (arith, same, soon))))
    ∙ ap (λ (b : Bool). if b && nat_eq 0 k then Number 32 (address_number u.lines) else v) none))))))))

-- A31 to A01
pub address_line : IsAddressed CarriesNoData 75 (λ t. Number 32 (address_number t.lines)) Released
unfolding handshake_changes
address_line = record {
  line = record { number = 75; is = refl; past = omega arith };
  each = λ k t v plain. address_after k t v plain.0 plain.1;
  late = λ k u v none late soon.
      silent (bus_code 75) k (address_strobe_changes u) _ v (address_strobe_quiet (bus_code 75) k u v refl refl)
      ∙ (after_append (bus_code 75) k (address_changes u) _ v
      ∙ (silent (bus_code 75) k (level_changes u) _ _ (level_quiet (bus_code 75) k u _ refl refl)
      ∙ (silent (bus_code 75) k (data_strobe_changes u) _ _ (data_strobe_quiet (bus_code 75) k u _ refl refl)
      ∙ (silent (bus_code 75) k (data_changes u) _ _ (data_quiet (bus_code 75) k u _ refl refl)
      ∙ (answer_quiet (bus_code 75) k u _ refl refl)))))
      ∙ address_late_own k u v none late soon;
}

-- LWORD* in a late handshake, by its own changes
long_word_late_own : (k : ℕ) (u : Handshake) (v : Value) → u.opens ≡ false → u.late ≡ true → k < 10 → value_after (bus_code 76) k (level_changes u) v ≡ v
unfolding level_changes
long_word_late_own k u v none late soon =
    let bit = upper_number u.lines.lanes % 2 == 1 in
    after_append (bus_code 76) k (level_line u 76 u.lines.strobes.lword bit) _ v
    ∙ (other (bus_code 76) 77 k u.opens 0 (level_of u.lines.write) _ _ refl
    ∙ (other (bus_code 76) 77 k u.falls 10 Low _ _ refl
    ∙ (last_other (bus_code 76) 77 k u.ends (edge_of u 9) Free _ refl)))
    ∙ (own (bus_code 76) k u.opens 0 (level_of u.lines.strobes.lword) _ v refl
    ∙ (own (bus_code 76) k u.clears 10 Free _ _ refl
    ∙ (own (bus_code 76) k (is_wide u) (drive_edge u) (level_of bit) _ _ refl
    ∙ (own (bus_code 76) k (is_wide u) (edge_of u 7) Free _ _ refl
    ∙ (last_own (bus_code 76) k u.ends (edge_of u 9) Free _ refl
    ∙ (skip 76 k u.ends (edge_of u 9) Free _ (late_edge u.late 9 k late soon)
    ∙ (skip 76 k (is_wide u) (edge_of u 7) Free _ (late_edge u.late 7 k late soon)
    ∙ (skip 76 k (is_wide u) (drive_edge u) _ _ (late_driven u.lines.write u.late k late soon)
    ∙ (skip 76 k u.clears 10 Free _ (ne_eqb 10 k (λ same. absurd (omega (arith, same, soon))))
    ∙ ap (λ (b : Bool). if b && nat_eq 0 k then level_of u.lines.strobes.lword else v) none)))))))))

-- LWORD*
pub long_word_line : IsAddressed CarriesNoData 76 (λ t. level_of t.lines.strobes.lword) Free
unfolding handshake_changes
long_word_line = record {
  line = record { number = 76; is = refl; past = omega arith };
  each = λ k t v plain. long_word_after k t v plain.0 plain.1;
  late = λ k u v none late soon.
      silent (bus_code 76) k (address_strobe_changes u) _ v (address_strobe_quiet (bus_code 76) k u v refl refl)
      ∙ (silent (bus_code 76) k (address_changes u) _ v (address_quiet (bus_code 76) k u v refl)
      ∙ (after_append (bus_code 76) k (level_changes u) _ v
      ∙ (silent (bus_code 76) k (data_strobe_changes u) _ _ (data_strobe_quiet (bus_code 76) k u _ refl refl)
      ∙ (silent (bus_code 76) k (data_changes u) _ _ (data_quiet (bus_code 76) k u _ refl refl)
      ∙ (answer_quiet (bus_code 76) k u _ refl refl)))))
      ∙ long_word_late_own k u v none late soon;
}

-- WRITE* in a late handshake, by its own changes
write_late_own : (k : ℕ) (u : Handshake) (v : Value) → u.opens ≡ false → u.late ≡ true → k < 10 → value_after (bus_code 77) k (level_changes u) v ≡ v
unfolding level_changes
write_late_own k u v none late soon =
    silent (bus_code 77) k (level_line u 76 u.lines.strobes.lword (upper_number u.lines.lanes % 2 == 1)) _ v (address_level_quiet (bus_code 77) 76 k u _ _ v refl)
    ∙ (own (bus_code 77) k u.opens 0 (level_of u.lines.write) _ v refl
    ∙ (own (bus_code 77) k u.falls 10 Low _ _ refl
    ∙ (last_own (bus_code 77) k u.ends (edge_of u 9) Free _ refl
    ∙ (skip 77 k u.ends (edge_of u 9) Free _ (late_edge u.late 9 k late soon)
    ∙ (skip 77 k u.falls 10 Low _ (ne_eqb 10 k (λ same. absurd (omega (arith, same, soon))))
    ∙ ap (λ (b : Bool). if b && nat_eq 0 k then level_of u.lines.write else v) none)))))

-- WRITE* does not fall in a handshake
abbrev pub KeepsWrite : Handshake → Type 0
KeepsWrite t = t.falls ≡ false

-- WRITE*
pub write_line : IsAddressed KeepsWrite 77 (λ t. level_of t.lines.write) Free
unfolding handshake_changes
write_line = record {
  line = record { number = 77; is = refl; past = omega arith };
  each = λ k t v still. write_after k t v still;
  late = λ k u v none late soon.
      silent (bus_code 77) k (address_strobe_changes u) _ v (address_strobe_quiet (bus_code 77) k u v refl refl)
      ∙ (silent (bus_code 77) k (address_changes u) _ v (address_quiet (bus_code 77) k u v refl)
      ∙ (after_append (bus_code 77) k (level_changes u) _ v
      ∙ (silent (bus_code 77) k (data_strobe_changes u) _ _ (data_strobe_quiet (bus_code 77) k u _ refl refl)
      ∙ (silent (bus_code 77) k (data_changes u) _ _ (data_quiet (bus_code 77) k u _ refl refl)
      ∙ (answer_quiet (bus_code 77) k u _ refl refl)))))
      ∙ write_late_own k u v none late soon;
}

-- WRITE* falls before the write half of a read-modify-write, by its own changes
half_falls_own : (u : Handshake) (v : Value) → u.late ≡ true → u.falls ≡ true → value_after (bus_code 77) 10 (level_changes u) v ≡ Low
unfolding level_changes
half_falls_own u v late falls =
    silent (bus_code 77) 10 (level_line u 76 u.lines.strobes.lword (upper_number u.lines.lanes % 2 == 1)) _ v (address_level_quiet (bus_code 77) 76 10 u _ _ v refl)
    ∙ (own (bus_code 77) 10 u.opens 0 (level_of u.lines.write) _ v refl
    ∙ (own (bus_code 77) 10 u.falls 10 Low _ _ refl
    ∙ (last_own (bus_code 77) 10 u.ends (edge_of u 9) Free _ refl
    ∙ (skip 77 10 u.ends (edge_of u 9) Free _ (ap (λ (b : Bool). nat_eq (if b then 10 + 9 else 1 + 9) 10) late)
    ∙ ap (λ (b : Bool). if b && nat_eq 10 10 then Low else (if u.opens && nat_eq 0 10 then level_of u.lines.write else v)) falls))))

-- WRITE* falls before the write half of a read-modify-write
pub half_falls : (u : Handshake) (v : Value) → u.late ≡ true → u.falls ≡ true → value_after (bus_code 77) 10 (handshake_changes u) v ≡ Low
unfolding handshake_changes
half_falls u v late falls =
    silent (bus_code 77) 10 (address_strobe_changes u) _ v (address_strobe_quiet (bus_code 77) 10 u v refl refl)
    ∙ (silent (bus_code 77) 10 (address_changes u) _ v (address_quiet (bus_code 77) 10 u v refl)
    ∙ (after_append (bus_code 77) 10 (level_changes u) _ v
    ∙ (silent (bus_code 77) 10 (data_strobe_changes u) _ _ (data_strobe_quiet (bus_code 77) 10 u _ refl refl)
    ∙ (silent (bus_code 77) 10 (data_changes u) _ _ (data_quiet (bus_code 77) 10 u _ refl refl)
    ∙ (answer_quiet (bus_code 77) 10 u _ refl refl)))))
    ∙ half_falls_own u v late falls

-- a value that is not released
early_value : (opens ends : Bool) (up k : ℕ) (first later v : Value) → not (ends && nat_le up k) ≡ true
    → pulse_at first later opens ends 0 up k v ≡ (if opens then first else v)
early_value true false up k first later v soon = rw (le-leb 0 k (omega arith)) refl
early_value false false up k first later v soon = refl
early_value true true up k first later v soon = rw (not_true (nat_le up k) soon, le-leb 0 k (omega arith)) refl
  where
    not_true : (b : Bool) → not b ≡ true → b ≡ false
    not_true false h = refl
    not_true true h = absurd cc
early_value false true up k first later v soon = rw (not_true (nat_le up k) soon) refl
  where
    not_true : (b : Bool) → not b ≡ true → b ≡ false
    not_true false h = refl
    not_true true h = absurd cc

-- a number that another one does not reach
pub below_of : (n k : ℕ) → not (nat_le n k) ≡ true → k < n
below_of n k h =
    elim (leb_tells n k) [
      | inl past ↦ absurd (false_not (nat_le n k) past.0 h)
      | inr soon ↦ omega (arith, soon.1)
    ]
  where
    false_not : (b : Bool) → b ≡ true → not b ≡ true → ⊥
    false_not true is h = absurd cc
    false_not false is h = absurd cc

-- a value that is driven at the first edge
first_edge : (opens : Bool) (first later v : Value) (up k : ℕ) → pulse first later opens false 0 up k v ≡ (if opens && nat_eq 0 k then first else v)
first_edge opens first later v up k = refl

-- a value that is not driven again
later_edge : (opens : Bool) (first v : Value) (k : ℕ) → (if opens && nat_eq 0 (suc k) then first else (if opens then first else v)) ≡ (if opens then first else v)
later_edge false first v k = refl
later_edge true first v k = rw (ne_eqb 0 (suc k) (λ same. absurd (omega (arith, same)))) refl

-- the value at the first edge
zero_edge : (opens : Bool) (first v : Value) → (if opens && nat_eq 0 0 then first else v) ≡ (if opens then first else v)
zero_edge false first v = refl
zero_edge true first v = refl

-- an event with one handshake ends its transfer if that does
pub one_ends : (o : Observation) (one : HasOne o) → has_ended o ≡ one.t.ends
one_ends o one =
    ap (λ (found : Option Handshake). ends_with found || ends_with (second_handshake o.activity o.reply)) one.first
    ∙ ap (λ (found : Option Handshake). one.t.ends || ends_with found) one.second ∙ or_none one.t.ends
  where
    or_none : (b : Bool) → (b || false) ≡ b
    or_none true = refl
    or_none false = refl

-- an event with two handshakes ends it if the second does
pub two_ends : (o : Observation) (two : HasTwo o) → has_ended o ≡ two.u.ends
two_ends o two =
    ap (λ (found : Option Handshake). ends_with found || ends_with (second_handshake o.activity o.reply)) two.first
    ∙ ap (λ (found : Option Handshake). two.t.ends || ends_with found) two.second ∙ ap (λ (b : Bool). b || two.u.ends) two.goes_on

module _ (P : Handshake → Type 0) (x : ℕ) (value : Handshake → Value) (rest : Value) (line : IsAddressed P x value rest) (boards n : ℕ) (o : Observation) where
  -- the line at an edge of an event with one handshake
  pub one_value : (one : HasOne o) → P one.t → one.t.late ≡ false → (k : ℕ) → not (has_ended o && nat_le 10 k) ≡ true → (v : Value)
      → value_at (bus_code x) (event_changes boards n o) v k ≡ (if one.t.opens then value one.t else v)
  one_value one plain early k soon v =
      let t = one.t in
      let edge : edge_of t 9 ≡ 10 = ap (λ (b : Bool). if b then 10 + 9 else 1 + 9) early in
      at_pulse (bus_code x) (event_changes boards n o) (value t) rest v t.opens t.ends 0 10 (omega arith)
      (λ j w. one_parts (bus_code x) boards n o one line.line j w ∙ line.each j t w plain ∙ ap (λ (up : ℕ). pulse (value t) rest t.opens t.ends 0 up j w) edge) k
      ∙ early_value t.opens t.ends 10 k (value t) rest v (ap (λ (b : Bool). not (b && nat_le 10 k)) (sym (one_ends o one)) ∙ soon)

  -- at an edge of an event with two, without data on it
  pub two_value : (two : HasTwo o) → P two.t → P two.u → (k : ℕ) → not (has_ended o && nat_le 19 k) ≡ true → (v : Value)
      → value_at (bus_code x) (event_changes boards n o) v k ≡ (if two.t.opens then value two.t else v)
  two_value two plain plain' k soon v =
      let t = two.t in
      let u = two.u in
      let edge : edge_of u 9 ≡ 19 = ap (λ (b : Bool). if b then 10 + 9 else 1 + 9) two.late in
      at_pulse (bus_code x) (event_changes boards n o) (value t) rest v t.opens u.ends 0 19 (omega arith)
      (λ j w. two_parts (bus_code x) boards n o two line.line j w ∙ ap (value_after (bus_code x) j (handshake_changes u)) (line.each j t w plain)
      ∙ line.each j u (pulse (value t) rest t.opens t.ends 0 (edge_of t 9) j w) plain'
      ∙ joined (value t) (value u) w t.opens t.ends u.opens u.ends (edge_of t 9) (edge_of u 9) j two.goes_on two.opened edge) k
      ∙ early_value t.opens u.ends 19 k (value t) rest v (ap (λ (b : Bool). not (b && nat_le 19 k)) (sym (two_ends o two)) ∙ soon)
    where
      joined : (first second v : Value) (opens ends opens_later ends_later : Bool) (up up_later k : ℕ) → ends ≡ false → opens_later ≡ false → up_later ≡ 19
          → pulse second rest opens_later ends_later 0 up_later k (pulse first rest opens ends 0 up k v) ≡ pulse first rest opens ends_later 0 19 k v
      joined first second v opens ends opens_later ends_later up up_later k goes_on none edge = rw (goes_on, none, edge) refl

  -- the changes of an edge of the first half of an event with two
  two_early : (two : HasTwo o) → P two.t → (k : ℕ) → k < 10 → (v : Value)
      → value_after (bus_code x) k (event_changes boards n o) v ≡ (if two.t.opens && nat_eq 0 k then value two.t else v)
  two_early two plain k soon v =
      let t = two.t in
      two_parts (bus_code x) boards n o two line.line k v
      ∙ line.late k two.u _ two.opened two.late soon
      ∙ line.each k t v plain
      ∙ ap (λ (ends : Bool). pulse (value t) rest t.opens ends 0 (edge_of t 9) k v) two.goes_on
      ∙ first_edge t.opens (value t) rest v (edge_of t 9) k

  -- at an edge of the first half of an event with two
  pub two_begins : (two : HasTwo o) → P two.t → (k : ℕ) → k < 10 → (v : Value)
      → value_at (bus_code x) (event_changes boards n o) v k ≡ (if two.t.opens then value two.t else v)
  unfolding value_at
  two_begins two plain zero soon v = two_early two plain 0 (omega arith) v ∙ zero_edge two.t.opens (value two.t) v
  two_begins two plain (suc k) soon v =
      let before : k < 10 = omega (arith, soon) in
      two_early two plain (suc k) soon _
      ∙ ap (λ (w : Value). if two.t.opens && nat_eq 0 (suc k) then value two.t else w) (two_begins two plain k before v)
      ∙ later_edge two.t.opens (value two.t) v k

-- a byte of the data lines
byte_below : (n : ℕ) → n % 2 ^ 8 < 256
byte_below n = omega arith

-- the data lines show a number of 32 bits
data_below : (lanes : List (Option ℕ)) → data_number lanes < 2 ^ 32
data_below lanes =
    let a = byte_below (byte_on (lane_at lanes 0)) in
    let b = byte_below (byte_on (lane_at lanes 1)) in
    let c = byte_below (byte_on (lane_at lanes 2)) in
    let d = byte_below (byte_on (lane_at lanes 3)) in
    omega (arith, a, b, c, d)

-- a lane that nothing drives
free_below : (lane : Option ℕ) → free_lane lane ≤ 255
free_below None = omega arith
free_below (Some byte) = omega arith

-- those of the data lines
pub lanes_below : (lanes : List (Option ℕ)) → free_lanes lanes < 2 ^ 32
lanes_below lanes =
    let a = free_below (lane_at lanes 0) in
    let b = free_below (lane_at lanes 1) in
    let c = free_below (lane_at lanes 2) in
    let d = free_below (lane_at lanes 3) in
    omega (arith, a, b, c, d)

-- a level is driven
pub level_driven : (level : Bool) → is_free (level_of level) ≡ false
level_driven true = refl
level_driven false = refl

-- data lines alone are free
free_by : (a b : Bool) (n : ℕ) → a ≡ false → b ≡ false → n < 2 ^ 32 → ((if a then 0xfffffffe else 0) + (if b then 1 else 0)) * 2 ^ 32 + n < 2 ^ 32
free_by false false n one two below = omega (arith, below)
free_by false true n one two below = absurd cc
free_by true b n one two below = absurd cc

-- a sample in which the lines of the address have values shows it
pub shows_names : (config : Configuration) (events : List Observation) (o : Observation) (k am address : ℕ) (lword : Bool)
    → value_shown config events o k AddressModifier ≡ Number 6 am → value_shown config events o k AddressLines ≡ Number 32 address
    → value_shown config events o k LongWord ≡ level_of lword → Names am (address + bit_of (level_of lword)) (edge_sample config events o k)
unfolding sample_of
shows_names config events o k am address lword code lines level =
    let lanes = lanes_of (value_shown config events o k DataLines) in
    let l : Value = value_shown config events o k LongWord in
    record {
      code = ap number_of code;
      known = ap is_free code;
      rest = data_number lanes;
      below = data_below lanes;
      lines = ap (λ (v : Value). (number_of v + bit_of l) * 2 ^ 32 + data_number lanes) lines
          ∙ ap (λ (v : Value). (address + bit_of v) * 2 ^ 32 + data_number lanes) level;
      free = free_by (is_free (value_shown config events o k AddressLines)) (is_free l) (free_lanes lanes) (ap is_free lines)
          (ap is_free level ∙ level_driven lword) (lanes_below lanes);
    }
