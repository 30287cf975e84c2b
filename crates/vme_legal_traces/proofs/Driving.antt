-- The data lines, and the address lines of eight-byte data, at the edge at which a handshake drives them.
use Rattle.std.proofs.Common.{◌≡◌, ℕ, ◌+◌, ◌-◌, ◌*◌, ◌%◌, ◌^◌, ◌<◌, ◌==◌, Bool, true, false, nat_eq, not, ◌&&◌, if◌then◌else◌, List, Option, refl, ap, ◌∙◌, arith}
use Rattle.std.specs.Prelude.{bit_and}
use Rattle.std.specs.Int.Bits.{and_zero_l, and_zero_r}
use Rattle.std.proofs.lemmas.Bool.{eq-eqb}
use Rattle.std.proofs.lemmas.Nat.{and_block}
use Rattle.vme_lanes.specs.declared.location.Location.{Location}
use Rattle.vme_lanes.specs.declared.location.Location.TheVariants.{Byte0, Byte1, Byte2, Byte3, Bytes01, Bytes23, Bytes03, Bytes02, Bytes13, Bytes12}
use Rattle.vme_script.specs.Configurations.{Configuration}
use Rattle.vme_protocol.specs.Lines.{lanes_of, meet}
use Rattle.vme_trace.specs.declared.observation.Observation.{Observation}
use Rattle.vme_trace.specs.declared.dump.change.Value.{Value}
use Rattle.vme_trace.specs.declared.dump.change.Value.TheVariants.{Low, Free, Released, Number, Lanes}
use Rattle.vme_trace.specs.declared.dump.variable.Variable.TheVariants.{AddressLines, LongWord, DataLines}
use Rattle.vme_trace.specs.declared.dump.handshake.Handshake.{Handshake}
use Rattle.vme_trace.specs.Changes.{level_of, no_lanes}
use Rattle.vme_trace.specs.Variables.{bus_code}
use Rattle.vme_trace.specs.Handshakes.{edge_of}
use Rattle.vme_trace.specs.Bus.{is_wide, address_number, drive_edge, upper_number, lower_lanes, upper_lanes, address_strobe_changes, address_changes, level_changes, data_strobe_changes, data_changes, handshake_changes}
use Rattle.vme_trace.specs.Shown.{value_after}
use Rattle.vme_trace_laws.proofs.lemmas.Waves.{other, last_other, own, last_own, silent, after_append, level_line, address_strobe_quiet, address_quiet, level_quiet, data_strobe_quiet, data_quiet, answer_quiet}
use Rattle.vme_legal_traces.specs.Samples.{is_free, free_lanes, edge_sample, sample_of, value_shown}
use Rattle.vme_legal_traces.specs.Samples as samples
use Rattle.vme_legal_traces.proofs.Covered.{Covers}
use Rattle.vme_legal_traces.proofs.Lines.{lanes_below, level_driven}

-- the edge at which data are released comes after that at which they are driven
drive_apart : (write late : Bool) → nat_eq (if late then 10 + 7 else 1 + 7)
    (if write then (if late then 10 + 2 else 1 + 2) else (if late then 10 + 0 else 1 + 0)) ≡ false
drive_apart true true = refl
drive_apart true false = refl
drive_apart false true = refl
drive_apart false false = refl

-- the edge at which the address is released comes after that at which data are driven
drive_before : (write late : Bool) → nat_eq (if late then 10 + 9 else 1 + 9)
    (if write then (if late then 10 + 2 else 1 + 2) else (if late then 10 + 0 else 1 + 0)) ≡ false
drive_before true true = refl
drive_before true false = refl
drive_before false true = refl
drive_before false false = refl

-- a change at another edge
skip : (k : ℕ) (b : Bool) (e : ℕ) (v before : Value) → nat_eq e k ≡ false → (if b && nat_eq e k then v else before) ≡ before
skip k false e v before off = refl
skip k true e v before off = rw off refl

-- a change at this edge
take : (k : ℕ) (b : Bool) (e : ℕ) (v before : Value) → b ≡ true → nat_eq e k ≡ true → (if b && nat_eq e k then v else before) ≡ v
take k b e v before is at = rw (is, at) refl

-- D31 to D00 as a handshake drives them, by their own changes
data_driven_own : (t : Handshake) (v : Value) → t.carries ≡ true → value_after (bus_code 80) (drive_edge t) (data_changes t) v ≡ Lanes (lower_lanes t.lines.lanes)
unfolding data_changes
data_driven_own t v carries =
    let k = drive_edge t in
    own (bus_code 80) k t.carries k (Lanes (lower_lanes t.lines.lanes)) _ v refl
    ∙ (own (bus_code 80) k t.carries (edge_of t 7) no_lanes _ _ refl
    ∙ (other (bus_code 80) 81 k (is_wide t) k (Lanes (upper_lanes t.lines.lanes)) _ _ refl
    ∙ (last_other (bus_code 80) 81 k (is_wide t) (edge_of t 7) no_lanes _ refl
    ∙ (skip k t.carries (edge_of t 7) no_lanes _ (drive_apart t.lines.write t.late)
    ∙ take k t.carries k (Lanes (lower_lanes t.lines.lanes)) v carries (eq-eqb k k refl)))))

-- D31 to D00 as a handshake drives them
pub data_driven : (t : Handshake) (v : Value) → t.carries ≡ true → value_after (bus_code 80) (drive_edge t) (handshake_changes t) v ≡ Lanes (lower_lanes t.lines.lanes)
unfolding handshake_changes
data_driven t v carries =
    let k = drive_edge t in
    silent (bus_code 80) k (address_strobe_changes t) _ v (address_strobe_quiet (bus_code 80) k t v refl refl)
    ∙ (silent (bus_code 80) k (address_changes t) _ v (address_quiet (bus_code 80) k t v refl)
    ∙ (silent (bus_code 80) k (level_changes t) _ v (level_quiet (bus_code 80) k t v refl refl)
    ∙ (silent (bus_code 80) k (data_strobe_changes t) _ v (data_strobe_quiet (bus_code 80) k t v refl refl)
    ∙ (after_append (bus_code 80) k (data_changes t) _ v
    ∙ (answer_quiet (bus_code 80) k t _ refl refl)))))
    ∙ data_driven_own t v carries

-- A31 to A01 as eight-byte data drive them, by their own changes
address_driven_own : (t : Handshake) (v : Value) → is_wide t ≡ true
    → value_after (bus_code 75) (drive_edge t) (address_changes t) v ≡ Number 32 (upper_number t.lines.lanes - upper_number t.lines.lanes % 2)
unfolding address_changes
address_driven_own t v wide =
    let k = drive_edge t in
    let n = upper_number t.lines.lanes - upper_number t.lines.lanes % 2 in
    own (bus_code 75) k t.opens 0 (Number 32 (address_number t.lines)) _ v refl
    ∙ (own (bus_code 75) k t.clears 10 Released _ _ refl
    ∙ (own (bus_code 75) k (is_wide t) k (Number 32 n) _ _ refl
    ∙ (own (bus_code 75) k (is_wide t) (edge_of t 7) Released _ _ refl
    ∙ (last_own (bus_code 75) k t.ends (edge_of t 9) Released _ refl
    ∙ (skip k t.ends (edge_of t 9) Released _ (drive_before t.lines.write t.late)
    ∙ (skip k (is_wide t) (edge_of t 7) Released _ (drive_apart t.lines.write t.late)
    ∙ take k (is_wide t) k (Number 32 n) _ wide (eq-eqb k k refl)))))))

-- A31 to A01 as eight-byte data drive them
pub address_driven : (t : Handshake) (v : Value) → is_wide t ≡ true
    → value_after (bus_code 75) (drive_edge t) (handshake_changes t) v ≡ Number 32 (upper_number t.lines.lanes - upper_number t.lines.lanes % 2)
unfolding handshake_changes
address_driven t v wide =
    let k = drive_edge t in
    silent (bus_code 75) k (address_strobe_changes t) _ v (address_strobe_quiet (bus_code 75) k t v refl refl)
    ∙ (after_append (bus_code 75) k (address_changes t) _ v
    ∙ (silent (bus_code 75) k (level_changes t) _ _ (level_quiet (bus_code 75) k t _ refl refl)
    ∙ (silent (bus_code 75) k (data_strobe_changes t) _ _ (data_strobe_quiet (bus_code 75) k t _ refl refl)
    ∙ (silent (bus_code 75) k (data_changes t) _ _ (data_quiet (bus_code 75) k t _ refl refl)
    ∙ (answer_quiet (bus_code 75) k t _ refl refl)))))
    ∙ address_driven_own t v wide

-- LWORD* as they drive it, by its own changes
long_word_driven_own : (t : Handshake) (v : Value) → is_wide t ≡ true
    → value_after (bus_code 76) (drive_edge t) (level_changes t) v ≡ level_of (upper_number t.lines.lanes % 2 == 1)
unfolding level_changes
long_word_driven_own t v wide =
    let k = drive_edge t in
    let bit = upper_number t.lines.lanes % 2 == 1 in
    after_append (bus_code 76) k (level_line t 76 t.lines.strobes.lword bit) _ v
    ∙ (other (bus_code 76) 77 k t.opens 0 (level_of t.lines.write) _ _ refl
    ∙ (other (bus_code 76) 77 k t.falls 10 Low _ _ refl
    ∙ (last_other (bus_code 76) 77 k t.ends (edge_of t 9) Free _ refl)))
    ∙ (own (bus_code 76) k t.opens 0 (level_of t.lines.strobes.lword) _ v refl
    ∙ (own (bus_code 76) k t.clears 10 Free _ _ refl
    ∙ (own (bus_code 76) k (is_wide t) k (level_of bit) _ _ refl
    ∙ (own (bus_code 76) k (is_wide t) (edge_of t 7) Free _ _ refl
    ∙ (last_own (bus_code 76) k t.ends (edge_of t 9) Free _ refl
    ∙ (skip k t.ends (edge_of t 9) Free _ (drive_before t.lines.write t.late)
    ∙ (skip k (is_wide t) (edge_of t 7) Free _ (drive_apart t.lines.write t.late)
    ∙ take k (is_wide t) k (level_of bit) _ wide (eq-eqb k k refl))))))))

-- LWORD* as they drive it
pub long_word_driven : (t : Handshake) (v : Value) → is_wide t ≡ true
    → value_after (bus_code 76) (drive_edge t) (handshake_changes t) v ≡ level_of (upper_number t.lines.lanes % 2 == 1)
unfolding handshake_changes
long_word_driven t v wide =
    let k = drive_edge t in
    silent (bus_code 76) k (address_strobe_changes t) _ v (address_strobe_quiet (bus_code 76) k t v refl refl)
    ∙ (silent (bus_code 76) k (address_changes t) _ v (address_quiet (bus_code 76) k t v refl)
    ∙ (after_append (bus_code 76) k (level_changes t) _ v
    ∙ (silent (bus_code 76) k (data_strobe_changes t) _ _ (data_strobe_quiet (bus_code 76) k t _ refl refl)
    ∙ (silent (bus_code 76) k (data_changes t) _ _ (data_quiet (bus_code 76) k t _ refl refl)
    ∙ (answer_quiet (bus_code 76) k t _ refl refl)))))
    ∙ long_word_driven_own t v wide

-- the lines that count for a location, all with a code of eight-byte data
abbrev pub set_for : Bool → Location → ℕ
set_for wide l = if wide then 2 ^ 64 - 1 else lanes_of l

-- the lines of a location are data lines
lanes_low : (l : Location) → lanes_of l < 2 ^ 32
lanes_low Byte0 = omega arith
lanes_low Byte1 = omega arith
lanes_low Byte2 = omega arith
lanes_low Byte3 = omega arith
lanes_low Bytes01 = omega arith
lanes_low Bytes23 = omega arith
lanes_low Bytes03 = omega arith
lanes_low Bytes02 = omega arith
lanes_low Bytes13 = omega arith
lanes_low Bytes12 = omega arith

-- data lines that are driven, whatever the address lines
narrow_clear : (l : Location) (x f : ℕ) → f < 2 ^ 32 → bit_and (lanes_of l) f ≡ 0 → meet (lanes_of l) (x * 2 ^ 32 + f) ≡ false
narrow_clear l x f below none =
    ap (λ (y : ℕ). not (y == 0))
    (ap (λ (y : ℕ). bit_and y (x * 2 ^ 32 + f)) (omega arith) ∙ and_block 32 0 x (lanes_of l) f (lanes_low l) below
    ∙ ap (λ (y : ℕ). y * 2 ^ 32 + bit_and (lanes_of l) f) (and_zero_l x) ∙ ap (λ (y : ℕ). 0 * 2 ^ 32 + y) none)

-- no line is free
all_driven : (a b : Bool) (f : ℕ) → a ≡ false → b ≡ false → f ≡ 0 → ((if a then 0xfffffffe else 0) + (if b then 1 else 0)) * 2 ^ 32 + f ≡ 0
all_driven a b f one two three = rw (one, two, three) refl

-- a sample in which the lines that count are driven
pub driven_clear : (config : Configuration) (events : List Observation) (o : Observation) (k : ℕ) (wide : Bool) (l : Location) (lanes : List (Option ℕ)) (n : ℕ) (b : Bool)
    → Covers wide l lanes → value_shown config events o k DataLines ≡ Lanes (lower_lanes lanes)
    → (wide ≡ true → (value_shown config events o k AddressLines ≡ Number 32 n) × (value_shown config events o k LongWord ≡ level_of b))
    → meet (set_for wide l) (edge_sample config events o k).lines_undefined ≡ false
unfolding sample_of
driven_clear config events o k false l lanes n b covers data_is wide_is =
    let x : ℕ = (if is_free (value_shown config events o k AddressLines) then 0xfffffffe else 0)
    + (if is_free (value_shown config events o k LongWord) then 1 else 0) in
    ap (λ (v : Value). meet (lanes_of l) (x * 2 ^ 32 + free_lanes (samples.lanes_of v))) data_is
    ∙ narrow_clear l x (free_lanes (lower_lanes lanes)) (lanes_below (lower_lanes lanes)) covers.1
driven_clear config events o k true l lanes n b covers data_is wide_is =
    let a : Value = value_shown config events o k AddressLines in
    let w : Value = value_shown config events o k LongWord in
    let parts = wide_is refl in
    ap (λ (x : ℕ). not (bit_and (2 ^ 64 - 1) x == 0))
    (all_driven (is_free a) (is_free w) _ (ap is_free parts.0) (ap is_free parts.1 ∙ level_driven b)
    (ap (λ (v : Value). free_lanes (samples.lanes_of v)) data_is ∙ covers.1))
    ∙ ap (λ (y : ℕ). not (y == 0)) (and_zero_r (2 ^ 64 - 1))
