-- What the master drives with the address, in a handshake that opens a cycle.
use Rattle.std.proofs.Common.{◌≡◌, ℕ, ◌-◌, ◌%◌, ◌==◌, Bool, true, false, refl, ◌∙◌}
use Rattle.vme_trace.specs.declared.dump.change.Value.{Value}
use Rattle.vme_trace.specs.declared.dump.change.Value.TheVariants.{Low, High, Free, Released, Number}
use Rattle.vme_trace.specs.declared.dump.handshake.Handshake.{Handshake}
use Rattle.vme_trace.specs.Changes.{level_of}
use Rattle.vme_trace.specs.Variables.{bus_code}
use Rattle.vme_trace.specs.Handshakes.{edge_of}
use Rattle.vme_trace.specs.Bus.{is_wide, address_number, drive_edge, upper_number, address_strobe_changes, address_changes, level_changes, data_strobe_changes, data_changes, handshake_changes}
use Rattle.vme_trace.specs.Shown.{is_code, value_after}
use Rattle.vme_trace_laws.proofs.waves.Afters.{other, last_other, own, last_own, silent, after_append}
use Rattle.vme_trace_laws.proofs.waves.Groups.{level_line, address_strobe_quiet, address_quiet, address_level_quiet, level_quiet, data_strobe_quiet, data_quiet, answer_quiet}
use Rattle.vme_trace_laws.proofs.waves.Pulses.{pulse}

-- the address modifier in a handshake, by its own changes
modifier_after_own : (k : ℕ) (t : Handshake) (v : Value)
    → value_after (bus_code 74) k (address_strobe_changes t) v ≡ pulse (Number 6 t.lines.am.code) Released t.opens t.ends 0 (edge_of t 9) k v
unfolding address_strobe_changes
modifier_after_own k t v =
    other (bus_code 74) 73 k t.opens 1 Low _ v refl
    ∙ (other (bus_code 74) 73 k t.ends (edge_of t 6) High _ v refl
    ∙ (own (bus_code 74) k t.opens 0 (Number 6 t.lines.am.code) _ v refl
    ∙ (last_own (bus_code 74) k t.ends (edge_of t 9) Released _ refl)))

-- the address modifier in a handshake
pub modifier_after : (k : ℕ) (t : Handshake) (v : Value)
    → value_after (bus_code 74) k (handshake_changes t) v ≡ pulse (Number 6 t.lines.am.code) Released t.opens t.ends 0 (edge_of t 9) k v
unfolding handshake_changes
modifier_after k t v =
    after_append (bus_code 74) k (address_strobe_changes t) _ v
    ∙ (silent (bus_code 74) k (address_changes t) _ _ (address_quiet (bus_code 74) k t _ refl)
    ∙ (silent (bus_code 74) k (level_changes t) _ _ (level_quiet (bus_code 74) k t _ refl refl)
    ∙ (silent (bus_code 74) k (data_strobe_changes t) _ _ (data_strobe_quiet (bus_code 74) k t _ refl refl)
    ∙ (silent (bus_code 74) k (data_changes t) _ _ (data_quiet (bus_code 74) k t _ refl refl)
    ∙ (answer_quiet (bus_code 74) k t _ refl refl)))))
    ∙ modifier_after_own k t v

-- A31 to A01 in a handshake, by its own changes
address_after_own : (k : ℕ) (t : Handshake) (v : Value) → is_wide t ≡ false → t.clears ≡ false
    → value_after (bus_code 75) k (address_changes t) v ≡ pulse (Number 32 (address_number t.lines)) Released t.opens t.ends 0 (edge_of t 9) k v
unfolding address_changes
address_after_own k t v narrow kept =
    own (bus_code 75) k t.opens 0 (Number 32 (address_number t.lines)) _ v refl
    ∙ (own (bus_code 75) k t.clears 10 Released _ _ refl
    ∙ (own (bus_code 75) k (is_wide t) (drive_edge t) (Number 32 (upper_number t.lines.lanes - upper_number t.lines.lanes % 2)) _ _ refl
    ∙ (own (bus_code 75) k (is_wide t) (edge_of t 7) Released _ _ refl
    ∙ (last_own (bus_code 75) k t.ends (edge_of t 9) Released _ refl))))
    ∙ rw (narrow, kept) refl

-- A31 to A01 in a handshake
pub address_after : (k : ℕ) (t : Handshake) (v : Value) → is_wide t ≡ false → t.clears ≡ false
    → value_after (bus_code 75) k (handshake_changes t) v ≡ pulse (Number 32 (address_number t.lines)) Released t.opens t.ends 0 (edge_of t 9) k v
unfolding handshake_changes
address_after k t v narrow kept =
    silent (bus_code 75) k (address_strobe_changes t) _ v (address_strobe_quiet (bus_code 75) k t v refl refl)
    ∙ (after_append (bus_code 75) k (address_changes t) _ v
    ∙ (silent (bus_code 75) k (level_changes t) _ _ (level_quiet (bus_code 75) k t _ refl refl)
    ∙ (silent (bus_code 75) k (data_strobe_changes t) _ _ (data_strobe_quiet (bus_code 75) k t _ refl refl)
    ∙ (silent (bus_code 75) k (data_changes t) _ _ (data_quiet (bus_code 75) k t _ refl refl)
    ∙ (answer_quiet (bus_code 75) k t _ refl refl)))))
    ∙ address_after_own k t v narrow kept

-- a line that shows a level with the address
address_level_own : (x k : ℕ) (t : Handshake) (level bit : Bool) (v : Value) → is_code (bus_code x) (bus_code x) ≡ true → is_wide t ≡ false → t.clears ≡ false
    → value_after (bus_code x) k (level_line t x level bit) v ≡ pulse (level_of level) Free t.opens t.ends 0 (edge_of t 9) k v
address_level_own x k t level bit v same narrow kept =
    own (bus_code x) k t.opens 0 (level_of level) _ v same
    ∙ (own (bus_code x) k t.clears 10 Free _ _ same
    ∙ (own (bus_code x) k (is_wide t) (drive_edge t) (level_of bit) _ _ same
    ∙ (own (bus_code x) k (is_wide t) (edge_of t 7) Free _ _ same
    ∙ (last_own (bus_code x) k t.ends (edge_of t 9) Free _ same))))
    ∙ rw (narrow, kept) refl

-- LWORD* in a handshake, by its own changes
long_word_after_own : (k : ℕ) (t : Handshake) (v : Value) → is_wide t ≡ false → t.clears ≡ false
    → value_after (bus_code 76) k (level_changes t) v ≡ pulse (level_of t.lines.strobes.lword) Free t.opens t.ends 0 (edge_of t 9) k v
unfolding level_changes
long_word_after_own k t v narrow kept =
    after_append (bus_code 76) k (level_line t 76 t.lines.strobes.lword (upper_number t.lines.lanes % 2 == 1)) _ v
    ∙ (other (bus_code 76) 77 k t.opens 0 (level_of t.lines.write) _ _ refl
    ∙ (other (bus_code 76) 77 k t.falls 10 Low _ _ refl
    ∙ (last_other (bus_code 76) 77 k t.ends (edge_of t 9) Free _ refl)))
    ∙ address_level_own 76 k t _ _ v refl narrow kept

-- LWORD* in a handshake
pub long_word_after : (k : ℕ) (t : Handshake) (v : Value) → is_wide t ≡ false → t.clears ≡ false
    → value_after (bus_code 76) k (handshake_changes t) v ≡ pulse (level_of t.lines.strobes.lword) Free t.opens t.ends 0 (edge_of t 9) k v
unfolding handshake_changes
long_word_after k t v narrow kept =
    silent (bus_code 76) k (address_strobe_changes t) _ v (address_strobe_quiet (bus_code 76) k t v refl refl)
    ∙ (silent (bus_code 76) k (address_changes t) _ v (address_quiet (bus_code 76) k t v refl)
    ∙ (after_append (bus_code 76) k (level_changes t) _ v
    ∙ (silent (bus_code 76) k (data_strobe_changes t) _ _ (data_strobe_quiet (bus_code 76) k t _ refl refl)
    ∙ (silent (bus_code 76) k (data_changes t) _ _ (data_quiet (bus_code 76) k t _ refl refl)
    ∙ (answer_quiet (bus_code 76) k t _ refl refl)))))
    ∙ long_word_after_own k t v narrow kept

-- WRITE* in a handshake for which it does not fall, by its own changes
write_after_own : (k : ℕ) (t : Handshake) (v : Value) → t.falls ≡ false → value_after (bus_code 77) k (level_changes t) v ≡ pulse (level_of t.lines.write) Free t.opens t.ends 0 (edge_of t 9) k v
unfolding level_changes
write_after_own k t v still =
    silent (bus_code 77) k (level_line t 76 t.lines.strobes.lword (upper_number t.lines.lanes % 2 == 1)) _ v (address_level_quiet (bus_code 77) 76 k t _ _ v refl)
    ∙ (own (bus_code 77) k t.opens 0 (level_of t.lines.write) _ v refl
    ∙ (own (bus_code 77) k t.falls 10 Low _ _ refl
    ∙ (last_own (bus_code 77) k t.ends (edge_of t 9) Free _ refl)))
    ∙ rw still refl

-- WRITE* in a handshake for which it does not fall
pub write_after : (k : ℕ) (t : Handshake) (v : Value) → t.falls ≡ false → value_after (bus_code 77) k (handshake_changes t) v ≡ pulse (level_of t.lines.write) Free t.opens t.ends 0 (edge_of t 9) k v
unfolding handshake_changes
write_after k t v still =
    silent (bus_code 77) k (address_strobe_changes t) _ v (address_strobe_quiet (bus_code 77) k t v refl refl)
    ∙ (silent (bus_code 77) k (address_changes t) _ v (address_quiet (bus_code 77) k t v refl)
    ∙ (after_append (bus_code 77) k (level_changes t) _ v
    ∙ (silent (bus_code 77) k (data_strobe_changes t) _ _ (data_strobe_quiet (bus_code 77) k t _ refl refl)
    ∙ (silent (bus_code 77) k (data_changes t) _ _ (data_quiet (bus_code 77) k t _ refl refl)
    ∙ (answer_quiet (bus_code 77) k t _ refl refl)))))
    ∙ write_after_own k t v still
