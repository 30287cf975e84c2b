-- Which lines the changes of a handshake move.
use Rattle.std.proofs.Common.{◌≡◌, ℕ, List, ◌++◌, ◌-◌, ◌%◌, ◌==◌, Bool, false, not, refl, ◌∙◌}
use Rattle.vme_trace.specs.declared.dump.change.Code.{Code}
use Rattle.vme_trace.specs.declared.dump.change.Change.{Change}
use Rattle.vme_trace.specs.declared.dump.change.Value.{Value}
use Rattle.vme_trace.specs.declared.dump.change.Value.TheVariants.{Low, High, Free, Released, Number, Lanes}
use Rattle.vme_trace.specs.declared.dump.handshake.Handshake.{Handshake}
use Rattle.vme_trace.specs.Changes.{level_of, change_if, no_lanes}
use Rattle.vme_trace.specs.Variables.{bus_code}
use Rattle.vme_trace.specs.Handshakes.{edge_of}
use Rattle.vme_trace.specs.Bus.{is_wide, address_number, drive_edge, upper_number, lower_lanes, upper_lanes, address_strobe_changes, address_changes, level_changes, data_strobe_changes, data_changes, answer_changes, handshake_changes}
use Rattle.vme_trace.specs.Shown.{is_code, value_after}
use Rattle.vme_trace_laws.proofs.waves.Afters.{other, last_other, own, last_own, silent, after_append}
use Rattle.vme_trace_laws.proofs.waves.Pulses.{pulse}

-- AS* and the address modifier move no other line
pub address_strobe_quiet : (line : Code) (k : ℕ) (t : Handshake) (v : Value) → is_code line (bus_code 73) ≡ false → is_code line (bus_code 74) ≡ false
    → value_after line k (address_strobe_changes t) v ≡ v
unfolding address_strobe_changes
address_strobe_quiet line k t v first second =
    other line 73 k t.opens 1 Low _ v first
    ∙ (other line 73 k t.ends (edge_of t 6) High _ v first
    ∙ (other line 74 k t.opens 0 (Number 6 t.lines.am.code) _ v second
    ∙ (last_other line 74 k t.ends (edge_of t 9) Released v second)))

-- A31 to A01 move no other line
pub address_quiet : (line : Code) (k : ℕ) (t : Handshake) (v : Value) → is_code line (bus_code 75) ≡ false
    → value_after line k (address_changes t) v ≡ v
unfolding address_changes
address_quiet line k t v first =
    other line 75 k t.opens 0 (Number 32 (address_number t.lines)) _ v first
    ∙ (other line 75 k t.clears 10 Released _ v first
    ∙ (other line 75 k (is_wide t) (drive_edge t) (Number 32 (upper_number t.lines.lanes - upper_number t.lines.lanes % 2)) _ v first
    ∙ (other line 75 k (is_wide t) (edge_of t 7) Released _ v first
    ∙ (last_other line 75 k t.ends (edge_of t 9) Released v first))))

-- what a line that shows a level with the address does in a handshake, by its letter
abbrev pub level_line : Handshake → ℕ → Bool → Bool → List Change
level_line t letter level bit =
    change_if t.opens 0 (bus_code letter) (level_of level)
    ++ (change_if t.clears 10 (bus_code letter) Free
    ++ (change_if (is_wide t) (drive_edge t) (bus_code letter) (level_of bit)
    ++ (change_if (is_wide t) (edge_of t 7) (bus_code letter) Free
    ++ change_if t.ends (edge_of t 9) (bus_code letter) Free)))

-- a line that shows a level with the address moves no other line
pub address_level_quiet : (line : Code) (x k : ℕ) (t : Handshake) (level bit : Bool) (v : Value) → is_code line (bus_code x) ≡ false
    → value_after line k (level_line t x level bit) v ≡ v
address_level_quiet line x k t level bit v apart =
    other line x k t.opens 0 (level_of level) _ v apart
    ∙ (other line x k t.clears 10 Free _ v apart
    ∙ (other line x k (is_wide t) (drive_edge t) (level_of bit) _ v apart
    ∙ (other line x k (is_wide t) (edge_of t 7) Free _ v apart
    ∙ (last_other line x k t.ends (edge_of t 9) Free v apart))))

-- LWORD* and WRITE* move no other line
pub level_quiet : (line : Code) (k : ℕ) (t : Handshake) (v : Value) → is_code line (bus_code 76) ≡ false → is_code line (bus_code 77) ≡ false
    → value_after line k (level_changes t) v ≡ v
unfolding level_changes
level_quiet line k t v first second =
    silent line k (level_line t 76 t.lines.strobes.lword (upper_number t.lines.lanes % 2 == 1)) _ v (address_level_quiet line 76 k t _ _ v first)
    ∙ (other line 77 k t.opens 0 (level_of t.lines.write) _ v second
    ∙ (other line 77 k t.falls 10 Low _ v second
    ∙ (last_other line 77 k t.ends (edge_of t 9) Free v second)))

-- DS1* and DS0* move no other line
pub data_strobe_quiet : (line : Code) (k : ℕ) (t : Handshake) (v : Value) → is_code line (bus_code 78) ≡ false → is_code line (bus_code 79) ≡ false
    → value_after line k (data_strobe_changes t) v ≡ v
unfolding data_strobe_changes
data_strobe_quiet line k t v first second =
    other line 78 k (not t.lines.strobes.ds1) (edge_of t 1) Low _ v first
    ∙ (other line 78 k (not t.lines.strobes.ds1) (edge_of t 6) High _ v first
    ∙ (other line 79 k (not t.lines.strobes.ds0) (edge_of t 1) Low _ v second
    ∙ (last_other line 79 k (not t.lines.strobes.ds0) (edge_of t 6) High v second)))

-- the data lines move no other line
pub data_quiet : (line : Code) (k : ℕ) (t : Handshake) (v : Value) → is_code line (bus_code 80) ≡ false → is_code line (bus_code 81) ≡ false
    → value_after line k (data_changes t) v ≡ v
unfolding data_changes
data_quiet line k t v first second =
    other line 80 k t.carries (drive_edge t) (Lanes (lower_lanes t.lines.lanes)) _ v first
    ∙ (other line 80 k t.carries (edge_of t 7) no_lanes _ v first
    ∙ (other line 81 k (is_wide t) (drive_edge t) (Lanes (upper_lanes t.lines.lanes)) _ v second
    ∙ (last_other line 81 k (is_wide t) (edge_of t 7) no_lanes v second)))

-- DTACK* and BERR* move no other line
pub answer_quiet : (line : Code) (k : ℕ) (t : Handshake) (v : Value) → is_code line (bus_code 82) ≡ false → is_code line (bus_code 83) ≡ false
    → value_after line k (answer_changes t) v ≡ v
unfolding answer_changes
answer_quiet line k t v first second =
    other line 82 k (not t.berr) (edge_of t 3) Low _ v first
    ∙ (other line 82 k (not t.berr) (edge_of t 8) High _ v first
    ∙ (other line 83 k t.berr (edge_of t 3) Low _ v second
    ∙ (last_other line 83 k t.berr (edge_of t 8) High v second)))

-- AS* in a handshake, by its own changes
address_strobe_after_own : (k : ℕ) (t : Handshake) (v : Value) → value_after (bus_code 73) k (address_strobe_changes t) v ≡ pulse Low High t.opens t.ends 1 (edge_of t 6) k v
unfolding address_strobe_changes
address_strobe_after_own k t v =
    own (bus_code 73) k t.opens 1 Low _ v refl
    ∙ (own (bus_code 73) k t.ends (edge_of t 6) High _ _ refl
    ∙ (other (bus_code 73) 74 k t.opens 0 (Number 6 t.lines.am.code) _ _ refl
    ∙ (last_other (bus_code 73) 74 k t.ends (edge_of t 9) Released _ refl)))

-- AS* in a handshake
pub address_strobe_after : (k : ℕ) (t : Handshake) (v : Value)
    → value_after (bus_code 73) k (handshake_changes t) v ≡ pulse Low High t.opens t.ends 1 (edge_of t 6) k v
unfolding handshake_changes
address_strobe_after k t v =
    after_append (bus_code 73) k (address_strobe_changes t) _ v
    ∙ (silent (bus_code 73) k (address_changes t) _ _ (address_quiet (bus_code 73) k t _ refl)
    ∙ (silent (bus_code 73) k (level_changes t) _ _ (level_quiet (bus_code 73) k t _ refl refl)
    ∙ (silent (bus_code 73) k (data_strobe_changes t) _ _ (data_strobe_quiet (bus_code 73) k t _ refl refl)
    ∙ (silent (bus_code 73) k (data_changes t) _ _ (data_quiet (bus_code 73) k t _ refl refl)
    ∙ (answer_quiet (bus_code 73) k t _ refl refl)))))
    ∙ address_strobe_after_own k t v

-- DS1* in a handshake, by its own changes
first_strobe_after_own : (k : ℕ) (t : Handshake) (v : Value) → value_after (bus_code 78) k (data_strobe_changes t) v ≡ pulse Low High (not t.lines.strobes.ds1) (not t.lines.strobes.ds1) (edge_of t 1) (edge_of t 6) k v
unfolding data_strobe_changes
first_strobe_after_own k t v =
    own (bus_code 78) k (not t.lines.strobes.ds1) (edge_of t 1) Low _ v refl
    ∙ (own (bus_code 78) k (not t.lines.strobes.ds1) (edge_of t 6) High _ _ refl
    ∙ (other (bus_code 78) 79 k (not t.lines.strobes.ds0) (edge_of t 1) Low _ _ refl
    ∙ (last_other (bus_code 78) 79 k (not t.lines.strobes.ds0) (edge_of t 6) High _ refl)))

-- DS1* in a handshake
pub first_strobe_after : (k : ℕ) (t : Handshake) (v : Value)
    → value_after (bus_code 78) k (handshake_changes t) v ≡ pulse Low High (not t.lines.strobes.ds1) (not t.lines.strobes.ds1) (edge_of t 1) (edge_of t 6) k v
unfolding handshake_changes
first_strobe_after k t v =
    silent (bus_code 78) k (address_strobe_changes t) _ v (address_strobe_quiet (bus_code 78) k t v refl refl)
    ∙ (silent (bus_code 78) k (address_changes t) _ v (address_quiet (bus_code 78) k t v refl)
    ∙ (silent (bus_code 78) k (level_changes t) _ v (level_quiet (bus_code 78) k t v refl refl)
    ∙ (after_append (bus_code 78) k (data_strobe_changes t) _ v
    ∙ (silent (bus_code 78) k (data_changes t) _ _ (data_quiet (bus_code 78) k t _ refl refl)
    ∙ (answer_quiet (bus_code 78) k t _ refl refl)))))
    ∙ first_strobe_after_own k t v

-- DS0* in a handshake, by its own changes
second_strobe_after_own : (k : ℕ) (t : Handshake) (v : Value) → value_after (bus_code 79) k (data_strobe_changes t) v ≡ pulse Low High (not t.lines.strobes.ds0) (not t.lines.strobes.ds0) (edge_of t 1) (edge_of t 6) k v
unfolding data_strobe_changes
second_strobe_after_own k t v =
    other (bus_code 79) 78 k (not t.lines.strobes.ds1) (edge_of t 1) Low _ v refl
    ∙ (other (bus_code 79) 78 k (not t.lines.strobes.ds1) (edge_of t 6) High _ v refl
    ∙ (own (bus_code 79) k (not t.lines.strobes.ds0) (edge_of t 1) Low _ v refl
    ∙ (last_own (bus_code 79) k (not t.lines.strobes.ds0) (edge_of t 6) High _ refl)))

-- DS0* in a handshake
pub second_strobe_after : (k : ℕ) (t : Handshake) (v : Value)
    → value_after (bus_code 79) k (handshake_changes t) v ≡ pulse Low High (not t.lines.strobes.ds0) (not t.lines.strobes.ds0) (edge_of t 1) (edge_of t 6) k v
unfolding handshake_changes
second_strobe_after k t v =
    silent (bus_code 79) k (address_strobe_changes t) _ v (address_strobe_quiet (bus_code 79) k t v refl refl)
    ∙ (silent (bus_code 79) k (address_changes t) _ v (address_quiet (bus_code 79) k t v refl)
    ∙ (silent (bus_code 79) k (level_changes t) _ v (level_quiet (bus_code 79) k t v refl refl)
    ∙ (after_append (bus_code 79) k (data_strobe_changes t) _ v
    ∙ (silent (bus_code 79) k (data_changes t) _ _ (data_quiet (bus_code 79) k t _ refl refl)
    ∙ (answer_quiet (bus_code 79) k t _ refl refl)))))
    ∙ second_strobe_after_own k t v

-- DTACK* in a handshake, by its own changes
done_after_own : (k : ℕ) (t : Handshake) (v : Value) → value_after (bus_code 82) k (answer_changes t) v ≡ pulse Low High (not t.berr) (not t.berr) (edge_of t 3) (edge_of t 8) k v
unfolding answer_changes
done_after_own k t v =
    own (bus_code 82) k (not t.berr) (edge_of t 3) Low _ v refl
    ∙ (own (bus_code 82) k (not t.berr) (edge_of t 8) High _ _ refl
    ∙ (other (bus_code 82) 83 k t.berr (edge_of t 3) Low _ _ refl
    ∙ (last_other (bus_code 82) 83 k t.berr (edge_of t 8) High _ refl)))

-- DTACK* in a handshake
pub done_after : (k : ℕ) (t : Handshake) (v : Value)
    → value_after (bus_code 82) k (handshake_changes t) v ≡ pulse Low High (not t.berr) (not t.berr) (edge_of t 3) (edge_of t 8) k v
unfolding handshake_changes
done_after k t v =
    silent (bus_code 82) k (address_strobe_changes t) _ v (address_strobe_quiet (bus_code 82) k t v refl refl)
    ∙ (silent (bus_code 82) k (address_changes t) _ v (address_quiet (bus_code 82) k t v refl)
    ∙ (silent (bus_code 82) k (level_changes t) _ v (level_quiet (bus_code 82) k t v refl refl)
    ∙ (silent (bus_code 82) k (data_strobe_changes t) _ v (data_strobe_quiet (bus_code 82) k t v refl refl)
    ∙ (silent (bus_code 82) k (data_changes t) _ v (data_quiet (bus_code 82) k t v refl refl)))))
    ∙ done_after_own k t v

-- D31 to D00 in a handshake, by its own changes
data_after_own : (k : ℕ) (t : Handshake) (v : Value) → value_after (bus_code 80) k (data_changes t) v ≡ pulse (Lanes (lower_lanes t.lines.lanes)) no_lanes t.carries t.carries (drive_edge t) (edge_of t 7) k v
unfolding data_changes
data_after_own k t v =
    own (bus_code 80) k t.carries (drive_edge t) (Lanes (lower_lanes t.lines.lanes)) _ v refl
    ∙ (own (bus_code 80) k t.carries (edge_of t 7) no_lanes _ _ refl
    ∙ (other (bus_code 80) 81 k (is_wide t) (drive_edge t) (Lanes (upper_lanes t.lines.lanes)) _ _ refl
    ∙ (last_other (bus_code 80) 81 k (is_wide t) (edge_of t 7) no_lanes _ refl)))

-- D31 to D00 in a handshake
pub data_after : (k : ℕ) (t : Handshake) (v : Value)
    → value_after (bus_code 80) k (handshake_changes t) v ≡ pulse (Lanes (lower_lanes t.lines.lanes)) no_lanes t.carries t.carries (drive_edge t) (edge_of t 7) k v
unfolding handshake_changes
data_after k t v =
    silent (bus_code 80) k (address_strobe_changes t) _ v (address_strobe_quiet (bus_code 80) k t v refl refl)
    ∙ (silent (bus_code 80) k (address_changes t) _ v (address_quiet (bus_code 80) k t v refl)
    ∙ (silent (bus_code 80) k (level_changes t) _ v (level_quiet (bus_code 80) k t v refl refl)
    ∙ (silent (bus_code 80) k (data_strobe_changes t) _ v (data_strobe_quiet (bus_code 80) k t v refl refl)
    ∙ (after_append (bus_code 80) k (data_changes t) _ v
    ∙ (answer_quiet (bus_code 80) k t _ refl refl)))))
    ∙ data_after_own k t v

-- D63 to D32 in a handshake, by its own changes
upper_data_after_own : (k : ℕ) (t : Handshake) (v : Value) → value_after (bus_code 81) k (data_changes t) v ≡ pulse (Lanes (upper_lanes t.lines.lanes)) no_lanes (is_wide t) (is_wide t) (drive_edge t) (edge_of t 7) k v
unfolding data_changes
upper_data_after_own k t v =
    other (bus_code 81) 80 k t.carries (drive_edge t) (Lanes (lower_lanes t.lines.lanes)) _ v refl
    ∙ (other (bus_code 81) 80 k t.carries (edge_of t 7) no_lanes _ v refl
    ∙ (own (bus_code 81) k (is_wide t) (drive_edge t) (Lanes (upper_lanes t.lines.lanes)) _ v refl
    ∙ (last_own (bus_code 81) k (is_wide t) (edge_of t 7) no_lanes _ refl)))

-- D63 to D32 in a handshake
pub upper_data_after : (k : ℕ) (t : Handshake) (v : Value)
    → value_after (bus_code 81) k (handshake_changes t) v ≡ pulse (Lanes (upper_lanes t.lines.lanes)) no_lanes (is_wide t) (is_wide t) (drive_edge t) (edge_of t 7) k v
unfolding handshake_changes
upper_data_after k t v =
    silent (bus_code 81) k (address_strobe_changes t) _ v (address_strobe_quiet (bus_code 81) k t v refl refl)
    ∙ (silent (bus_code 81) k (address_changes t) _ v (address_quiet (bus_code 81) k t v refl)
    ∙ (silent (bus_code 81) k (level_changes t) _ v (level_quiet (bus_code 81) k t v refl refl)
    ∙ (silent (bus_code 81) k (data_strobe_changes t) _ v (data_strobe_quiet (bus_code 81) k t v refl refl)
    ∙ (after_append (bus_code 81) k (data_changes t) _ v
    ∙ (answer_quiet (bus_code 81) k t _ refl refl)))))
    ∙ upper_data_after_own k t v

-- BERR* in a handshake, by its own changes
error_after_own : (k : ℕ) (t : Handshake) (v : Value) → value_after (bus_code 83) k (answer_changes t) v ≡ pulse Low High t.berr t.berr (edge_of t 3) (edge_of t 8) k v
unfolding answer_changes
error_after_own k t v =
    other (bus_code 83) 82 k (not t.berr) (edge_of t 3) Low _ v refl
    ∙ (other (bus_code 83) 82 k (not t.berr) (edge_of t 8) High _ v refl
    ∙ (own (bus_code 83) k t.berr (edge_of t 3) Low _ v refl
    ∙ (last_own (bus_code 83) k t.berr (edge_of t 8) High _ refl)))

-- BERR* in a handshake
pub error_after : (k : ℕ) (t : Handshake) (v : Value)
    → value_after (bus_code 83) k (handshake_changes t) v ≡ pulse Low High t.berr t.berr (edge_of t 3) (edge_of t 8) k v
unfolding handshake_changes
error_after k t v =
    silent (bus_code 83) k (address_strobe_changes t) _ v (address_strobe_quiet (bus_code 83) k t v refl refl)
    ∙ (silent (bus_code 83) k (address_changes t) _ v (address_quiet (bus_code 83) k t v refl)
    ∙ (silent (bus_code 83) k (level_changes t) _ v (level_quiet (bus_code 83) k t v refl refl)
    ∙ (silent (bus_code 83) k (data_strobe_changes t) _ v (data_strobe_quiet (bus_code 83) k t v refl refl)
    ∙ (silent (bus_code 83) k (data_changes t) _ v (data_quiet (bus_code 83) k t v refl refl)))))
    ∙ error_after_own k t v
