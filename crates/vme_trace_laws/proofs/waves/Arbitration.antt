-- The number of the event, the holder of the bus and BBSY* in an event.
use Rattle.std.proofs.Common.{◌≡◌, ℕ, ◌+◌, ◌-◌, ◌<◌, ◌≤◌, ◌++◌, true, false, refl, ◌∙◌, arith}
use Rattle.std.specs.Prelude.{flat_map, is_some}
use Rattle.std.specs.List.{range_with_len}
use Rattle.std.proofs.lemmas.Bool.{ne_eqb}
use Rattle.vme_trace.specs.declared.observation.Observation.{Observation}
use Rattle.vme_trace.specs.declared.dump.change.Code.{Code}
use Rattle.vme_trace.specs.declared.dump.change.Value.{Value}
use Rattle.vme_trace.specs.declared.dump.change.Value.TheVariants.{Low, High, Released, Number}
use Rattle.vme_trace.specs.Changes.{change_if}
use Rattle.vme_trace.specs.Variables.{bus_code, code_of}
use Rattle.vme_trace.specs.Handshakes.{first_handshake, second_handshake}
use Rattle.vme_trace.specs.Bus.{some_handshake_changes}
use Rattle.vme_trace.specs.Slots.{requests, releases, release_edge, grant_edge, slot_changes}
use Rattle.vme_trace.specs.declared.dump.variable.Variable.TheVariants.{BusRequest}
use Rattle.vme_trace.specs.Events.{grant_slot, grant_level, is_alone, name_changes, holder_changes, request_line_changes, bus_changes, event_changes}
use Rattle.vme_trace.specs.Shown.{is_code, value_after, value_at}
use Rattle.vme_trace_laws.proofs.waves.Afters.{other, last_other, own, last_own, silent, after_append}
use Rattle.vme_trace_laws.proofs.waves.Pulses.{pulse}
use Rattle.vme_trace_laws.proofs.waves.Quiet.{IsQuiet, if_quiet, append_quiet, IsNoLine, each_quiet}
use Rattle.vme_trace_laws.proofs.waves.Values.{pulse_at, at_pulse}
use Rattle.vme_trace_laws.proofs.waves.Events.{name_quiet, holder_quiet, some_quiet}
use Rattle.vme_trace_laws.proofs.waves.Slots.{bus_quiet}

-- the letter of a bus request line is none of the variables before them
request_apart : (x level : ℕ) → x ≤ 68 → level ≤ 3 → is_code (bus_code x) (code_of (BusRequest level)) ≡ false
request_apart x level below lawful = ne_eqb (72 - level) x (λ same. absurd (omega (arith, same, below, lawful)))

-- the levels of an event are lawful
pub record HasLevels (o : Observation) : Type 0 where
  pub own : o.level ≤ 3
  pub granted : grant_level o.grant ≤ 3

-- the bus request lines move none of the variables before them
lines_quiet : (x : ℕ) (o : Observation) → x ≤ 68 → HasLevels o → IsQuiet (bus_code x) (request_line_changes o)
unfolding request_line_changes
lines_quiet x o below levels =
    append_quiet (bus_code x) (change_if (requests o.activity) 0 (code_of (BusRequest o.level)) Low)
    (change_if (is_alone o.grant) (grant_edge o.activity + 2) (code_of (BusRequest (grant_level o.grant))) High)
    (if_quiet (bus_code x) (code_of (BusRequest o.level)) (requests o.activity) 0 Low (request_apart x o.level below levels.own))
    (if_quiet (bus_code x) (code_of (BusRequest (grant_level o.grant))) (is_alone o.grant) (grant_edge o.activity + 2) High
    (request_apart x (grant_level o.grant) below levels.granted))

-- handshakes and slots move none of the variables of arbitration
rest_quiet : (x : ℕ) (o : Observation) → IsNoLine (bus_code x)
    → IsQuiet (bus_code x) (some_handshake_changes (first_handshake o.activity o.reply) ++ some_handshake_changes (second_handshake o.activity o.reply))
rest_quiet x o none =
    append_quiet (bus_code x) (some_handshake_changes (first_handshake o.activity o.reply)) (some_handshake_changes (second_handshake o.activity o.reply))
    (some_quiet (bus_code x) (first_handshake o.activity o.reply) none) (some_quiet (bus_code x) (second_handshake o.activity o.reply) none)

-- a variable before the lines of a cycle is none of them
no_line : (x : ℕ) → x ≤ 72 → IsNoLine (bus_code x)
no_line x below = record {
  strobe = later 73 (omega arith);
  modifier = later 74 (omega arith);
  address = later 75 (omega arith);
  long_word = later 76 (omega arith);
  write = later 77 (omega arith);
  strobe_1 = later 78 (omega arith);
  strobe_0 = later 79 (omega arith);
  lanes = later 80 (omega arith);
  upper_lanes = later 81 (omega arith);
  acknowledge = later 82 (omega arith);
  error = later 83 (omega arith);
}
  where
    later : (y : ℕ) → 72 < y → is_code (bus_code x) (bus_code y) ≡ false
    later y past = ne_eqb y x (λ same. absurd (omega (arith, same, past, below)))

-- slots move no variable of the bus
bus_part : (x boards n : ℕ) (o : Observation) (k : ℕ) (v : Value)
    → value_after (bus_code x) k (event_changes boards n o) v ≡ value_after (bus_code x) k (bus_changes n o) v
unfolding event_changes
bus_part x boards n o k v =
    after_append (bus_code x) k (bus_changes n o) (flat_map (slot_changes o) (range_with_len 0 boards)) v
    ∙ each_quiet (bus_code x) (slot_changes o) (range_with_len 0 boards) (λ j. bus_quiet x o j) k (value_after (bus_code x) k (bus_changes n o) v)

-- the number of the event in its own changes
number_own : (n : ℕ) (o : Observation) (k : ℕ) (v : Value) → value_after (bus_code 65) k (name_changes n o) v ≡ pulse (Number 32 n) (Number 32 n) true false 0 1 k v
unfolding name_changes
number_own n o k v =
    own (bus_code 65) k true 0 (Number 32 n) _ v refl ∙ last_other (bus_code 65) 66 k true 0 (Number 5 o.slot) _ refl

-- the number of the event
number_after : (boards n : ℕ) (o : Observation) → HasLevels o → (k : ℕ) (v : Value)
    → value_after (bus_code 65) k (event_changes boards n o) v ≡ pulse (Number 32 n) (Number 32 n) true false 0 1 k v
unfolding bus_changes
number_after boards n o levels k v =
    let code : Code = bus_code 65 in
    let w = value_after code k (name_changes n o) v in
    bus_part 65 boards n o k v
    ∙ after_append code k (name_changes n o) _ v
    ∙ silent code k (holder_changes o) _ w (holder_quiet code o refl refl k w)
    ∙ silent code k (request_line_changes o) _ w (lines_quiet 65 o (omega arith) levels k w)
    ∙ rest_quiet 65 o (no_line 65 (omega arith)) k w
    ∙ number_own n o k v

-- after an event the variable has its number
pub number_at : (boards n : ℕ) (o : Observation) (before : Value) → HasLevels o → value_at (bus_code 65) (event_changes boards n o) before 19 ≡ Number 32 n
number_at boards n o before levels =
    at_pulse (bus_code 65) (event_changes boards n o) (Number 32 n) (Number 32 n) before true false 0 1 (omega arith) (number_after boards n o levels) 19

-- the holder in its own changes
holder_own : (o : Observation) (k : ℕ) (v : Value)
    → value_after (bus_code 67) k (holder_changes o) v
    ≡ pulse Released (Number 5 (grant_slot o.grant)) (releases o.activity) (is_some o.grant) (release_edge o.activity) (grant_edge o.activity + 1) k v
unfolding holder_changes
holder_own o k v =
    own (bus_code 67) k (releases o.activity) (release_edge o.activity) Released _ v refl
    ∙ (own (bus_code 67) k (is_some o.grant) (grant_edge o.activity + 1) (Number 5 (grant_slot o.grant)) _ _ refl
    ∙ (other (bus_code 67) 68 k (releases o.activity) (release_edge o.activity) High _ _ refl
    ∙ last_other (bus_code 67) 68 k (is_some o.grant) (grant_edge o.activity + 1) Low _ refl))

-- BBSY* in its own changes
busy_own : (o : Observation) (k : ℕ) (v : Value)
    → value_after (bus_code 68) k (holder_changes o) v
    ≡ pulse High Low (releases o.activity) (is_some o.grant) (release_edge o.activity) (grant_edge o.activity + 1) k v
unfolding holder_changes
busy_own o k v =
    other (bus_code 68) 67 k (releases o.activity) (release_edge o.activity) Released _ v refl
    ∙ (other (bus_code 68) 67 k (is_some o.grant) (grant_edge o.activity + 1) (Number 5 (grant_slot o.grant)) _ v refl
    ∙ (own (bus_code 68) k (releases o.activity) (release_edge o.activity) High _ v refl
    ∙ last_own (bus_code 68) k (is_some o.grant) (grant_edge o.activity + 1) Low _ refl))

-- the holder and BBSY* are moved by their own changes alone
holder_part : (x boards n : ℕ) (o : Observation) → x ≤ 68 → HasLevels o → is_code (bus_code x) (bus_code 65) ≡ false → is_code (bus_code x) (bus_code 66) ≡ false
    → IsNoLine (bus_code x) → (k : ℕ) (v : Value) → value_after (bus_code x) k (event_changes boards n o) v ≡ value_after (bus_code x) k (holder_changes o) v
unfolding bus_changes
holder_part x boards n o below levels first second none k v =
    let code : Code = bus_code x in
    let w = value_after code k (holder_changes o) v in
    bus_part x boards n o k v
    ∙ silent code k (name_changes n o) _ v (name_quiet code n o first second k v)
    ∙ after_append code k (holder_changes o) _ v
    ∙ silent code k (request_line_changes o) _ w (lines_quiet x o below levels k w)
    ∙ rest_quiet x o none k w

-- the holder at an edge of an event
pub holder_at : (boards n : ℕ) (o : Observation) → HasLevels o → (k : ℕ) (before : Value)
    → value_at (bus_code 67) (event_changes boards n o) before k
    ≡ pulse_at Released (Number 5 (grant_slot o.grant)) (releases o.activity) (is_some o.grant) (release_edge o.activity) (grant_edge o.activity + 1) k before
holder_at boards n o levels k before =
    at_pulse (bus_code 67) (event_changes boards n o) Released (Number 5 (grant_slot o.grant)) before (releases o.activity) (is_some o.grant)
    (release_edge o.activity) (grant_edge o.activity + 1) (omega arith)
    (λ i v. holder_part 67 boards n o (omega arith) levels refl refl (no_line 67 (omega arith)) i v ∙ holder_own o i v) k

-- BBSY* at an edge of an event
pub bus_busy_at : (boards n : ℕ) (o : Observation) → HasLevels o → (k : ℕ) (before : Value)
    → value_at (bus_code 68) (event_changes boards n o) before k
    ≡ pulse_at High Low (releases o.activity) (is_some o.grant) (release_edge o.activity) (grant_edge o.activity + 1) k before
bus_busy_at boards n o levels k before =
    at_pulse (bus_code 68) (event_changes boards n o) High Low before (releases o.activity) (is_some o.grant)
    (release_edge o.activity) (grant_edge o.activity + 1) (omega arith)
    (λ i v. holder_part 68 boards n o (omega arith) levels refl refl (no_line 68 (omega arith)) i v ∙ busy_own o i v) k
