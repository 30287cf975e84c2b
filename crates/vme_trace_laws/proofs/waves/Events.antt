-- The variables of the bus in an event.
use Rattle.std.proofs.Common.{◌≡◌, ℕ, ◌+◌, true, false, Option, Some, None, refl, ◌∙◌}
use Rattle.std.specs.Prelude.{is_some}
use Rattle.vme_trace.specs.declared.observation.Observation.{Observation}
use Rattle.vme_trace.specs.declared.dump.change.Code.{Code}
use Rattle.vme_trace.specs.declared.dump.change.Value.TheVariants.{Low, High, Released, Number}
use Rattle.vme_trace.specs.declared.dump.handshake.Handshake.{Handshake}
use Rattle.vme_trace.specs.Changes.{change_if}
use Rattle.vme_trace.specs.Variables.{bus_code, slot_code, code_of}
use Rattle.vme_trace.specs.Handshakes.{first_handshake, second_handshake}
use Rattle.vme_trace.specs.Bus.{some_handshake_changes}
use Rattle.vme_trace.specs.Slots.{requests, releases, release_edge, grant_edge}
use Rattle.vme_trace.specs.declared.dump.variable.Variable.TheVariants.{BusRequest}
use Rattle.vme_trace.specs.Events.{grant_slot, grant_level, is_alone, name_changes, holder_changes, request_line_changes, bus_changes}
use Rattle.vme_trace.specs.Shown.{is_code}
use Rattle.vme_trace_laws.proofs.waves.Afters.{silent}
use Rattle.vme_trace_laws.proofs.waves.Quiet.{IsQuiet, none_quiet, if_quiet, append_quiet, IsNoLine, handshake_quiet}

-- the number of the event and its slot move no other variable
pub name_quiet : (code : Code) (n : ℕ) (o : Observation) → is_code code (bus_code 65) ≡ false → is_code code (bus_code 66) ≡ false
    → IsQuiet code (name_changes n o)
unfolding name_changes
name_quiet code n o first second =
    append_quiet code (change_if true 0 (bus_code 65) (Number 32 n)) (change_if true 0 (bus_code 66) (Number 5 o.slot))
    (if_quiet code (bus_code 65) true 0 (Number 32 n) first) (if_quiet code (bus_code 66) true 0 (Number 5 o.slot) second)

-- the holder and BBSY* move no other variable
pub holder_quiet : (code : Code) (o : Observation) → is_code code (bus_code 67) ≡ false → is_code code (bus_code 68) ≡ false
    → IsQuiet code (holder_changes o)
unfolding holder_changes
holder_quiet code o holder busy k v =
    silent code k (change_if (releases o.activity) (release_edge o.activity) (bus_code 67) Released) _ v
    (if_quiet code (bus_code 67) (releases o.activity) (release_edge o.activity) Released holder k v)
    ∙ (silent code k (change_if (is_some o.grant) (grant_edge o.activity + 1) (bus_code 67) (Number 5 (grant_slot o.grant))) _ v
    (if_quiet code (bus_code 67) (is_some o.grant) (grant_edge o.activity + 1) (Number 5 (grant_slot o.grant)) holder k v)
    ∙ (silent code k (change_if (releases o.activity) (release_edge o.activity) (bus_code 68) High) _ v
    (if_quiet code (bus_code 68) (releases o.activity) (release_edge o.activity) High busy k v)
    ∙ if_quiet code (bus_code 68) (is_some o.grant) (grant_edge o.activity + 1) Low busy k v))

-- BR3* to BR0* move no other variable
pub request_line_quiet : (code : Code) (o : Observation) → ((level : ℕ) → is_code code (code_of (BusRequest level)) ≡ false)
    → IsQuiet code (request_line_changes o)
unfolding request_line_changes
request_line_quiet code o apart =
    append_quiet code (change_if (requests o.activity) 0 (code_of (BusRequest o.level)) Low)
    (change_if (is_alone o.grant) (grant_edge o.activity + 2) (code_of (BusRequest (grant_level o.grant))) High)
    (if_quiet code (code_of (BusRequest o.level)) (requests o.activity) 0 Low (apart o.level))
    (if_quiet code (code_of (BusRequest (grant_level o.grant))) (is_alone o.grant) (grant_edge o.activity + 2) High (apart (grant_level o.grant)))

-- a handshake, if there is one, moves no other variable
pub some_quiet : (code : Code) (found : Option Handshake) → IsNoLine code → IsQuiet code (some_handshake_changes found)
some_quiet code None none = none_quiet code
some_quiet code (Some t) none = handshake_quiet code t none

-- a slot's variable is no line of a cycle
slot_no_line : (board letter : ℕ) → IsNoLine (slot_code board letter)
slot_no_line board letter = record {
  strobe = refl;
  modifier = refl;
  address = refl;
  long_word = refl;
  write = refl;
  strobe_1 = refl;
  strobe_0 = refl;
  lanes = refl;
  upper_lanes = refl;
  acknowledge = refl;
  error = refl;
}

-- the variables of the bus leave a slot's variable alone
pub slot_bus_quiet : (board letter n : ℕ) (o : Observation) → IsQuiet (slot_code board letter) (bus_changes n o)
unfolding bus_changes
slot_bus_quiet board letter n o k v =
    let code : Code = slot_code board letter in
    silent code k (name_changes n o) _ v (name_quiet code n o refl refl k v)
    ∙ (silent code k (holder_changes o) _ v (holder_quiet code o refl refl k v)
    ∙ (silent code k (request_line_changes o) _ v (request_line_quiet code o (λ level. refl) k v)
    ∙ append_quiet code (some_handshake_changes (first_handshake o.activity o.reply)) (some_handshake_changes (second_handshake o.activity o.reply))
    (some_quiet code (first_handshake o.activity o.reply) (slot_no_line board letter))
    (some_quiet code (second_handshake o.activity o.reply) (slot_no_line board letter)) k v))
