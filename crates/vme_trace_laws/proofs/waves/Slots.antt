-- The variables of a slot in an event.
use Rattle.std.proofs.Common.{◌≡◌, ◌≢◌, ℕ, ◌+◌, ◌<◌, ◌&&◌, ◌==◌, Bool, true, false, not, if◌then◌else◌, List, ◌++◌, Option, Some, None, refl, ◌∙◌, arith, inl, inr}
use Rattle.std.specs.Prelude.{is_some}
use Rattle.std.proofs.lemmas.Bool.{cases_Bool, ne_eqb, eq-eqb}
use Rattle.vme_core.specs.declared.event.EventReply.{EventReply}
use Rattle.vme_core.specs.declared.event.EventReply.TheVariants as replies
use Rattle.vme_trace.specs.declared.observation.activity.Activity.{Activity}
use Rattle.vme_trace.specs.declared.observation.activity.Activity.TheVariants.{Local}
use Rattle.vme_trace.specs.declared.observation.Observation.{Observation}
use Rattle.vme_trace.specs.declared.dump.change.Code.{Code}
use Rattle.vme_trace.specs.declared.dump.change.Value.{Value}
use Rattle.vme_trace.specs.declared.dump.change.Value.TheVariants.{Low, High, Free, Released, Number, Lanes, Grants}
use Rattle.vme_trace.specs.declared.dump.port.PortAccess.{PortAccess}
use Rattle.vme_trace.specs.Changes.{level_of, change_if, no_lanes}
use Rattle.vme_trace.specs.Variables.{bus_code, slot_code}
use Rattle.vme_trace.specs.Ports as port
use Rattle.vme_trace.specs.Ports.{port_access, last_edge, lanes_if, control_changes, bytes_changes, reply_changes, port_changes}
use Rattle.vme_trace.specs.Slots.{requests, releases, release_edge, grant_edge, is_granted, passes_grant, grant_lines, selects, opens, has_ended, end_edge, line_changes, request_changes, chain_changes, busy_changes, select_changes, access_changes, local_changes, own_port_changes, slot_changes}
use Rattle.vme_trace.specs.Events.{bus_changes, event_changes}
use Rattle.vme_trace.specs.Shown.{is_code, value_after, value_at}
use Rattle.vme_trace_laws.proofs.waves.Afters.{own, last_own, silent, after_append}
use Rattle.vme_trace_laws.proofs.waves.Pulses.{pulse}
use Rattle.vme_trace_laws.proofs.waves.Quiet.{IsQuiet, none_quiet, if_quiet, append_quiet, own_of_each}
use Rattle.vme_trace_laws.proofs.waves.Values.{pulse_at, at_pulse}
use Rattle.vme_trace_laws.proofs.waves.Events.{slot_bus_quiet}

-- the number of the line moves no other variable
pub line_quiet : (code : Code) (o : Observation) (j : ℕ) → is_code code (slot_code j 97) ≡ false → IsQuiet code (line_changes o j)
unfolding line_changes
line_quiet code o j apart =
    append_quiet code (change_if (o.board == j) 0 (slot_code j 97) (Number 10 o.line)) (change_if (o.board == j && o.ended) 19 (slot_code j 97) Released)
    (if_quiet code (slot_code j 97) (o.board == j) 0 (Number 10 o.line) apart)
    (if_quiet code (slot_code j 97) (o.board == j && o.ended) 19 Released apart)

-- the bus request line of the slot moves no other variable
pub request_quiet : (code : Code) (o : Observation) (j : ℕ) → is_code code (slot_code j 98) ≡ false → IsQuiet code (request_changes o j)
unfolding request_changes
request_quiet code o j apart =
    append_quiet code (change_if (o.board == j && requests o.activity) 0 (slot_code j 98) Low) (change_if (is_granted o.grant j) (grant_edge o.activity + 2) (slot_code j 98) High)
    (if_quiet code (slot_code j 98) (o.board == j && requests o.activity) 0 Low apart)
    (if_quiet code (slot_code j 98) (is_granted o.grant j) (grant_edge o.activity + 2) High apart)

-- the daisy chain moves no other variable
pub chain_quiet : (code : Code) (o : Observation) (j : ℕ) → is_code code (slot_code j 99) ≡ false → IsQuiet code (chain_changes o j)
unfolding chain_changes
chain_quiet code o j apart =
    append_quiet code (change_if (passes_grant o.grant j) (grant_edge o.activity) (slot_code j 99) (Grants (grant_lines o.grant)))
    (change_if (passes_grant o.grant j) (grant_edge o.activity + 3) (slot_code j 99) (Grants 15))
    (if_quiet code (slot_code j 99) (passes_grant o.grant j) (grant_edge o.activity) (Grants (grant_lines o.grant)) apart)
    (if_quiet code (slot_code j 99) (passes_grant o.grant j) (grant_edge o.activity + 3) (Grants 15) apart)

-- BBSY* of the slot moves no other variable
pub busy_quiet : (code : Code) (o : Observation) (j : ℕ) → is_code code (slot_code j 100) ≡ false → IsQuiet code (busy_changes o j)
unfolding busy_changes
busy_quiet code o j apart =
    append_quiet code (change_if (o.board == j && releases o.activity) (release_edge o.activity) (slot_code j 100) High)
    (change_if (is_granted o.grant j) (grant_edge o.activity + 1) (slot_code j 100) Low)
    (if_quiet code (slot_code j 100) (o.board == j && releases o.activity) (release_edge o.activity) High apart)
    (if_quiet code (slot_code j 100) (is_granted o.grant j) (grant_edge o.activity + 1) Low apart)

-- the selection of the board moves no other variable
pub select_quiet : (code : Code) (o : Observation) (j : ℕ) → is_code code (slot_code j 101) ≡ false → IsQuiet code (select_changes o j)
unfolding select_changes
select_quiet code o j apart =
    append_quiet code (change_if (selects o.activity j && opens o.activity) 1 (slot_code j 101) High)
    (change_if (selects o.activity j && has_ended o) (end_edge o) (slot_code j 101) Low)
    (if_quiet code (slot_code j 101) (selects o.activity j && opens o.activity) 1 High apart)
    (if_quiet code (slot_code j 101) (selects o.activity j && has_ended o) (end_edge o) Low apart)

-- a code is none of the variables of a board's local port
pub record IsNoPort (code : Code) (j : ℕ) : Type 0 where
  pub chip : is_code code (slot_code j 102) ≡ false
  pub write : is_code code (slot_code j 103) ≡ false
  pub address : is_code code (slot_code j 104) ≡ false
  pub lanes : is_code code (slot_code j 105) ≡ false
  pub acknowledge : is_code code (slot_code j 106) ≡ false
  pub error : is_code code (slot_code j 107) ≡ false

-- lanes with bytes, if there are some, move no other variable
lanes_quiet : (code other : Code) (lanes : Option (List (Option ℕ))) (edge : ℕ) → is_code code other ≡ false → IsQuiet code (lanes_if lanes edge other)
lanes_quiet code other None edge apart = none_quiet code
lanes_quiet code other (Some lanes) edge apart = if_quiet code other true edge (Lanes lanes) apart

-- the select line of a local port moves no other variable
pub chip_quiet : (code : Code) (j : ℕ) (a : PortAccess) → is_code code (slot_code j 102) ≡ false → IsQuiet code (port.select_changes j a)
unfolding port.select_changes
chip_quiet code j a apart =
    append_quiet code (change_if true 1 (slot_code j 102) High) (change_if true (last_edge a 6) (slot_code j 102) Low)
    (if_quiet code (slot_code j 102) true 1 High apart) (if_quiet code (slot_code j 102) true (last_edge a 6) Low apart)

-- the write line and the offset of a local port move no other variable
pub control_quiet : (code : Code) (j : ℕ) (a : PortAccess) → is_code code (slot_code j 103) ≡ false → is_code code (slot_code j 104) ≡ false
    → IsQuiet code (control_changes j a)
unfolding control_changes
control_quiet code j a write address k v =
    silent code k (change_if true 0 (slot_code j 103) (level_of a.write)) _ v (if_quiet code (slot_code j 103) true 0 (level_of a.write) write k v)
    ∙ (silent code k (change_if (is_some a.new) 10 (slot_code j 103) High) _ v (if_quiet code (slot_code j 103) (is_some a.new) 10 High write k v)
    ∙ (silent code k (change_if true (last_edge a 9) (slot_code j 103) Free) _ v (if_quiet code (slot_code j 103) true (last_edge a 9) Free write k v)
    ∙ (silent code k (change_if true 0 (slot_code j 104) (Number 32 a.offset)) _ v (if_quiet code (slot_code j 104) true 0 (Number 32 a.offset) address k v)
    ∙ if_quiet code (slot_code j 104) true (last_edge a 9) Released address k v)))

-- the data of a local port move no other variable
pub bytes_quiet : (code : Code) (j : ℕ) (a : PortAccess) → is_code code (slot_code j 105) ≡ false → IsQuiet code (bytes_changes j a)
unfolding bytes_changes
bytes_quiet code j a apart k v =
    silent code k (lanes_if a.bytes (if a.write then 1 else 3) (slot_code j 105)) _ v
    (lanes_quiet code (slot_code j 105) a.bytes (if a.write then 1 else 3) apart k v)
    ∙ (silent code k (change_if (is_some a.bytes) 8 (slot_code j 105) no_lanes) _ v (if_quiet code (slot_code j 105) (is_some a.bytes) 8 no_lanes apart k v)
    ∙ (silent code k (lanes_if a.new 10 (slot_code j 105)) _ v (lanes_quiet code (slot_code j 105) a.new 10 apart k v)
    ∙ if_quiet code (slot_code j 105) (is_some a.new) 17 no_lanes apart k v))

-- the reply of a local port moves no other variable
pub reply_quiet : (code : Code) (j : ℕ) (a : PortAccess) → is_code code (slot_code j 106) ≡ false → is_code code (slot_code j 107) ≡ false
    → IsQuiet code (reply_changes j a)
unfolding reply_changes
reply_quiet code j a done error k v =
    silent code k (change_if (not a.berr) 4 (slot_code j 106) High) _ v (if_quiet code (slot_code j 106) (not a.berr) 4 High done k v)
    ∙ (silent code k (change_if (not a.berr) 9 (slot_code j 106) Low) _ v (if_quiet code (slot_code j 106) (not a.berr) 9 Low done k v)
    ∙ (silent code k (change_if (is_some a.new) 13 (slot_code j 106) High) _ v (if_quiet code (slot_code j 106) (is_some a.new) 13 High done k v)
    ∙ (silent code k (change_if (is_some a.new) 18 (slot_code j 106) Low) _ v (if_quiet code (slot_code j 106) (is_some a.new) 18 Low done k v)
    ∙ (silent code k (change_if a.berr 4 (slot_code j 107) High) _ v (if_quiet code (slot_code j 107) a.berr 4 High error k v)
    ∙ if_quiet code (slot_code j 107) a.berr 9 Low error k v))))

-- an access by a local port moves no other variable
access_quiet : (code : Code) (j : ℕ) (found : Option PortAccess) → IsNoPort code j → IsQuiet code (access_changes j found)
unfolding port_changes
access_quiet code j None none k v = none_quiet code k v
access_quiet code j (Some a) none k v =
    silent code k (port.select_changes j a) _ v (chip_quiet code j a none.chip k v)
    ∙ (silent code k (control_changes j a) _ v (control_quiet code j a none.write none.address k v)
    ∙ (silent code k (bytes_changes j a) _ v (bytes_quiet code j a none.lanes k v) ∙ reply_quiet code j a none.acknowledge none.error k v))

-- what a local port does moves no other variable
local_quiet : (code : Code) (j : ℕ) (activity : Activity) (reply : EventReply) → IsNoPort code j → IsQuiet code (local_changes j activity reply)
local_quiet code j (Local cmd) (replies.Board reply) none = access_quiet code j (port_access cmd reply) none
local_quiet code j activity reply none = none_quiet code

-- the local port of a board moves no other variable
pub port_quiet : (code : Code) (o : Observation) (j : ℕ) → IsNoPort code j → IsQuiet code (own_port_changes o j)
unfolding own_port_changes
port_quiet code o j none k v =
    elim (cases_Bool (o.board == j)) [
      | inl own ↦ rw own (local_quiet code j o.activity o.reply none k v)
      | inr other ↦ rw other (none_quiet code k v)
    ]

-- the variables of a slot leave those of the bus alone
pub bus_quiet : (letter : ℕ) (o : Observation) (j : ℕ) → IsQuiet (bus_code letter) (slot_changes o j)
unfolding slot_changes
bus_quiet letter o j k v =
    let code : Code = bus_code letter in
    let none : IsNoPort code j = record { chip = refl; write = refl; address = refl; lanes = refl; acknowledge = refl; error = refl } in
    silent code k (line_changes o j) _ v (line_quiet code o j refl k v)
    ∙ (silent code k (request_changes o j) _ v (request_quiet code o j refl k v)
    ∙ (silent code k (chain_changes o j) _ v (chain_quiet code o j refl k v)
    ∙ (silent code k (busy_changes o j) _ v (busy_quiet code o j refl k v)
    ∙ append_quiet code (select_changes o j) (own_port_changes o j) (select_quiet code o j refl) (port_quiet code o j none) k v)))

-- a condition that does not hold
both_false : (b : Bool) → b && false ≡ false
both_false false = refl
both_false true = refl

-- a variable of another slot is another variable
other_slot : (board j letter x : ℕ) → j ≢ board → is_code (slot_code board letter) (slot_code j x) ≡ false
other_slot board j letter x apart = rw (ne_eqb (97 + j) (97 + board) (λ is. apart (omega (arith, is)))) (both_false (x == letter))

-- the variables of another slot leave a variable of a slot alone
other_quiet : (board letter : ℕ) (o : Observation) (j : ℕ) → j ≢ board → IsQuiet (slot_code board letter) (slot_changes o j)
unfolding slot_changes
other_quiet board letter o j apart k v =
    let code : Code = slot_code board letter in
    let off : (x : ℕ) → is_code code (slot_code j x) ≡ false = λ x. other_slot board j letter x apart in
    let none : IsNoPort code j = record { chip = off 102; write = off 103; address = off 104; lanes = off 105; acknowledge = off 106; error = off 107 } in
    silent code k (line_changes o j) _ v (line_quiet code o j (off 97) k v)
    ∙ (silent code k (request_changes o j) _ v (request_quiet code o j (off 98) k v)
    ∙ (silent code k (chain_changes o j) _ v (chain_quiet code o j (off 99) k v)
    ∙ (silent code k (busy_changes o j) _ v (busy_quiet code o j (off 100) k v)
    ∙ append_quiet code (select_changes o j) (own_port_changes o j) (select_quiet code o j (off 101)) (port_quiet code o j none) k v)))

-- a variable of a slot is moved by the changes of that slot alone
pub slot_part : (letter boards n : ℕ) (o : Observation) (board : ℕ) → board < boards → (k : ℕ) (v : Value)
    → value_after (slot_code board letter) k (event_changes boards n o) v ≡ value_after (slot_code board letter) k (slot_changes o board) v
unfolding event_changes
slot_part letter boards n o board there k v =
    silent (slot_code board letter) k (bus_changes n o) _ v (slot_bus_quiet board letter n o k v)
    ∙ own_of_each (slot_code board letter) (slot_changes o) board 0 boards (λ j apart. other_quiet board letter o j apart) (omega arith) (omega (arith, there)) k v

-- BBSY* of a slot is moved by its own changes alone
busy_of_slot : (o : Observation) (j k : ℕ) (v : Value)
    → value_after (slot_code j 100) k (slot_changes o j) v ≡ value_after (slot_code j 100) k (busy_changes o j) v
unfolding slot_changes
busy_of_slot o j k v =
    let code : Code = slot_code j 100 in
    let none : IsNoPort code j = record { chip = refl; write = refl; address = refl; lanes = refl; acknowledge = refl; error = refl } in
    silent code k (line_changes o j) _ v (line_quiet code o j refl k v)
    ∙ (silent code k (request_changes o j) _ v (request_quiet code o j refl k v)
    ∙ (silent code k (chain_changes o j) _ v (chain_quiet code o j refl k v)
    ∙ (after_append code k (busy_changes o j) (select_changes o j ++ own_port_changes o j) v
    ∙ append_quiet code (select_changes o j) (own_port_changes o j) (select_quiet code o j refl) (port_quiet code o j none) k
    (value_after code k (busy_changes o j) v))))

-- BBSY* of a slot in its own changes
busy_own : (o : Observation) (board k : ℕ) (v : Value)
    → value_after (slot_code board 100) k (busy_changes o board) v
    ≡ pulse High Low (o.board == board && releases o.activity) (is_granted o.grant board) (release_edge o.activity) (grant_edge o.activity + 1) k v
unfolding busy_changes
busy_own o board k v =
    let code : Code = slot_code board 100 in
    let same : is_code code code ≡ true = eq-eqb (97 + board) (97 + board) refl in
    own code k (o.board == board && releases o.activity) (release_edge o.activity) High _ v same
    ∙ last_own code k (is_granted o.grant board) (grant_edge o.activity + 1) Low _ same

-- BBSY* of a slot in an event
busy_after : (boards n : ℕ) (o : Observation) (board : ℕ) → board < boards → (k : ℕ) (v : Value)
    → value_after (slot_code board 100) k (event_changes boards n o) v
    ≡ pulse High Low (o.board == board && releases o.activity) (is_granted o.grant board) (release_edge o.activity) (grant_edge o.activity + 1) k v
busy_after boards n o board there k v = slot_part 100 boards n o board there k v ∙ busy_of_slot o board k v ∙ busy_own o board k v

-- BBSY* of a slot at an edge of an event
pub busy_at : (boards n : ℕ) (o : Observation) (board : ℕ) → board < boards → (k : ℕ) (before : Value)
    → value_at (slot_code board 100) (event_changes boards n o) before k
    ≡ pulse_at High Low (o.board == board && releases o.activity) (is_granted o.grant board) (release_edge o.activity) (grant_edge o.activity + 1) k before
busy_at boards n o board there k before =
    at_pulse (slot_code board 100) (event_changes boards n o) High Low before (o.board == board && releases o.activity) (is_granted o.grant board)
    (release_edge o.activity) (grant_edge o.activity + 1) (omega arith) (busy_after boards n o board there) k
