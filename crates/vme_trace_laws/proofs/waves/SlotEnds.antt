-- The grant lines, the selection and the local port of a slot after an event.
use Rattle.std.proofs.Common.{◌≡◌, ℕ, ◌+◌, ◌<◌, ◌≤◌, ◌++◌, ◌&&◌, ◌==◌, Bool, true, false, not, if◌then◌else◌, List, [], Option, Some, None, is_some, refl, ap, sym, ◌∙◌, arith, inl, inr}
use Rattle.std.specs.Prelude.{nat_le}
use Rattle.std.proofs.lemmas.Bool.{cases_Bool, ne_eqb, eq-eqb, le-leb, leb-true}
use Rattle.vme_core.specs.declared.event.EventReply.{EventReply}
use Rattle.vme_core.specs.declared.event.EventReply.TheVariants as replies
use Rattle.vme_trace.specs.declared.observation.activity.Activity.{Activity}
use Rattle.vme_trace.specs.declared.observation.activity.Activity.TheVariants.{Requests, Polls, Releases, Transfers, Local, Other}
use Rattle.vme_trace.specs.declared.observation.Observation.{Observation}
use Rattle.vme_trace.specs.declared.dump.change.Code.{Code}
use Rattle.vme_trace.specs.declared.dump.change.Change.{Change}
use Rattle.vme_trace.specs.declared.dump.change.Value.{Value}
use Rattle.vme_trace.specs.declared.dump.change.Value.TheVariants.{Low, High, Grants}
use Rattle.vme_trace.specs.declared.dump.port.PortAccess.{PortAccess}
use Rattle.vme_trace.specs.Changes.{change_if}
use Rattle.vme_trace.specs.declared.dump.variable.Variable.{Variable}
use Rattle.vme_trace.specs.Variables.{slot_code, code_of}
use Rattle.vme_trace.specs.Ports as port
use Rattle.vme_trace.specs.Ports.{port_access, last_edge, control_changes, bytes_changes, reply_changes, port_changes}
use Rattle.vme_trace.specs.Slots.{grant_edge, passes_grant, grant_lines, selects, opens, has_ended, end_edge, line_changes, request_changes, chain_changes, busy_changes, select_changes, access_changes, local_changes, own_port_changes, slot_changes}
use Rattle.vme_trace.specs.Handshakes.{second_handshake}
use Rattle.vme_trace.specs.Events.{event_changes}
use Rattle.vme_trace.specs.Shown.{is_code, value_after, value_at}
use Rattle.vme_trace_laws.specs.Events.{IsPortLine}
use Rattle.vme_trace_laws.proofs.waves.Afters.{other, own, last_own, silent, after_append}
use Rattle.vme_trace_laws.proofs.waves.Pulses.{pulse}
use Rattle.vme_trace_laws.proofs.waves.Quiet.{none_quiet, if_quiet, append_quiet}
use Rattle.vme_trace_laws.proofs.waves.Values.{pulse_at, at_pulse, pulse_late}
use Rattle.vme_trace_laws.proofs.waves.Slots.{IsNoPort, line_quiet, request_quiet, chain_quiet, busy_quiet, select_quiet, port_quiet, chip_quiet, control_quiet, bytes_quiet, reply_quiet, slot_part}
use Rattle.vme_trace_laws.proofs.waves.Joined.{same_at, stays_at, late_at}
use Rattle.vme_trace_laws.proofs.waves.EventLines.{pulse_still, rest_by}

-- a variable of a slot is itself
own_code : (board letter : ℕ) → is_code (slot_code board letter) (slot_code board letter) ≡ true
own_code board letter = rw (eq-eqb letter letter refl, eq-eqb (97 + board) (97 + board) refl) refl

-- the edges of a grant are over before the end of an event
chain_within : (activity : Activity) → nat_le (grant_edge activity + 3) 19 ≡ true
chain_within Requests = refl
chain_within Polls = refl
chain_within (Releases None) = refl
chain_within (Releases (Some signals)) = refl
chain_within (Transfers datum) = refl
chain_within (Local cmd) = refl
chain_within Other = refl

module _ (o : Observation) (board : ℕ) where
  -- the grant lines of the slot are moved by their own changes alone
  chain_of_slot : (k : ℕ) (v : Value) → value_after (slot_code board 99) k (slot_changes o board) v ≡ value_after (slot_code board 99) k (chain_changes o board) v
  unfolding slot_changes
  chain_of_slot k v =
      let code : Code = slot_code board 99 in
      let none : IsNoPort code board = record { chip = refl; write = refl; address = refl; lanes = refl; acknowledge = refl; error = refl } in
      let w = value_after code k (chain_changes o board) v in
      silent code k (line_changes o board) _ v (line_quiet code o board refl k v)
      ∙ silent code k (request_changes o board) _ v (request_quiet code o board refl k v)
      ∙ after_append code k (chain_changes o board) _ v
      ∙ silent code k (busy_changes o board) _ w (busy_quiet code o board refl k w)
      ∙ append_quiet code (select_changes o board) (own_port_changes o board) (select_quiet code o board refl) (port_quiet code o board none) k w

  -- the grant lines in their own changes
  chain_own : (k : ℕ) (v : Value)
      → value_after (slot_code board 99) k (chain_changes o board) v
      ≡ pulse (Grants (grant_lines o.grant)) (Grants 15) (passes_grant o.grant board) (passes_grant o.grant board) (grant_edge o.activity) (grant_edge o.activity + 3) k v
  unfolding chain_changes
  chain_own k v =
      own (slot_code board 99) k (passes_grant o.grant board) (grant_edge o.activity) (Grants (grant_lines o.grant)) _ v (own_code board 99)
      ∙ last_own (slot_code board 99) k (passes_grant o.grant board) (grant_edge o.activity + 3) (Grants 15) _ (own_code board 99)

  -- the grant lines at an edge of an event
  pub chain_at : (boards n : ℕ) → board < boards → (k : ℕ) (before : Value)
      → value_at (slot_code board 99) (event_changes boards n o) before k
      ≡ pulse_at (Grants (grant_lines o.grant)) (Grants 15) (passes_grant o.grant board) (passes_grant o.grant board) (grant_edge o.activity)
      (grant_edge o.activity + 3) k before
  chain_at boards n there k before =
      let passes = passes_grant o.grant board in
      at_pulse (slot_code board 99) (event_changes boards n o) (Grants (grant_lines o.grant)) (Grants 15) before passes passes
      (grant_edge o.activity) (grant_edge o.activity + 3) (omega arith)
      (λ i v. slot_part 99 boards n o board there i v ∙ chain_of_slot i v ∙ chain_own i v) k

  -- after an event no grant line is low
  pub chain_rests : (boards n : ℕ) → board < boards → value_at (slot_code board 99) (event_changes boards n o) (Grants 15) 19 ≡ Grants 15
  chain_rests boards n there =
      let passes = passes_grant o.grant board in
      let over = chain_within o.activity in
      chain_at boards n there 19 (Grants 15)
      ∙ pulse_late (Grants (grant_lines o.grant)) (Grants 15) (Grants 15) passes passes (grant_edge o.activity) (grant_edge o.activity + 3) 19
      (le-leb (grant_edge o.activity) 19 (omega (arith, leb-true (grant_edge o.activity + 3) 19 over))) over
      ∙ rest_by passes (Grants (grant_lines o.grant)) (Grants 15)

  -- a variable of the local port is moved by the port's changes alone
  port_of_slot : (letter : ℕ) → 101 < letter → (k : ℕ) (v : Value)
      → value_after (slot_code board letter) k (slot_changes o board) v ≡ value_after (slot_code board letter) k (own_port_changes o board) v
  unfolding slot_changes
  port_of_slot letter past k v =
      let code : Code = slot_code board letter in
      silent code k (line_changes o board) _ v (line_quiet code o board (off 97 (omega arith)) k v)
      ∙ silent code k (request_changes o board) _ v (request_quiet code o board (off 98 (omega arith)) k v)
      ∙ silent code k (chain_changes o board) _ v (chain_quiet code o board (off 99 (omega arith)) k v)
      ∙ silent code k (busy_changes o board) _ v (busy_quiet code o board (off 100 (omega arith)) k v)
      ∙ silent code k (select_changes o board) _ v (select_quiet code o board (off 101 (omega arith)) k v)
    where
      off : (x : ℕ) → x ≤ 101 → is_code (slot_code board letter) (slot_code board x) ≡ false
      off x below = rw (ne_eqb x letter (λ same. absurd (omega (arith, same, below, past)))) refl

-- the select line of a local port in an access
chip_after : (board : ℕ) (a : PortAccess) (k : ℕ) (v : Value)
    → value_after (slot_code board 102) k (port_changes board a) v ≡ pulse High Low true true 1 (last_edge a 6) k v
unfolding port_changes port.select_changes
chip_after board a k v =
    let code : Code = slot_code board 102 in
    let w = value_after code k (port.select_changes board a) v in
    after_append code k (port.select_changes board a) _ v
    ∙ silent code k (control_changes board a) _ w (control_quiet code board a refl refl k w)
    ∙ append_quiet code (bytes_changes board a) (reply_changes board a) (bytes_quiet code board a refl) (reply_quiet code board a refl refl) k w
    ∙ own code k true 1 High _ v (own_code board 102)
    ∙ last_own code k true (last_edge a 6) Low _ (own_code board 102)

-- the error line of a local port in an access
error_after : (board : ℕ) (a : PortAccess) (k : ℕ) (v : Value)
    → value_after (slot_code board 107) k (port_changes board a) v ≡ pulse High Low a.berr a.berr 4 9 k v
unfolding port_changes reply_changes
error_after board a k v =
    let code : Code = slot_code board 107 in
    silent code k (port.select_changes board a) _ v (chip_quiet code board a refl k v)
    ∙ silent code k (control_changes board a) _ v (control_quiet code board a refl refl k v)
    ∙ silent code k (bytes_changes board a) _ v (bytes_quiet code board a refl k v)
    ∙ silent code k (change_if (not a.berr) 4 (slot_code board 106) High) _ v (if_quiet code (slot_code board 106) (not a.berr) 4 High refl k v)
    ∙ silent code k (change_if (not a.berr) 9 (slot_code board 106) Low) _ v (if_quiet code (slot_code board 106) (not a.berr) 9 Low refl k v)
    ∙ silent code k (change_if (is_some a.new) 13 (slot_code board 106) High) _ v (if_quiet code (slot_code board 106) (is_some a.new) 13 High refl k v)
    ∙ silent code k (change_if (is_some a.new) 18 (slot_code board 106) Low) _ v (if_quiet code (slot_code board 106) (is_some a.new) 18 Low refl k v)
    ∙ own code k a.berr 4 High _ v (own_code board 107)
    ∙ last_own code k a.berr 9 Low _ (own_code board 107)

-- the first answer of a local port
abbrev first_answer : ℕ → PortAccess → List Change
first_answer board a = change_if (not a.berr) 4 (slot_code board 106) High ++ change_if (not a.berr) 9 (slot_code board 106) Low

-- the second answer, in a read-modify-write
abbrev second_answer : ℕ → PortAccess → List Change
second_answer board a = change_if (is_some a.new) 13 (slot_code board 106) High ++ change_if (is_some a.new) 18 (slot_code board 106) Low

-- the first answer, edge by edge
first_after : (board : ℕ) (a : PortAccess) (k : ℕ) (v : Value)
    → value_after (slot_code board 106) k (first_answer board a) v ≡ pulse High Low (not a.berr) (not a.berr) 4 9 k v
first_after board a k v =
    own (slot_code board 106) k (not a.berr) 4 High _ v (own_code board 106) ∙ last_own (slot_code board 106) k (not a.berr) 9 Low _ (own_code board 106)

-- the second answer, edge by edge
second_after : (board : ℕ) (a : PortAccess) (k : ℕ) (v : Value)
    → value_after (slot_code board 106) k (second_answer board a) v ≡ pulse High Low (is_some a.new) (is_some a.new) 13 18 k v
second_after board a k v =
    own (slot_code board 106) k (is_some a.new) 13 High _ v (own_code board 106) ∙ last_own (slot_code board 106) k (is_some a.new) 18 Low _ (own_code board 106)

-- the answers of a local port in an access
answers_after : (board : ℕ) (a : PortAccess) (k : ℕ) (v : Value)
    → value_after (slot_code board 106) k (port_changes board a) v
    ≡ value_after (slot_code board 106) k (second_answer board a) (value_after (slot_code board 106) k (first_answer board a) v)
unfolding port_changes reply_changes
answers_after board a k v =
    let code : Code = slot_code board 106 in
    let w = pulse High Low (not a.berr) (not a.berr) 4 9 k v in
    silent code k (port.select_changes board a) _ v (chip_quiet code board a refl k v)
    ∙ silent code k (control_changes board a) _ v (control_quiet code board a refl refl k v)
    ∙ silent code k (bytes_changes board a) _ v (bytes_quiet code board a refl k v)
    ∙ own code k (not a.berr) 4 High _ v (own_code board 106)
    ∙ own code k (not a.berr) 9 Low _ _ (own_code board 106)
    ∙ own code k (is_some a.new) 13 High _ w (own_code board 106)
    ∙ own code k (is_some a.new) 18 Low _ _ (own_code board 106)
    ∙ append_quiet code (change_if a.berr 4 (slot_code board 107) High) (change_if a.berr 9 (slot_code board 107) Low)
    (if_quiet code (slot_code board 107) a.berr 4 High refl) (if_quiet code (slot_code board 107) a.berr 9 Low refl) k _
    ∙ sym (second_after board a k w) ∙ ap (value_after code k (second_answer board a)) (sym (first_after board a k v))

-- a line that is asserted once in a list of changes is not asserted after it
pulse_rests : (code : Code) (changes : List Change) (moves : Bool) (down up k : ℕ) → down < up → up ≤ k
    → ((i : ℕ) (v : Value) → value_after code i changes v ≡ pulse High Low moves moves down up i v) → value_at code changes Low k ≡ Low
pulse_rests code changes moves down up k order past each =
    at_pulse code changes High Low Low moves moves down up order each k
    ∙ pulse_late High Low Low moves moves down up k (le-leb down k (omega (arith, order, past))) (le-leb up k past)
    ∙ rest_by moves High Low

-- the last edge of an access
last_within : (new : Bool) → (if new then 16 else 7) ≤ 19
last_within false = omega arith
last_within true = omega arith

-- the first edge of an access comes before the last
last_order : (new : Bool) → 1 < (if new then 16 else 7)
last_order false = omega arith
last_order true = omega arith

-- the select line of a local port is at rest after an access
chip_rests : (board : ℕ) (a : PortAccess) → value_at (slot_code board 102) (port_changes board a) Low 19 ≡ Low
chip_rests board a =
    pulse_rests (slot_code board 102) (port_changes board a) true 1 (last_edge a 6) 19 (last_order (is_some a.new)) (last_within (is_some a.new)) (chip_after board a)

-- its answer is at rest after an access
answer_rests : (board : ℕ) (a : PortAccess) → value_at (slot_code board 106) (port_changes board a) Low 19 ≡ Low
answer_rests board a =
    let code : Code = slot_code board 106 in
    late_at code (port_changes board a) (first_answer board a) (second_answer board a) 9 (answers_after board a)
    (λ k past v. first_after board a k v ∙ pulse_still High Low (not a.berr) 4 9 k v (λ same. omega (arith, same, past)) (λ same. omega (arith, same, past)))
    (λ k soon v. second_after board a k v ∙ pulse_still High Low (is_some a.new) 13 18 k v (λ same. omega (arith, same, soon)) (λ same. omega (arith, same, soon)))
    Low 19 (omega arith)
    ∙ ap (λ (v : Value). value_at code (second_answer board a) v 19)
    (pulse_rests code (first_answer board a) (not a.berr) 4 9 9 (omega arith) (omega arith) (first_after board a))
    ∙ pulse_rests code (second_answer board a) (is_some a.new) 13 18 19 (omega arith) (omega arith) (second_after board a)

-- its error line is at rest after an access
error_rests : (board : ℕ) (a : PortAccess) → value_at (slot_code board 107) (port_changes board a) Low 19 ≡ Low
error_rests board a = pulse_rests (slot_code board 107) (port_changes board a) a.berr 4 9 19 (omega arith) (omega arith) (error_after board a)

module _ (code : Code) (board : ℕ) (each : (a : PortAccess) → value_at code (port_changes board a) Low 19 ≡ Low) where
  -- without an access nothing moves
  idle_rests : value_at code [] Low 19 ≡ Low
  idle_rests = stays_at code [] 19 (λ k soon v. none_quiet code k v) Low 19 (omega arith)

  -- after an access, if there is one
  access_rests : (found : Option PortAccess) → value_at code (access_changes board found) Low 19 ≡ Low
  access_rests None = idle_rests
  access_rests (Some a) = each a

  -- after what a processor does
  local_rests : (activity : Activity) (reply : EventReply) → value_at code (local_changes board activity reply) Low 19 ≡ Low
  local_rests (Local cmd) (replies.Board reply) = access_rests (port_access cmd reply)
  local_rests activity reply = idle_rests

  -- after an event
  own_rests : (o : Observation) → value_at code (own_port_changes o board) Low 19 ≡ Low
  unfolding own_port_changes
  own_rests o =
      elim (cases_Bool (o.board == board)) [
        | inl own ↦ rw own (local_rests o.activity o.reply)
        | inr other ↦ rw other idle_rests
      ]

-- a variable of a local port that is at rest after each access is at rest after an event
port_rests : (letter : ℕ) (o : Observation) (board boards n : ℕ) → 101 < letter → board < boards
    → ((a : PortAccess) → value_at (slot_code board letter) (port_changes board a) Low 19 ≡ Low)
    → value_at (slot_code board letter) (event_changes boards n o) Low 19 ≡ Low
port_rests letter o board boards n past there each =
    same_at (slot_code board letter) (event_changes boards n o) (own_port_changes o board)
    (λ k v. slot_part letter boards n o board there k v ∙ port_of_slot o board letter past k v) Low 19
    ∙ own_rests (slot_code board letter) board each o

-- after an event the select line, the answer and the error line of a local port are at rest
pub ports_rest : (boards n : ℕ) (o : Observation) (board : ℕ) (variable : Variable) → board < boards → IsPortLine board variable
    → value_at (code_of variable) (event_changes boards n o) Low 19 ≡ Low
ports_rest boards n o board variable there (inl same) =
    rw same (port_rests 102 o board boards n (omega arith) there (chip_rests board))
ports_rest boards n o board variable there (inr (inl same)) =
    rw same (port_rests 106 o board boards n (omega arith) there (answer_rests board))
ports_rest boards n o board variable there (inr (inr same)) =
    rw same (port_rests 107 o board boards n (omega arith) there (error_rests board))

module _ (o : Observation) (board : ℕ) where
  -- the selection of the board is moved by its own changes alone
  select_of_slot : (k : ℕ) (v : Value) → value_after (slot_code board 101) k (slot_changes o board) v ≡ value_after (slot_code board 101) k (select_changes o board) v
  unfolding slot_changes
  select_of_slot k v =
      let code : Code = slot_code board 101 in
      let none : IsNoPort code board = record { chip = refl; write = refl; address = refl; lanes = refl; acknowledge = refl; error = refl } in
      silent code k (line_changes o board) _ v (line_quiet code o board refl k v)
      ∙ silent code k (request_changes o board) _ v (request_quiet code o board refl k v)
      ∙ silent code k (chain_changes o board) _ v (chain_quiet code o board refl k v)
      ∙ silent code k (busy_changes o board) _ v (busy_quiet code o board refl k v)
      ∙ after_append code k (select_changes o board) (own_port_changes o board) v
      ∙ port_quiet code o board none k (value_after code k (select_changes o board) v)

  -- the selection in its own changes
  select_own : (k : ℕ) (v : Value)
      → value_after (slot_code board 101) k (select_changes o board) v
      ≡ pulse High Low (selects o.activity board && opens o.activity) (selects o.activity board && has_ended o) 1 (end_edge o) k v
  unfolding select_changes
  select_own k v =
      own (slot_code board 101) k (selects o.activity board && opens o.activity) 1 High _ v (own_code board 101)
      ∙ last_own (slot_code board 101) k (selects o.activity board && has_ended o) (end_edge o) Low _ (own_code board 101)

  -- after the end of a transfer its board is not selected
  pub select_rests : (boards n : ℕ) (before : Value) → board < boards → selects o.activity board ≡ true → has_ended o ≡ true
      → value_at (slot_code board 101) (event_changes boards n o) before 19 ≡ Low
  select_rests boards n before there chosen ended =
      let begins = selects o.activity board && opens o.activity in
      let ends = selects o.activity board && has_ended o in
      at_pulse (slot_code board 101) (event_changes boards n o) High Low before begins ends 1 (end_edge o) (last_order (is_some (second_handshake o.activity o.reply)))
      (λ k v. slot_part 101 boards n o board there k v ∙ select_of_slot k v ∙ select_own k v) 19
      ∙ pulse_late High Low before begins ends 1 (end_edge o) 19 refl (le-leb (end_edge o) 19 (last_within (is_some (second_handshake o.activity o.reply))))
      ∙ rw (chosen, ended) refl
