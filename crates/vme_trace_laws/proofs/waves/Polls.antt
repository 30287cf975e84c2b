-- A poll that waits moves no line.
use Rattle.std.proofs.Common.{◌≡◌, ℕ, ◌<◌, ◌++◌, ◌==◌, ◌&&◌, Bool, true, false, List, [], None, refl, ap, ◌∙◌, arith, inl, inr}
use Rattle.std.specs.Prelude.{flat_map}
use Rattle.std.specs.List.{range_with_len}
use Rattle.std.proofs.lemmas.Bool.{cases_Bool, ne_eqb, false≢true}
use Rattle.vme_core.specs.declared.event.EventReply.{EventReply}
use Rattle.vme_trace.specs.declared.observation.activity.Activity.{Activity}
use Rattle.vme_trace.specs.declared.observation.activity.Activity.TheVariants.{Requests, Polls, Releases, Transfers, Local, Other}
use Rattle.vme_trace.specs.declared.observation.Observation.{Observation}
use Rattle.vme_trace.specs.declared.dump.change.Code.{Code}
use Rattle.vme_trace.specs.declared.dump.change.Change.{Change}
use Rattle.vme_trace.specs.declared.dump.change.Value.{Value}
use Rattle.vme_trace.specs.Handshakes.{first_handshake, second_handshake}
use Rattle.vme_trace.specs.Bus.{some_handshake_changes}
use Rattle.vme_trace.specs.Variables.{bus_code, slot_code}
use Rattle.vme_trace.specs.Events.{name_changes, holder_changes, request_line_changes, bus_changes, event_changes}
use Rattle.vme_trace.specs.Slots.{line_changes, request_changes, chain_changes, busy_changes, select_changes, own_port_changes, slot_changes}
use Rattle.vme_trace.specs.Selections.{poll_waits, waits}
use Rattle.vme_trace.specs.Shown.{is_code, value_after, value_at}
use Rattle.vme_trace_laws.proofs.waves.Quiet.{IsQuiet, none_quiet, append_quiet, each_quiet}
use Rattle.vme_trace_laws.proofs.waves.Events.{name_quiet}
use Rattle.vme_trace_laws.proofs.waves.Slots.{line_quiet}
use Rattle.vme_trace_laws.proofs.waves.Joined.{stays_at}

-- a condition that does not hold
both_false : (b : Bool) → b && false ≡ false
both_false false = refl
both_false true = refl

-- no changes move no variable
still : (code : Code) (changes : List Change) → changes ≡ [] → IsQuiet code changes
still code changes none k v = ap (λ (cs : List Change). value_after code k cs v) none ∙ none_quiet code k v

module _ (o : Observation) (polls : o.activity ≡ Polls) (none : o.grant ≡ None) where
  -- the bus is neither taken nor released
  holder_still : holder_changes o ≡ []
  unfolding holder_changes
  holder_still = rw (polls, none) refl

  -- no request line moves
  request_lines_still : request_line_changes o ≡ []
  unfolding request_line_changes
  request_lines_still = rw (polls, none) refl

  -- the request line of a slot stays
  request_still : (j : ℕ) → request_changes o j ≡ []
  unfolding request_changes
  request_still j = rw (polls, none, both_false (o.board == j)) refl

  -- no grant passes a slot
  chain_still : (j : ℕ) → chain_changes o j ≡ []
  unfolding chain_changes
  chain_still j = rw none refl

  -- BBSY* of a slot stays
  busy_still : (j : ℕ) → busy_changes o j ≡ []
  unfolding busy_changes
  busy_still j = rw (polls, none, both_false (o.board == j)) refl

  -- no board is selected
  select_still : (j : ℕ) → select_changes o j ≡ []
  unfolding select_changes
  select_still j = rw polls refl

  -- no local port is accessed
  port_still : (j : ℕ) → own_port_changes o j ≡ []
  unfolding own_port_changes
  port_still j =
      elim (cases_Bool (o.board == j)) [
        | inl own ↦ rw (own, polls) refl
        | inr other ↦ rw other refl
      ]

  -- of a slot only the number of its line moves
  slot_still : (code : Code) (j : ℕ) → is_code code (slot_code j 97) ≡ false → IsQuiet code (slot_changes o j)
  unfolding slot_changes
  slot_still code j apart k v =
      rw (request_still j, chain_still j, busy_still j, select_still j, port_still j)
      (append_quiet code (line_changes o j) [] (line_quiet code o j apart) (none_quiet code) k v)

  -- no cycle has a handshake
  shakes_still : some_handshake_changes (first_handshake o.activity o.reply) ++ some_handshake_changes (second_handshake o.activity o.reply) ≡ []
  shakes_still = rw polls refl

  -- of the bus only the number of the event and whose it is move
  bus_still : (code : Code) (n : ℕ) → is_code code (bus_code 65) ≡ false → is_code code (bus_code 66) ≡ false → IsQuiet code (bus_changes n o)
  unfolding bus_changes
  bus_still code n first second =
      let shakes = some_handshake_changes (first_handshake o.activity o.reply) ++ some_handshake_changes (second_handshake o.activity o.reply) in
      append_quiet code (name_changes n o) (holder_changes o ++ (request_line_changes o ++ shakes)) (name_quiet code n o first second)
      (append_quiet code (holder_changes o) (request_line_changes o ++ shakes) (still code (holder_changes o) holder_still)
      (append_quiet code (request_line_changes o) shakes (still code (request_line_changes o) request_lines_still) (still code shakes shakes_still)))

  -- no other variable moves
  pub all_still : (code : Code) (boards n : ℕ) → is_code code (bus_code 65) ≡ false → is_code code (bus_code 66) ≡ false
      → ((j : ℕ) → is_code code (slot_code j 97) ≡ false) → (before : Value) (k : ℕ) → value_at code (event_changes boards n o) before k ≡ before
  unfolding event_changes
  all_still code boards n first second lines before k =
      stays_at code (bus_changes n o ++ flat_map (slot_changes o) (range_with_len 0 boards)) k
      (λ i _ v. append_quiet code (bus_changes n o) (flat_map (slot_changes o) (range_with_len 0 boards))
      (bus_still code n first second)
      (each_quiet code (slot_changes o) (range_with_len 0 boards) (λ j. slot_still code j (lines j))) i v)
      before k (omega arith)

-- an event that is a poll that waits is a poll
is_poll : (activity : Activity) (reply : EventReply) → poll_waits activity reply ≡ true → activity ≡ Polls
is_poll Requests reply is = absurd (false≢true is)
is_poll Polls reply is = refl
is_poll (Releases signals) reply is = absurd (false≢true is)
is_poll (Transfers datum) reply is = absurd (false≢true is)
is_poll (Local cmd) reply is = absurd (false≢true is)
is_poll Other reply is = absurd (false≢true is)

-- a variable of the bus past the first two
pub bus_waits : (boards n : ℕ) (o : Observation) (letter k : ℕ) (before : Value) → waits o ≡ true → o.grant ≡ None → 66 < letter
    → value_at (bus_code letter) (event_changes boards n o) before k ≡ before
bus_waits boards n o letter k before is none past =
    all_still o (is_poll o.activity o.reply is) none (bus_code letter) boards n
    (ne_eqb 65 letter (λ same. absurd (omega (arith, same, past)))) (ne_eqb 66 letter (λ same. absurd (omega (arith, same, past))))
    (λ j. refl) before k

-- a variable of a slot past the first
pub slot_waits : (boards n : ℕ) (o : Observation) (board letter k : ℕ) (before : Value) → waits o ≡ true → o.grant ≡ None → 97 < letter
    → value_at (slot_code board letter) (event_changes boards n o) before k ≡ before
slot_waits boards n o board letter k before is none past =
    all_still o (is_poll o.activity o.reply is) none (slot_code board letter) boards n refl refl
    (λ j. rw (ne_eqb 97 letter (λ same. absurd (omega (arith, same, past)))) refl) before k
