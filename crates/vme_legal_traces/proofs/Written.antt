-- WRITE* is high before each handshake of a read that goes on in a transfer.
use Rattle.std.proofs.Common.{◌≡◌, ℕ, ◌+◌, ◌<◌, Bool, true, false, ◌&&◌, ◌||◌, if◌then◌else◌, List, [], ◌∷◌, ◌++◌, length, Option, Some, None, is_some, is_none, refl, ap, sym, subst, ◌∙◌, arith, inl, inr, ◌⊎◌}
use Rattle.std.specs.Prelude.{slice_get}
use Rattle.std.specs.Option.{option_map}
use Rattle.std.proofs.lemmas.Bool.{cases_Bool, false≢true}
use Rattle.std.proofs.lemmas.Option.{same_Some}
use Rattle.vme_cycle.specs.declared.modify.Modify.{Modify}
use Rattle.vme_cycle.specs.declared.request.Request.{Request}
use Rattle.vme_cycle.specs.declared.request.Request.TheVariants as requests
use Rattle.vme_cycle.specs.Requests.{datum_of}
use Rattle.vme_cycle.specs.Lawful.{Transfer}
use Rattle.vme_cycle.specs.SignalLines.{SignalLines, answered_lines}
use Rattle.vme_cycle.specs.Functions.{value, has_len}
use Rattle.vme_cycle.specs.Plans.{signals_of}
use Rattle.vme_memory.specs.Steps.{Command}
use Rattle.vme_memory.specs.declared.reply.Reply.{Reply}
use Rattle.vme_memory.specs.declared.reply.Reply.TheVariants.{Bytes, Done, Berr}
use Rattle.vme_core.specs.declared.event.EventReply.{EventReply}
use Rattle.vme_core.specs.declared.event.EventReply.TheVariants as replies
use Rattle.vme_core.specs.Calls.{Call, OnBoard, machine_step, board_after}
use Rattle.vme_core.specs.Runs.{Machine}
use Rattle.vme_script.specs.Configurations.{Configuration}
use Rattle.vme_script.specs.Lawful.{IsLawful}
use Rattle.vme_stepper.specs.Turns.{initial_state}
use Rattle.vme_trace.specs.declared.observation.activity.TransferredDatum.{TransferredDatum}
use Rattle.vme_trace.specs.declared.observation.activity.Activity.{Activity}
use Rattle.vme_trace.specs.declared.observation.activity.Activity.TheVariants.{Requests, Polls, Releases, Transfers, Local, Other}
use Rattle.vme_trace.specs.declared.observation.Observation.{Observation}
use Rattle.vme_trace.specs.declared.dump.change.Value.{Value}
use Rattle.vme_trace.specs.declared.dump.change.Value.TheVariants.{Free}
use Rattle.vme_trace.specs.declared.dump.handshake.Handshake.{Handshake}
use Rattle.vme_trace.specs.Changes.{level_of}
use Rattle.vme_trace.specs.Variables.{bus_code}
use Rattle.vme_trace.specs.Observations.{observations}
use Rattle.vme_trace.specs.Handshakes.{edge_of, is_data_len, answered, lines_after, half_by, half_of, half_handshake, has_address_phase, ending_handshake, unanswered_handshake, first_of_datum, second_of_datum, first_handshake, second_handshake}
use Rattle.vme_trace.specs.Bus.{handshake_changes}
use Rattle.vme_trace.specs.Slots.{ends_with, has_ended}
use Rattle.vme_trace.specs.Events.{event_changes}
use Rattle.vme_trace.specs.Shown.{value_after, value_at, after_events, value_after_run}
use Rattle.vme_trace_laws.specs.Transfers.{OpenTransfer, open_at, open_after}
use Rattle.vme_trace_laws.specs.Commands.{IsTransferShown, GoesOn}
use Rattle.vme_trace_laws.specs.Steps.{AreDataInOrder}
use Rattle.vme_trace_laws.proofs.lemmas.Waves.{pulse, pulse_at, at_pulse, shape, none_stays, IsCycleLine, one_parts, two_parts, write_after}
use Rattle.vme_trace_laws.proofs.lemmas.Turns.{IsOrderly, run_orderly, run_data, first_opens}
use Rattle.vme_legal_traces.specs.Samples.{is_high}

-- WRITE* in a transfer: low for a write
abbrev high_for : Transfer → Bool
high_for t = is_none (datum_of t.request 0)

-- it is so for each datum
same_high : (request : Request) (i : ℕ) → is_none (datum_of request i) ≡ is_none (datum_of request 0)
same_high (requests.Read am addr n) i = refl
same_high (requests.Write am addr bytes) i = refl
same_high (requests.BlockRead am addr n count) i = refl
same_high (requests.BlockWrite am addr n bytes) i = refl
same_high (requests.BlockFill am addr n count bytes) i = refl
same_high (requests.Modify am addr n f) i = refl

-- the signals of a datum
signals_high : (t : Transfer) (i : ℕ) → (signals_of t i).write ≡ high_for t
unfolding signals_of
signals_high t i = same_high t.request i

-- a reply leaves WRITE*
answered_write : (s : SignalLines) (bytes : List ℕ) → (answered s bytes).write ≡ s.write
answered_write s bytes = by_len (is_data_len s bytes)
  where
    by_len : (is : Bool) → (if is then answered_lines s bytes else s).write ≡ s.write
    by_len true = refl
    by_len false = refl

-- any reply leaves it
after_reply : (s : SignalLines) (reply : Reply) → (lines_after s reply).write ≡ s.write
after_reply s (Bytes datum) = answered_write s datum.items
after_reply s Done = refl
after_reply s Berr = refl

-- the first handshake of a datum has its level, and WRITE* does not fall in it
pub first_level : (d : TransferredDatum) (reply : Reply) → ((first_of_datum d reply).lines.write ≡ d.signals.write) × ((first_of_datum d reply).falls ≡ false)
first_level d reply = by_phase (has_address_phase d) refl
  where
    by_phase : (phase : Bool) → has_address_phase d ≡ phase
        → ((first_of_datum d reply).lines.write ≡ d.signals.write) × ((first_of_datum d reply).falls ≡ false)
    by_phase true is = (rw is refl, rw is refl)
    by_phase false is = (rw is (after_reply d.signals reply), rw is refl)

-- the write half of a read-modify-write is a write
half_low : (s : SignalLines) (f : Option Modify) (reply : Reply) (half : SignalLines) → half_by s f reply ≡ Some half → half.write ≡ false
half_low s (Some f) (Bytes old) half is = by_len (is_data_len s old.items) (has_len f _) is
  where
    by_len : (fits has : Bool)
        → ((if fits && has then Some (record (answered_lines s (value f old.items)) { write = false }) else None) ≡ Some half) → half.write ≡ false
    by_len true true is = ap (λ (h : SignalLines). h.write) (sym (same_Some _ _ is))
    by_len true false is = absurd (cc is)
    by_len false has is = absurd (cc is)
half_low s None (Bytes old) half is = absurd (cc is)
half_low s (Some f) Done half is = absurd (cc is)
half_low s None Done half is = absurd (cc is)
half_low s (Some f) Berr half is = absurd (cc is)
half_low s None Berr half is = absurd (cc is)

-- the second handshake of a datum has its level and no fall of WRITE*, or it is a write that ends the transfer
abbrev pub IsSecond : TransferredDatum → Handshake → Type 0
IsSecond d u = ((u.falls ≡ false) × (u.lines.write ≡ d.signals.write)) ⊎ ((u.ends ≡ true) × (u.lines.write ≡ false))

-- each second handshake is so
pub second_level : (d : TransferredDatum) (reply : Reply) (u : Handshake) → second_of_datum d reply ≡ Some u → IsSecond d u
second_level d reply u is = by_phase (has_address_phase d) refl is
  where
    half : (found : Option SignalLines) → half_of d reply ≡ found → option_map half_handshake found ≡ Some u → IsSecond d u
    half None found is = absurd (cc is)
    half (Some lines) found is =
        inr (
          ap (λ (h : Handshake). h.ends) (sym (same_Some _ _ is)),
          ap (λ (h : Handshake). h.lines.write) (sym (same_Some _ _ is)) ∙ half_low d.signals d.function reply lines found,
        )

    by_phase : (phase : Bool) → has_address_phase d ≡ phase → second_of_datum d reply ≡ Some u → IsSecond d u
    by_phase true phase is =
        let plain : second_of_datum d reply ≡ Some (record (ending_handshake d reply true) { clears = d.signals.write }) = rw phase refl in
        let same : u ≡ record (ending_handshake d reply true) { clears = d.signals.write } = same_Some _ _ (sym is ∙ plain) in
        inl (ap (λ (h : Handshake). h.falls) same, ap (λ (h : Handshake). h.lines.write) same ∙ after_reply d.signals reply)
    by_phase false phase is =
        let plain : second_of_datum d reply ≡ option_map half_handshake (half_of d reply) = rw phase refl in
        half (half_of d reply) refl (sym plain ∙ is)

-- two tests of which none holds
neither : (a b : Bool) → (a || b) ≡ false → (a ≡ false) × (b ≡ false)
neither false b h = (refl, h)
neither true b h = absurd cc

-- WRITE* is a line of a cycle
pub write_cycle : IsCycleLine (bus_code 77)
write_cycle = record { number = 77; is = refl; past = omega arith }

-- a value that is not released
not_released : (value v : Value) (opens ends : Bool) (up : ℕ) → ends ≡ false → pulse_at value Free opens ends 0 up 19 v ≡ (if opens then value else v)
not_released value v true ends up none = rw none refl
not_released value v false ends up none = rw none refl

-- the changes of a handshake that does not end, and of one that begins none
pub joined : (first second v : Value) (opens ends opens_later ends_later : Bool) (up up_later k : ℕ) → ends ≡ false → opens_later ≡ false
    → pulse second Free opens_later ends_later 0 up_later k (pulse first Free opens ends 0 up k v) ≡ pulse first Free opens ends_later 0 up_later k v
joined first second v opens ends opens_later ends_later up up_later k goes_on none = rw (goes_on, none) refl

-- the address is released after its begin
released_later : (late : Bool) → 0 < (if late then 10 + 9 else 1 + 9)
released_later false = omega arith
released_later true = omega arith

module _ (boards n : ℕ) (e : Observation) (v : Value) where
  -- WRITE* after an event without a handshake
  none_leaves : first_handshake e.activity e.reply ≡ None → value_at (bus_code 77) (event_changes boards n e) v 19 ≡ v
  none_leaves none =
      elim (shape e) [
        | inl quiet ↦ none_stays boards n e quiet (bus_code 77) write_cycle v 19
        | inr (inl one) ↦ absurd (cc (sym none ∙ one.first))
        | inr (inr two) ↦ absurd (cc (sym none ∙ two.first))
      ]

  -- WRITE* after an event that does not end the transfer
  event_leaves : (t : Handshake) → first_handshake e.activity e.reply ≡ Some t → t.falls ≡ false
      → ((u : Handshake) → second_handshake e.activity e.reply ≡ Some u → (u.ends ≡ false) → u.falls ≡ false) → has_ended e ≡ false
      → value_at (bus_code 77) (event_changes boards n e) v 19 ≡ (if t.opens then level_of t.lines.write else v)
  event_leaves t first falls second goes =
      elim (shape e) [
        | inl quiet ↦ absurd (cc (sym first ∙ quiet.first))
        | inr (inl one) ↦
            let same : one.t ≡ t = same_Some _ _ (sym one.first ∙ first) in
            let still : one.t.falls ≡ false = ap (λ (h : Handshake). h.falls) same ∙ falls in
            let ends : one.t.ends ≡ false = ap ends_with (sym one.first) ∙ (neither _ _ goes).0 in
            at_pulse (bus_code 77) (event_changes boards n e) (level_of one.t.lines.write) Free v one.t.opens one.t.ends 0 (edge_of one.t 9)
            (released_later one.t.late)
            (λ k w. one_parts (bus_code 77) boards n e one write_cycle k w ∙ write_after k one.t w still) 19
            ∙ not_released (level_of one.t.lines.write) v one.t.opens one.t.ends (edge_of one.t 9) ends
            ∙ ap (λ (h : Handshake). if h.opens then level_of h.lines.write else v) same
        | inr (inr two) ↦
            let same : two.t ≡ t = same_Some _ _ (sym two.first ∙ first) in
            let still : two.t.falls ≡ false = ap (λ (h : Handshake). h.falls) same ∙ falls in
            let ends : two.u.ends ≡ false = ap ends_with (sym two.second) ∙ (neither _ _ goes).1 in
            let still' : two.u.falls ≡ false = second two.u two.second ends in
            at_pulse (bus_code 77) (event_changes boards n e) (level_of two.t.lines.write) Free v two.t.opens two.u.ends 0 (edge_of two.u 9)
            (released_later two.u.late)
            (λ k w. two_parts (bus_code 77) boards n e two write_cycle k w
            ∙ ap (value_after (bus_code 77) k (handshake_changes two.u)) (write_after k two.t w still)
            ∙ write_after k two.u (pulse (level_of two.t.lines.write) Free two.t.opens two.t.ends 0 (edge_of two.t 9) k w) still'
            ∙ joined (level_of two.t.lines.write) (level_of two.u.lines.write) w two.t.opens two.t.ends two.u.opens two.u.ends (edge_of two.t 9)
            (edge_of two.u 9) k two.goes_on two.opened) 19
            ∙ not_released (level_of two.t.lines.write) v two.t.opens two.u.ends (edge_of two.u 9) ends
            ∙ ap (λ (h : Handshake). if h.opens then level_of h.lines.write else v) same
      ]

-- WRITE* agrees with the open transfer, if there is one
abbrev Shows : Option OpenTransfer → Value → Type 0
Shows None v = Unit {0}
Shows (Some one) v = v ≡ level_of (high_for one.transfer)

-- the board of the open transfer
abbrev pub board_of : Option OpenTransfer → Option ℕ
board_of None = None
board_of (Some one) = Some one.board

-- no transfer is open
pub none_open : (going : Option OpenTransfer) → board_of going ≡ None → going ≡ None
none_open None is = refl
none_open (Some one) is = absurd (cc is)

-- a command to a board has a board's reply
pub board_replies : (machine after : Machine) (who x : ℕ) (command : Option Command) (reply : EventReply) (call : Call) → call ≡ OnBoard x command
    → (after, reply) ≡ machine_step machine who call → (r : Reply) × (reply ≡ replies.Board r)
board_replies machine after who x command reply call is step = by_board (slice_get machine.boards x) refl
  where
    made : (after, reply) ≡ machine_step machine who (OnBoard x command)
    made = step ∙ ap (machine_step machine who) is

    by_board : (found : _) → slice_get machine.boards x ≡ found → (r : Reply) × (reply ≡ replies.Board r)
    by_board None found = (Berr, ap (λ (p : Machine × EventReply). p.1) (made ∙ ap (board_after machine who x command) found))
    by_board (Some board) found = (_, ap (λ (p : Machine × EventReply). p.1) (made ∙ ap (board_after machine who x command) found))

module _ (config : Configuration) where
  -- an event without a handshake leaves the open transfer and WRITE*
  quiet_next : (n : ℕ) (e : Observation) (v : Value) (going next : Option OpenTransfer) (board : Option ℕ) → Shows going v → board ≡ board_of going
      → first_handshake e.activity e.reply ≡ None → next ≡ going
      → Shows next (value_at (bus_code 77) (event_changes (length config.boards) n e) v 19) × (open_after board e ≡ board_of next)
  quiet_next n e v going next board shows agrees none same =
      let stays = none_leaves (length config.boards) n e v none in
      let kept : open_after board e ≡ board
      = ap (λ (found : Option Handshake). if is_some found then (if has_ended e then None else Some e.board) else board) none in (
        subst (λ (w : Value). Shows next w) (sym stays) (subst (λ (one : Option OpenTransfer). Shows one v) (sym same) shows),
        kept ∙ agrees ∙ ap board_of (sym same),
      )

  -- a cycle that no board answers leaves no transfer open
  ended_next : (n : ℕ) (e : Observation) (v : Value) (going next : Option OpenTransfer) (board : Option ℕ) (s : SignalLines) → board ≡ board_of going
      → first_handshake e.activity e.reply ≡ Some (unanswered_handshake s) → board ≡ None → next ≡ going
      → Shows next (value_at (bus_code 77) (event_changes (length config.boards) n e) v 19) × (open_after board e ≡ board_of next)
  ended_next n e v going next board s agrees first free same =
      let closed : next ≡ None = same ∙ none_open going (sym agrees ∙ free) in
      let over : open_after board e ≡ None
      = ap (λ (found : Option Handshake). if is_some found
      then (if ends_with found || ends_with (second_handshake e.activity e.reply) then None else Some e.board) else board) first in (
        subst (λ (one : Option OpenTransfer). Shows one (value_at (bus_code 77) (event_changes (length config.boards) n e) v 19)) (sym closed) tt,
        over ∙ ap board_of (sym closed),
      )

  -- a choice of levels
  by_opens : (opens first : Bool) (level v w : Value) → opens ≡ first → (first ≡ true → level ≡ w) → (first ≡ false → v ≡ w) → (if opens then level else v) ≡ w
  by_opens true true level v w is one two = one refl
  by_opens true false level v w is one two = absurd cc
  by_opens false true level v w is one two = absurd cc
  by_opens false false level v w is one two = two refl

  -- the open transfer of a datum that is not its first
  goes_open : (first : Bool) (going : Option OpenTransfer) (one : OpenTransfer) → going ≡ (if first then None else Some one) → first ≡ false → going ≡ Some one
  goes_open false going one is none = is
  goes_open true going one is none = absurd cc

  -- a datum of a transfer
  datum_next : (n : ℕ) (e : Observation) (v : Value) (going next : Option OpenTransfer) (board : Option ℕ) (d : TransferredDatum) (r : Reply)
      (t : Transfer) (number : ℕ) → Shows going v
      → first_handshake e.activity e.reply ≡ Some (first_of_datum d r) → second_handshake e.activity e.reply ≡ second_of_datum d r
      → d.signals ≡ signals_of t number → going ≡ (if d.first then None else Some (open_at e.board t number))
      → next ≡ (if has_ended e then None else Some (open_at e.board t (number + 1)))
      → Shows next (value_at (bus_code 77) (event_changes (length config.boards) n e) v 19) × (open_after board e ≡ board_of next)
  datum_next n e v going next board d r t number shows first second signals was is =
      let own : open_after board e ≡ (if has_ended e then None else Some e.board)
      = ap (λ (found : Option Handshake). if is_some found then (if has_ended e then None else Some e.board) else board) first in
      elim (cases_Bool (has_ended e)) [
        | inl over ↦
            let closed : next ≡ None = is ∙ ap (λ (over : Bool). if over then None else Some (open_at e.board t (number + 1))) over in (
              subst (λ (one : Option OpenTransfer). Shows one (value_at (bus_code 77) (event_changes (length config.boards) n e) v 19)) (sym closed) tt,
              own ∙ ap (λ (over : Bool). if over then None else Some e.board) over ∙ ap board_of (sym closed),
            )
        | inr goes ↦
            let open_one : next ≡ Some (open_at e.board t (number + 1))
            = is ∙ ap (λ (over : Bool). if over then None else Some (open_at e.board t (number + 1))) goes in
            let level : d.signals.write ≡ high_for t = ap (λ (s : SignalLines). s.write) signals ∙ signals_high t number in
            let leaves : value_at (bus_code 77) (event_changes (length config.boards) n e) v 19
            ≡ (if (first_of_datum d r).opens then level_of (first_of_datum d r).lines.write else v)
            = event_leaves (length config.boards) n e v (first_of_datum d r) first (first_level d r).1
            (λ u found not_over. elim (second_level d r u (sym second ∙ found)) [
              | inl plain ↦ plain.0
              | inr half ↦ absurd (false≢true (sym not_over ∙ half.0))
            ]) goes in
            let shown : value_at (bus_code 77) (event_changes (length config.boards) n e) v 19 ≡ level_of (high_for t)
            = leaves
            ∙ by_opens (first_of_datum d r).opens d.first (level_of (first_of_datum d r).lines.write) v (level_of (high_for t)) (first_opens d r)
            (λ begins. ap level_of ((first_level d r).0 ∙ level))
            (λ later. subst (λ (one : Option OpenTransfer). Shows one v) (goes_open d.first going (open_at e.board t number) was later) shows) in (
              subst (λ (one : Option OpenTransfer). Shows one (value_at (bus_code 77) (event_changes (length config.boards) n e) v 19)) (sym open_one) shown,
              own ∙ ap (λ (over : Bool). if over then None else Some e.board) goes ∙ ap board_of (sym open_one),
            )
      ]

  -- an event leaves WRITE* as the open transfer has it
  event_next : (n : ℕ) (e : Observation) (v : Value) (going next : Option OpenTransfer) (board : Option ℕ) (call : Call) → Shows going v → board ≡ board_of going
      → ((t : Handshake) → first_handshake e.activity e.reply ≡ Some t → board ≡ (if t.opens then None else Some e.board))
      → ((x : ℕ) (command : Option Command) → call ≡ OnBoard x command → (r : Reply) × (e.reply ≡ replies.Board r))
      → (a : Activity) → e.activity ≡ a → (shown : IsTransferShown config a call) → GoesOn config going e.board (has_ended e) a call shown next
      → Shows next (value_at (bus_code 77) (event_changes (length config.boards) n e) v 19) × (open_after board e ≡ board_of next)
  event_next n e v going next board call shows agrees opening replied Requests is shown goes =
      quiet_next n e v going next board shows agrees (ap (λ (a : Activity). first_handshake a e.reply) is) goes
  event_next n e v going next board call shows agrees opening replied Polls is shown goes =
      quiet_next n e v going next board shows agrees (ap (λ (a : Activity). first_handshake a e.reply) is) goes
  event_next n e v going next board call shows agrees opening replied (Releases None) is shown goes =
      quiet_next n e v going next board shows agrees (ap (λ (a : Activity). first_handshake a e.reply) is) goes
  event_next n e v going next board call shows agrees opening replied (Releases (Some s)) is shown goes =
      let first : first_handshake e.activity e.reply ≡ Some (unanswered_handshake s) = ap (λ (a : Activity). first_handshake a e.reply) is in
      ended_next n e v going next board s agrees first (opening (unanswered_handshake s) first) goes
  event_next n e v going next board call shows agrees opening replied (Transfers d) is shown goes =
      let reply = replied d.board _ shown.own in
      let acts : (e.activity, e.reply) ≡ (Transfers d, replies.Board reply.0)
      = ap (λ (a : Activity). (a, e.reply)) is ∙ ap (λ (r : EventReply). (Transfers d, r)) reply.1 in
      datum_next n e v going next board d reply.0 shown.transfer shown.number shows
      (ap (λ (p : Activity × EventReply). first_handshake p.0 p.1) acts) (ap (λ (p : Activity × EventReply). second_handshake p.0 p.1) acts)
      shown.signals goes.0 goes.1
  event_next n e v going next board call shows agrees opening replied (Local cmd) is shown goes =
      quiet_next n e v going next board shows agrees (ap (λ (a : Activity). first_handshake a e.reply) is) goes
  event_next n e v going next board call shows agrees opening replied Other is shown goes =
      quiet_next n e v going next board shows agrees (ap (λ (a : Activity). first_handshake a e.reply) is) goes

  -- WRITE* before an event whose first handshake is that of a read and begins no transfer
  here_high : (o : Observation) (v : Value) (going next : Option OpenTransfer) (call : Call) → Shows going v
      → ((x : ℕ) (command : Option Command) → call ≡ OnBoard x command → (r : Reply) × (o.reply ≡ replies.Board r))
      → (a : Activity) → o.activity ≡ a → (shown : IsTransferShown config a call) → GoesOn config going o.board (has_ended o) a call shown next
      → (t : Handshake) → first_handshake o.activity o.reply ≡ Some t → t.opens ≡ false → t.lines.write ≡ true → is_high v ≡ true
  here_high o v going next call shows replied Requests is shown goes t first opens read =
      absurd (cc (sym (ap (λ (a : Activity). first_handshake a o.reply) is) ∙ first))
  here_high o v going next call shows replied Polls is shown goes t first opens read =
      absurd (cc (sym (ap (λ (a : Activity). first_handshake a o.reply) is) ∙ first))
  here_high o v going next call shows replied (Releases None) is shown goes t first opens read =
      absurd (cc (sym (ap (λ (a : Activity). first_handshake a o.reply) is) ∙ first))
  here_high o v going next call shows replied (Releases (Some s)) is shown goes t first opens read =
      let same : unanswered_handshake s ≡ t = same_Some _ _ (sym (ap (λ (a : Activity). first_handshake a o.reply) is) ∙ first) in
      absurd (false≢true (sym (ap (λ (h : Handshake). h.opens) same ∙ opens)))
  here_high o v going next call shows replied (Transfers d) is shown goes t first opens read =
      let reply = replied d.board _ shown.own in
      let acts : (o.activity, o.reply) ≡ (Transfers d, replies.Board reply.0)
      = ap (λ (a : Activity). (a, o.reply)) is ∙ ap (λ (r : EventReply). (Transfers d, r)) reply.1 in
      let same : first_of_datum d reply.0 ≡ t = same_Some _ _ (sym (ap (λ (p : Activity × EventReply). first_handshake p.0 p.1) acts) ∙ first) in
      let later : d.first ≡ false = sym (first_opens d reply.0) ∙ ap (λ (h : Handshake). h.opens) same ∙ opens in
      let high : high_for shown.transfer ≡ true
      = sym (ap (λ (s : SignalLines). s.write) shown.signals ∙ signals_high shown.transfer shown.number)
      ∙ sym (first_level d reply.0).0 ∙ ap (λ (h : Handshake). h.lines.write) same ∙ read in
      let level : v ≡ level_of (high_for shown.transfer)
      = subst (λ (one : Option OpenTransfer). Shows one v) (goes_open d.first going (open_at o.board shown.transfer shown.number) goes.0 later) shows in
      ap is_high level ∙ ap (λ (b : Bool). is_high (level_of b)) high
  here_high o v going next call shows replied (Local cmd) is shown goes t first opens read =
      absurd (cc (sym (ap (λ (a : Activity). first_handshake a o.reply) is) ∙ first))
  here_high o v going next call shows replied Other is shown goes t first opens read =
      absurd (cc (sym (ap (λ (a : Activity). first_handshake a o.reply) is) ∙ first))

  -- the same after some events
  after_high : (n : ℕ) (machine machine' : Machine) (events later : List Observation) (o : Observation) (going : Option OpenTransfer) (board : Option ℕ) (v : Value)
      → AreDataInOrder config machine going (events ++ o ∷ later) → IsOrderly config machine' board (events ++ o ∷ later) → Shows going v → board ≡ board_of going
      → (t : Handshake) → first_handshake o.activity o.reply ≡ Some t → t.opens ≡ false → t.lines.write ≡ true
      → is_high (after_events (bus_code 77) (length config.boards) n events v) ≡ true
  after_high n machine machine' [] later o going board v run orderly shows agrees t first opens read =
      let step = run.1 in
      here_high o v going run.2 step.call shows
      (λ x command is. board_replies machine run.0 o.board x command o.reply step.call is step.step) o.activity refl step.datum run.3 t first opens read
  after_high n machine machine' (e ∷ events) later o going board v run orderly shows agrees t first opens read =
      let step = run.1 in
      let next = event_next (n + 1) e v going run.2 board step.call shows agrees orderly.2.opening
      (λ x command is. board_replies machine run.0 e.board x command e.reply step.call is step.step) e.activity refl step.datum run.3 in
      after_high (n + 1) run.0 orderly.0 events later o run.2 (open_after board e) _ run.4 orderly.3 next.0 next.1 t first opens read

  -- WRITE* is high before the first handshake of a read that goes on in a transfer of a run
  pub run_high : (lawful : IsLawful config) (slots : List ℕ) (events later : List Observation) (o : Observation) → observations config slots ≡ events ++ o ∷ later
      → (t : Handshake) → first_handshake o.activity o.reply ≡ Some t → t.opens ≡ false → t.lines.write ≡ true
      → is_high (value_after_run (bus_code 77) (length config.boards) events Free) ≡ true
  run_high lawful slots events later o whole t first opens read =
      let machine = (initial_state config).machine in
      after_high 0 machine machine events later o None None Free
      (subst (AreDataInOrder config machine None) whole (run_data config lawful slots))
      (subst (IsOrderly config machine None) whole (run_orderly config lawful slots)) tt refl t first opens read
