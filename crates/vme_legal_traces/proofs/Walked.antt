-- The events of a run with the transfer that is open before and after each.
use Rattle.std.proofs.Common.{◌≡◌, ℕ, ◌+◌, Bool, true, false, ◌||◌, if◌then◌else◌, List, [], ◌∷◌, ◌++◌, length, Option, Some, None, is_some, is_none, refl, ap, sym, subst, ◌∙◌, inl, inr, ◌⊎◌}
use Rattle.vme_cycle.specs.SignalLines.{SignalLines}
use Rattle.std.specs.Prelude.{slice_get}
use Rattle.vme_cycle.specs.declared.request.Request.{Request}
use Rattle.vme_cycle.specs.declared.request.Request.TheVariants as requests
use Rattle.vme_memory.specs.Steps.{Command, answer}
use Rattle.vme_memory.specs.Data.{datum_command, reply_len, datum_reply_len, has_form}
use Rattle.vme_memory.proofs.lemmas.Data.{reply_form}
use Rattle.vme_memory.specs.declared.reply.Reply.TheVariants.{Berr}
use Rattle.vme_memory.specs.declared.reply.Reply.{Reply}
use Rattle.vme_core.specs.declared.event.EventReply.{EventReply}
use Rattle.vme_core.specs.declared.event.EventReply.TheVariants as replies
use Rattle.vme_core.specs.Calls.{Call, OnBoard, machine_step, board_after}
use Rattle.vme_core.specs.Runs.{Machine}
use Rattle.vme_script.specs.Configurations.{Configuration}
use Rattle.vme_script.specs.Lawful.{IsLawful}
use Rattle.vme_stepper.specs.Turns.{initial_state}
use Rattle.vme_protocol.specs.declared.rule.Rule.{Rule}
use Rattle.vme_protocol.specs.declared.sample.Sample.{Sample}
use Rattle.vme_protocol.specs.declared.watch.Watch.{Watch}
use Rattle.vme_protocol.specs.Watching.{started}
use Rattle.vme_trace.specs.declared.observation.activity.TransferredDatum.{TransferredDatum}
use Rattle.vme_trace.specs.declared.observation.activity.Activity.{Activity}
use Rattle.vme_trace.specs.declared.observation.activity.Activity.TheVariants.{Requests, Polls, Releases, Transfers, Local, Other}
use Rattle.vme_trace.specs.declared.observation.Observation.{Observation}
use Rattle.vme_trace.specs.declared.dump.change.Value.{Value}
use Rattle.vme_trace.specs.declared.dump.change.Value.TheVariants.{Low, High}
use Rattle.vme_trace.specs.declared.dump.handshake.Handshake.{Handshake}
use Rattle.vme_trace.specs.Observations.{observations}
use Rattle.vme_trace.specs.Handshakes.{unanswered_handshake, first_of_datum, second_of_datum, first_handshake, second_handshake}
use Rattle.vme_trace.specs.Slots.{ends_with, has_ended}
use Rattle.vme_trace.specs.Shown.{value_after_run}
use Rattle.vme_trace_laws.specs.Shown.{address_strobe}
use Rattle.vme_trace_laws.specs.Transfers.{OpenTransfer, open_at, open_after}
use Rattle.vme_trace_laws.specs.Commands.{IsDatumShown, IsTransferShown, GoesOn}
use Rattle.vme_trace_laws.specs.Steps.{AreDataInOrder}
use Rattle.vme_trace_laws.proofs.lemmas.Turns.{opens_with, strobe_last, none_ends, IsOrderly, run_orderly, run_data, first_opens}
use Rattle.vme_legal_traces.specs.Samples.{is_high, start_of, sample_of, event_samples, run_samples, trace_samples}
use Rattle.vme_legal_traces.specs.Kept.{keeps_after, keeps, strict_scope}
use Rattle.vme_legal_traces.proofs.Order.{Levels, resting}
use Rattle.vme_legal_traces.proofs.Levels.{levels_of}
use Rattle.vme_legal_traces.proofs.Written.{board_of, none_open}
use Rattle.vme_legal_traces.proofs.Steps.{value_next, regroup}

-- an event without a handshake leaves the open transfer
pub record IsQuiet (o : Observation) (going next : Option OpenTransfer) : Type 0 where
  pub first : first_handshake o.activity o.reply ≡ None
  pub same : next ≡ going

-- a cycle that no board answers comes while no transfer is open, and leaves none open
pub record IsAlone (o : Observation) (going next : Option OpenTransfer) : Type 0 where
  pub signals : SignalLines
  pub activity : o.activity ≡ Releases (Some signals)
  pub first : first_handshake o.activity o.reply ≡ Some (unanswered_handshake signals)
  pub second : second_handshake o.activity o.reply ≡ None
  pub free : going ≡ None
  pub closed : next ≡ None

-- a datum of a transfer: the first one if none is open, or the next one of the open transfer
pub record IsDatum (config : Configuration) (o : Observation) (going next : Option OpenTransfer) : Type 0 where
  pub datum : TransferredDatum
  pub reply : Reply
  pub call : Call
  pub shown : IsDatumShown config datum call
  pub first : first_handshake o.activity o.reply ≡ Some (first_of_datum datum reply)
  pub second : second_handshake o.activity o.reply ≡ second_of_datum datum reply
  pub formed : has_form (datum_reply_len shown.transfer.request) reply ≡ true
  pub was : going ≡ (if datum.first then None else Some (open_at o.board shown.transfer shown.number))
  pub is : next ≡ (if has_ended o then None else Some (open_at o.board shown.transfer (shown.number + 1)))

-- what holds after a datum that ends the transfer, and after one that does not, with one datum more
pub after_datum : (config : Configuration) (o : Observation) (going next : Option OpenTransfer) (datum : IsDatum config o going next)
    → (P : Option OpenTransfer → Type 0) → P None
    → (has_ended o ≡ false → next ≡ Some (open_at o.board datum.shown.transfer (datum.shown.number + 1))
    → P (Some (open_at o.board datum.shown.transfer (datum.shown.number + 1)))) → P next
after_datum config o going next datum P over goes_on = by_end (has_ended o) refl
  where
    one : OpenTransfer
    one = open_at o.board datum.shown.transfer (datum.shown.number + 1)

    by_end : (ended : Bool) → has_ended o ≡ ended → P next
    by_end true ended = subst P (sym (datum.is ∙ ap (λ (b : Bool). if b then None else Some one) ended)) over
    by_end false goes =
        let same : next ≡ Some one = datum.is ∙ ap (λ (b : Bool). if b then None else Some one) goes in subst P (sym same) (goes_on goes same)

-- a command to a board has a board's reply, which has the form of the command
board_forms : (machine after : Machine) (who x : ℕ) (command : Option Command) (reply : EventReply) (call : Call) → call ≡ OnBoard x command
    → (after, reply) ≡ machine_step machine who call
    → (r : Reply) × (reply ≡ replies.Board r) × ((one : Command) → command ≡ Some one → has_form (reply_len one) r ≡ true)
board_forms machine after who x command reply call is step = by_board (slice_get machine.boards x) refl
  where
    made : (after, reply) ≡ machine_step machine who (OnBoard x command)
    made = step ∙ ap (machine_step machine who) is

    by_board : (found : _) → slice_get machine.boards x ≡ found
        → (r : Reply) × (reply ≡ replies.Board r) × ((one : Command) → command ≡ Some one → has_form (reply_len one) r ≡ true)
    by_board None found = (Berr, ap (λ (p : Machine × EventReply). p.1) (made ∙ ap (board_after machine who x command) found), λ one same. refl)
    by_board (Some board) found = (
      (answer board.object command).0,
      ap (λ (p : Machine × EventReply). p.1) (made ∙ ap (board_after machine who x command) found),
      λ one same. ap (λ (c : Option Command). has_form (reply_len one) (answer board.object c).0) same ∙ reply_form board.object one,
    )

-- the form of the reply to a datum
datum_form : (request : Request) (i at : ℕ) → reply_len (datum_command request i at) ≡ datum_reply_len request
datum_form (requests.Read am addr n) i at = refl
datum_form (requests.Write am addr bytes) i at = refl
datum_form (requests.BlockRead am addr n count) i at = refl
datum_form (requests.BlockWrite am addr n bytes) i at = refl
datum_form (requests.BlockFill am addr n count bytes) i at = refl
datum_form (requests.Modify am addr n f) i at = refl

-- what an event does to the open transfer
abbrev pub View : Configuration → Observation → Option OpenTransfer → Option OpenTransfer → Type 0
View config o going next = IsQuiet o going next ⊎ (IsAlone o going next ⊎ IsDatum config o going next)

-- a choice of levels of AS*
by_levels : (ended opens now next : Bool) → (ended ≡ true → next ≡ true) → (ended ≡ false → opens ≡ true → next ≡ false)
    → (ended ≡ false → opens ≡ false → now ≡ next) → (if ended then true else (if opens then false else now)) ≡ next
by_levels true opens now next over begins stays = sym (over refl)
by_levels false true now next over begins stays = sym (begins refl refl)
by_levels false false now next over begins stays = stays refl refl

-- a level of AS*
high_by : (ended opens : Bool) (v : Value)
    → is_high (if ended then High else (if opens then Low else v)) ≡ (if ended then true else (if opens then false else is_high v))
high_by true opens v = refl
high_by false true v = refl
high_by false false v = refl

module _ (config : Configuration) where
  -- what an event does, by its activity
  view_of : (o : Observation) (going next : Option OpenTransfer) (board : Option ℕ) (call : Call) → board ≡ board_of going
      → ((t : Handshake) → first_handshake o.activity o.reply ≡ Some t → board ≡ (if t.opens then None else Some o.board))
      → ((x : ℕ) (command : Option Command) → call ≡ OnBoard x command
      → (r : Reply) × (o.reply ≡ replies.Board r) × ((one : Command) → command ≡ Some one → has_form (reply_len one) r ≡ true))
      → (a : Activity) → o.activity ≡ a → (shown : IsTransferShown config a call) → GoesOn config going o.board (has_ended o) a call shown next
      → View config o going next
  view_of o going next board call agrees opening replied Requests is shown goes =
      inl (record { first = ap (λ (a : Activity). first_handshake a o.reply) is; same = goes })
  view_of o going next board call agrees opening replied Polls is shown goes =
      inl (record { first = ap (λ (a : Activity). first_handshake a o.reply) is; same = goes })
  view_of o going next board call agrees opening replied (Releases None) is shown goes =
      inl (record { first = ap (λ (a : Activity). first_handshake a o.reply) is; same = goes })
  view_of o going next board call agrees opening replied (Releases (Some s)) is shown goes =
      let first : first_handshake o.activity o.reply ≡ Some (unanswered_handshake s) = ap (λ (a : Activity). first_handshake a o.reply) is in
      let free : going ≡ None = none_open going (sym agrees ∙ opening (unanswered_handshake s) first) in
      inr (inl (record {
        signals = s;
        activity = is;
        first = first;
        second = ap (λ (a : Activity). second_handshake a o.reply) is;
        free = free;
        closed = goes ∙ free;
      }))
  view_of o going next board call agrees opening replied (Transfers d) is shown goes =
      let reply = replied d.board _ shown.own in
      let acts : (o.activity, o.reply) ≡ (Transfers d, replies.Board reply.0)
      = ap (λ (a : Activity). (a, o.reply)) is ∙ ap (λ (r : EventReply). (Transfers d, r)) reply.1 in
      inr (inr (record {
        datum = d;
        reply = reply.0;
        call = call;
        shown = shown;
        first = ap (λ (p : Activity × EventReply). first_handshake p.0 p.1) acts;
        second = ap (λ (p : Activity × EventReply). second_handshake p.0 p.1) acts;
        formed = ap (λ (wanted : Option ℕ). has_form wanted reply.0) (sym (datum_form shown.transfer.request shown.number _)) ∙ reply.2 _ refl;
        was = goes.0;
        is = goes.1;
      }))
  view_of o going next board call agrees opening replied (Local cmd) is shown goes =
      inl (record { first = ap (λ (a : Activity). first_handshake a o.reply) is; same = goes })
  view_of o going next board call agrees opening replied Other is shown goes =
      inl (record { first = ap (λ (a : Activity). first_handshake a o.reply) is; same = goes })

  -- the board of the open transfer after an event
  open_next : (o : Observation) (going next : Option OpenTransfer) (board : Option ℕ) → board ≡ board_of going → View config o going next
      → open_after board o ≡ board_of next
  open_next o going next board agrees (inl quiet) =
      ap (λ (found : Option Handshake). if is_some found then (if has_ended o then None else Some o.board) else board) quiet.first
      ∙ agrees ∙ ap board_of (sym quiet.same)
  open_next o going next board agrees (inr (inl alone)) =
      ap (λ (found : Option Handshake). if is_some found
      then (if ends_with found || ends_with (second_handshake o.activity o.reply) then None else Some o.board) else board) alone.first
      ∙ ap board_of (sym alone.closed)
  open_next o going next board agrees (inr (inr datum)) =
      ap (λ (found : Option Handshake). if is_some found then (if has_ended o then None else Some o.board) else board) datum.first
      ∙ by_end (has_ended o) ∙ ap board_of (sym datum.is)
    where
      by_end : (ended : Bool) → (if ended then None else Some o.board)
          ≡ board_of (if ended then None else Some (open_at o.board datum.shown.transfer (datum.shown.number + 1)))
      by_end true = refl
      by_end false = refl

  -- AS* after an event is high exactly if no transfer is open
  level_next : (o : Observation) (going next : Option OpenTransfer) (now : Bool) → now ≡ is_none going → View config o going next
      → (if has_ended o then true else (if opens_with (first_handshake o.activity o.reply) then false else now)) ≡ is_none next
  level_next o going next now strobe (inl quiet) =
      ap (λ (ended : Bool). if ended then true else (if opens_with (first_handshake o.activity o.reply) then false else now)) (none_ends o quiet.first)
      ∙ ap (λ (found : Option Handshake). if opens_with found then false else now) quiet.first
      ∙ strobe ∙ ap (λ (open_one : Option OpenTransfer). is_none open_one) (sym quiet.same)
  level_next o going next now strobe (inr (inl alone)) =
      ap (λ (found : Option Handshake). if ends_with found || ends_with (second_handshake o.activity o.reply) then true
      else (if opens_with (first_handshake o.activity o.reply) then false else now)) alone.first
      ∙ ap (λ (open_one : Option OpenTransfer). is_none open_one) (sym alone.closed)
  level_next o going next now strobe (inr (inr datum)) =
      let d = datum.datum in
      let first : opens_with (first_handshake o.activity o.reply) ≡ d.first = ap opens_with datum.first ∙ first_opens d datum.reply in
      let one = open_at o.board datum.shown.transfer (datum.shown.number + 1) in
      by_levels (has_ended o) (opens_with (first_handshake o.activity o.reply)) now (is_none next)
      (λ over. ap (λ (open_one : Option OpenTransfer). is_none open_one) datum.is
      ∙ ap (λ (ended : Bool). is_none (if ended then None else Some one)) over)
      (λ goes begins. ap (λ (open_one : Option OpenTransfer). is_none open_one) datum.is
      ∙ ap (λ (ended : Bool). is_none (if ended then None else Some one)) goes)
      (λ goes later. strobe ∙ ap (λ (open_one : Option OpenTransfer). is_none open_one) datum.was
      ∙ ap (λ (begins : Bool). is_none (if begins then None else Some (open_at o.board datum.shown.transfer datum.shown.number))) (sym first ∙ later)
      ∙ sym (ap (λ (open_one : Option OpenTransfer). is_none open_one) datum.is
      ∙ ap (λ (ended : Bool). is_none (if ended then None else Some one)) goes))

  -- the levels after some events
  abbrev pub rest_after : List Observation → Levels
  rest_after events = resting (is_high (value_after_run address_strobe (length config.boards) events High))

  -- AS* is high after events exactly if no transfer is open
  abbrev pub IsOpen : List Observation → Option OpenTransfer → Type 0
  IsOpen events going = (rest_after events).strobe ≡ is_none going

  -- the level of AS* after one more event
  strobe_next : (events : List Observation) (o : Observation) (going next : Option OpenTransfer) → IsOpen events going → View config o going next
      → IsOpen (events ++ o ∷ []) next
  strobe_next events o going next strobe view =
      let v : Value = value_after_run address_strobe (length config.boards) events High in
      ap is_high (value_next address_strobe (length config.boards) events o High ∙ strobe_last (length config.boards) (length events + 1) o v)
      ∙ high_by (has_ended o) (opens_with (first_handshake o.activity o.reply)) v
      ∙ level_next o going next (is_high v) strobe view

module _ (config : Configuration) (lawful : IsLawful config) (slots : List ℕ) where
  module _ (rule : Rule) (At : Option OpenTransfer → List Observation → Watch → Type 0)
      (event : (events later : List Observation) (o : Observation) (going next : Option OpenTransfer) (w : Watch)
      → observations config slots ≡ events ++ o ∷ later → View config o going next → levels_of w.last ≡ rest_after config events
      → IsOpen config events going → IsOpen config (events ++ o ∷ []) next → At going events w → (samples : List Sample)
      → ((w' : Watch) → levels_of w'.last ≡ rest_after config (events ++ o ∷ []) → At next (events ++ o ∷ []) w' → keeps_after rule w' samples ≡ true)
      → keeps_after rule w (event_samples config events o ++ samples) ≡ true) where
    -- the samples of later events keep a rule, if those of each event do
    later_walked : (machine machine' : Machine) (going : Option OpenTransfer) (board : Option ℕ) (events later : List Observation) (w : Watch)
        → observations config slots ≡ events ++ later → AreDataInOrder config machine going later → IsOrderly config machine' board later
        → board ≡ board_of going → levels_of w.last ≡ rest_after config events → IsOpen config events going → At going events w
        → keeps_after rule w (run_samples config events later) ≡ true
    later_walked machine machine' going board events [] w whole run orderly agrees last_is strobe at = refl
    later_walked machine machine' going board events (o ∷ later) w whole run orderly agrees last_is strobe at =
        let step = run.1 in
        let view = view_of config o going run.2 board step.call agrees orderly.2.opening
        (λ x command is. board_forms machine run.0 o.board x command o.reply step.call is step.step) o.activity refl step.datum run.3 in
        let next = strobe_next config events o going run.2 strobe view in
        event events later o going run.2 w whole view last_is strobe next at (run_samples config (events ++ o ∷ []) later)
        (λ w' last at'. later_walked run.0 orderly.0 run.2 (open_after board o) (events ++ o ∷ []) later w' (whole ∙ sym (regroup events later o)) run.4
        orderly.3 (open_next config o going run.2 board agrees view) last next at')

    -- and so do those of the trace
    pub trace_walked : (timeout : ℕ) → At None [] (started (strict_scope timeout) (sample_of config 0 start_of))
        → keeps rule (strict_scope timeout) (trace_samples config slots) ≡ true
    unfolding trace_samples sample_of
    trace_walked timeout at =
        let machine = (initial_state config).machine in
        later_walked machine machine None None [] (observations config slots) (started (strict_scope timeout) (sample_of config 0 start_of)) refl
        (run_data config lawful slots) (run_orderly config lawful slots) refl refl refl at
