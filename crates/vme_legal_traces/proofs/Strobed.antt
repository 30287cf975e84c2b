-- Each handshake of a run has a data strobe.
use Rattle.std.proofs.Common.{◌≡◌, ◌⊎◌, ℕ, Bool, true, false, ◌&&◌, if◌then◌else◌, List, [], ◌∷◌, ◌++◌, Option, Some, None, refl, ap, sym, subst, ◌∙◌, inl, inr}
use Rattle.std.specs.Option.{option_to_list, option_map}
use Rattle.std.proofs.lemmas.Option.{same_Some}
use Rattle.vme_lanes.specs.declared.location.Location.{Location}
use Rattle.vme_lanes.specs.declared.location.Location.TheVariants.{Byte0, Byte1, Byte2, Byte3, Bytes01, Bytes23, Bytes03, Bytes02, Bytes13, Bytes12}
use Rattle.vme_lanes.specs.declared.location.Strobes.{Strobes}
use Rattle.vme_lanes.specs.Rows.{row_of}
use Rattle.vme_cycle.specs.declared.modify.Modify.{Modify}
use Rattle.vme_cycle.specs.Lawful.{Transfer}
use Rattle.vme_cycle.specs.SignalLines.{SignalLines, answered_lines}
use Rattle.vme_cycle.specs.Functions.{value, has_len}
use Rattle.vme_cycle.specs.Plans.{own_location, signals_of}
use Rattle.vme_memory.specs.declared.command.BoardCmd.{BoardCmd}
use Rattle.vme_memory.specs.declared.reply.Reply.{Reply}
use Rattle.vme_memory.specs.declared.reply.Reply.TheVariants.{Bytes, Done, Berr}
use Rattle.vme_arbiter.specs.declared.command.ArbCmd.TheVariants as commands
use Rattle.vme_core.specs.declared.event.EventReply.{EventReply}
use Rattle.vme_core.specs.declared.event.EventReply.TheVariants as replies
use Rattle.vme_core.specs.Calls.{Call, OnBoard, OnBus}
use Rattle.vme_core.specs.NextSteps.{NextStep, NotStarted, Invokes, Returns}
use Rattle.vme_core.specs.Runs.{Machine}
use Rattle.vme_master.specs.CurrentData.{DatumAt}
use Rattle.vme_shared.specs.declared.reply.LineReply.{LineReply}
use Rattle.vme_script.specs.Configurations.{Configuration}
use Rattle.vme_line_task.specs.declared.task.LineTask.{LineTask}
use Rattle.vme_line_task.specs.CurrentData.{line_datum, line_command}
use Rattle.vme_line_task.specs.Machine.{line_to_do}
use Rattle.vme_stepper.specs.Turns.{board_in_slot, initial_state}
use Rattle.vme_stepper.specs.Steppers.{StepperView, stepper_turn_at, stepper_of}
use Rattle.vme_stepper.specs.Lines.{stepper_begun, line_of}
use Rattle.vme_trace.specs.declared.observation.activity.TransferredDatum.{TransferredDatum}
use Rattle.vme_trace.specs.declared.observation.activity.Activity.{Activity}
use Rattle.vme_trace.specs.declared.observation.activity.Activity.TheVariants.{Requests, Polls, Releases, Transfers, Local, Other}
use Rattle.vme_trace.specs.declared.observation.Observation.{Observation}
use Rattle.vme_trace.specs.declared.dump.handshake.Handshake.{Handshake}
use Rattle.vme_trace.specs.Activities.{unanswered, board_activity, activity_of}
use Rattle.vme_trace.specs.Observations.{call_observed, observed_by, line_observed, observed_at, observed_from, observations}
use Rattle.vme_trace.specs.Handshakes.{is_data_len, answered, lines_after, half_by, half_of, half_handshake, has_address_phase, ending_handshake, first_of_datum, second_of_datum, first_handshake, second_handshake}
use Rattle.vme_trace_laws.specs.Shown.{HasStrobe}
use Rattle.vme_trace_laws.specs.Events.{IsHandshakeOf}

-- one of two lines is low
abbrev pub HasLow : Strobes → Type 0
HasLow strobes = (strobes.ds1 ≡ false) ⊎ (strobes.ds0 ≡ false)

-- each location has a data strobe
row_strobed : (l : Location) → HasLow (row_of l).strobes
row_strobed Byte0 = inl refl
row_strobed Byte1 = inr refl
row_strobed Byte2 = inl refl
row_strobed Byte3 = inr refl
row_strobed Bytes01 = inl refl
row_strobed Bytes23 = inl refl
row_strobed Bytes03 = inl refl
row_strobed Bytes02 = inl refl
row_strobed Bytes13 = inr refl
row_strobed Bytes12 = inl refl

-- the signals of a datum have a data strobe
signals_strobed : (t : Transfer) (i : ℕ) → HasLow (signals_of t i).strobes
unfolding signals_of
signals_strobed t i = row_strobed (own_location t i)

-- a reply leaves the strobes
answered_strobes : (s : SignalLines) (bytes : List ℕ) → (answered s bytes).strobes ≡ s.strobes
answered_strobes s bytes = by_len (is_data_len s bytes)
  where
    by_len : (is : Bool) → (if is then answered_lines s bytes else s).strobes ≡ s.strobes
    by_len true = refl
    by_len false = refl

-- any reply leaves them
after_strobes : (s : SignalLines) (reply : Reply) → (lines_after s reply).strobes ≡ s.strobes
after_strobes s (Bytes datum) = answered_strobes s datum.items
after_strobes s Done = refl
after_strobes s Berr = refl

-- the write half of a read-modify-write has the strobes of its read half
half_strobes : (s : SignalLines) (f : Option Modify) (reply : Reply) (half : SignalLines) → half_by s f reply ≡ Some half → half.strobes ≡ s.strobes
half_strobes s (Some f) (Bytes old) half is = by_len (is_data_len s old.items) (has_len f _) is
  where
    by_len : (fits has : Bool)
        → ((if fits && has then Some (record (answered_lines s (value f old.items)) { write = false }) else None) ≡ Some half) → half.strobes ≡ s.strobes
    by_len true true is = ap (λ (h : SignalLines). h.strobes) (sym (same_Some _ _ is))
    by_len true false is = absurd (cc is)
    by_len false has is = absurd (cc is)
half_strobes s None (Bytes old) half is = absurd (cc is)
half_strobes s (Some f) Done half is = absurd (cc is)
half_strobes s None Done half is = absurd (cc is)
half_strobes s (Some f) Berr half is = absurd (cc is)
half_strobes s None Berr half is = absurd (cc is)

-- the first handshake of a datum has its strobes
pub first_strobes : (d : TransferredDatum) (reply : Reply) → (first_of_datum d reply).lines.strobes ≡ d.signals.strobes
first_strobes d reply = by_phase (has_address_phase d) refl
  where
    by_phase : (phase : Bool) → has_address_phase d ≡ phase → (first_of_datum d reply).lines.strobes ≡ d.signals.strobes
    by_phase true is = rw is refl
    by_phase false is = rw is (after_strobes d.signals reply)

-- the second handshake of a datum has its strobes
pub second_strobes : (d : TransferredDatum) (reply : Reply) (u : Handshake) → second_of_datum d reply ≡ Some u → u.lines.strobes ≡ d.signals.strobes
second_strobes d reply u is = by_phase (has_address_phase d) refl is
  where
    half : (found : Option SignalLines) → half_of d reply ≡ found → option_map half_handshake found ≡ Some u → u.lines.strobes ≡ d.signals.strobes
    half None found is = absurd (cc is)
    half (Some lines) found is =
        ap (λ (h : Handshake). h.lines.strobes) (sym (same_Some _ _ is)) ∙ half_strobes d.signals d.function reply lines found

    by_phase : (phase : Bool) → has_address_phase d ≡ phase → second_of_datum d reply ≡ Some u → u.lines.strobes ≡ d.signals.strobes
    by_phase true phase is =
        let plain : second_of_datum d reply ≡ Some (record (ending_handshake d reply true) { clears = d.signals.write }) = rw phase refl in
        let same : u ≡ record (ending_handshake d reply true) { clears = d.signals.write } = same_Some _ _ (sym is ∙ plain) in
        ap (λ (h : Handshake). h.lines.strobes) same ∙ after_strobes d.signals reply
    by_phase false phase is =
        let plain : second_of_datum d reply ≡ option_map half_handshake (half_of d reply) = rw phase refl in
        half (half_of d reply) refl (sym plain ∙ is)

-- the cycles of an activity have a data strobe
abbrev ActsStrobed : Activity → Type 0
ActsStrobed (Releases (Some s)) = HasLow s.strobes
ActsStrobed (Transfers d) = HasLow d.signals.strobes
ActsStrobed activity = Unit {0}

-- what a release shows
released_strobed : (found : Option DatumAt) → ActsStrobed (Releases (unanswered found))
released_strobed None = tt
released_strobed (Some d) = by_selected d.selected refl
  where
    by_selected : (selected : Bool) → d.selected ≡ selected → ActsStrobed (Releases (if d.selected then None else Some (signals_of d.transfer 0)))
    by_selected true is = rw is tt
    by_selected false is = rw is (signals_strobed d.transfer 0)

-- what a call to a board shows
board_strobed : (board : ℕ) (found : Option DatumAt) (cmd : Option BoardCmd) → ActsStrobed (board_activity board found cmd)
board_strobed board (Some d) cmd = signals_strobed d.transfer d.number
board_strobed board None (Some cmd) = tt
board_strobed board None None = tt

-- what a call shows
activity_strobed : (task : LineTask) (call : Call) → ActsStrobed (activity_of task call)
activity_strobed task (OnBus (commands.Ask slot level)) = tt
activity_strobed task (OnBus (commands.Look slot)) = tt
activity_strobed task (OnBus (commands.Done slot)) = released_strobed (line_datum task)
activity_strobed task (OnBoard board command) = board_strobed board (line_datum task) (line_command task)

-- each handshake of an event has a data strobe
abbrev pub IsStrobed : Observation → Type 0
IsStrobed o = (t : Handshake) → IsHandshakeOf o t → HasStrobe t

-- a handshake with these strobes has one of them
strobes_are : (t : Handshake) (strobes : Strobes) → t.lines.strobes ≡ strobes → HasLow strobes → HasStrobe t
strobes_are t strobes is (inl low) = inl (ap (λ (s : Strobes). s.ds1) is ∙ low)
strobes_are t strobes is (inr low) = inr (ap (λ (s : Strobes). s.ds0) is ∙ low)

-- the first handshake of an activity has one
acts_first : (activity : Activity) (reply : EventReply) → ActsStrobed activity → (t : Handshake) → first_handshake activity reply ≡ Some t → HasStrobe t
acts_first Requests reply acts t is = absurd (cc is)
acts_first Polls reply acts t is = absurd (cc is)
acts_first (Releases None) reply acts t is = absurd (cc is)
acts_first (Releases (Some s)) reply acts t is =
    strobes_are t s.strobes (ap (λ (h : Handshake). h.lines.strobes) (sym (same_Some _ _ is))) acts
acts_first (Transfers d) (replies.Board reply) acts t is =
    strobes_are t d.signals.strobes (ap (λ (h : Handshake). h.lines.strobes) (sym (same_Some _ _ is)) ∙ first_strobes d reply) acts
acts_first (Transfers d) (replies.Bus reply) acts t is = absurd (cc is)
acts_first (Local cmd) reply acts t is = absurd (cc is)
acts_first Other reply acts t is = absurd (cc is)

-- and so has the second
acts_second : (activity : Activity) (reply : EventReply) → ActsStrobed activity → (t : Handshake) → second_handshake activity reply ≡ Some t → HasStrobe t
acts_second Requests reply acts t is = absurd (cc is)
acts_second Polls reply acts t is = absurd (cc is)
acts_second (Releases signals) reply acts t is = absurd (cc is)
acts_second (Transfers d) (replies.Board reply) acts t is = strobes_are t d.signals.strobes (second_strobes d reply t is) acts
acts_second (Transfers d) (replies.Bus reply) acts t is = absurd (cc is)
acts_second (Local cmd) reply acts t is = absurd (cc is)
acts_second Other reply acts t is = absurd (cc is)

-- each handshake of an event has one
acts_all : (o : Observation) → ActsStrobed o.activity → IsStrobed o
acts_all o acts t (inl first) = acts_first o.activity o.reply acts t first
acts_all o acts t (inr second) = acts_second o.activity o.reply acts t second

-- an event, if there is one, shows strobes
abbrev FoundStrobed : Option Observation → Type 0
FoundStrobed None = Unit {0}
FoundStrobed (Some o) = IsStrobed o

module _ (config : Configuration) where
  -- what a line does next
  by_strobed : (machine : Machine) (board : ℕ) (line : ℕ × LineTask) (next : NextStep LineReply) → FoundStrobed (observed_by config machine board line next)
  by_strobed machine board line NotStarted = tt
  by_strobed machine board line (Invokes call) = acts_all (call_observed config machine board line call) (activity_strobed line.1 call)
  by_strobed machine board line (Returns reply) = tt

  -- what the current line does next
  line_strobed : (machine : Machine) (board : ℕ) (found : Option (ℕ × LineTask)) → FoundStrobed (line_observed config machine board found)
  line_strobed machine board None = tt
  line_strobed machine board (Some line) = by_strobed machine board line (line_to_do line.1)

  -- what a turn does
  turn_strobed : (stepper : StepperView) (place : Option ℕ) → FoundStrobed (observed_at config stepper place)
  turn_strobed stepper None = tt
  turn_strobed stepper (Some board) = line_strobed stepper.machine board (line_of (stepper_begun config stepper board) board)

  -- an event after others, of those of a turn and of the turns after it
  after_turn : (found : Option Observation) (rest events later : List Observation) (o : Observation) → FoundStrobed found
      → ((before after : List Observation) → rest ≡ before ++ o ∷ after → IsStrobed o) → option_to_list found ++ rest ≡ events ++ o ∷ later → IsStrobed o
  after_turn None rest events later o here there whole = there events later whole
  after_turn (Some e) rest [] later o here there whole = subst IsStrobed (ap (head_or e) whole) here
    where
      head_or : Observation → List Observation → Observation
      head_or e [] = e
      head_or e (x ∷ xs) = x
  after_turn (Some e) rest (x ∷ events) later o here there whole = there events later (ap tail_of whole)
    where
      tail_of : List Observation → List Observation
      tail_of [] = []
      tail_of (x ∷ xs) = xs

  -- each event of turns
  from_strobed : (stepper : StepperView) (slots : List ℕ) (events later : List Observation) (o : Observation)
      → observed_from config stepper slots ≡ events ++ o ∷ later → IsStrobed o
  from_strobed stepper [] [] later o whole = absurd (cc whole)
  from_strobed stepper [] (e ∷ events) later o whole = absurd (cc whole)
  from_strobed stepper (slot ∷ slots) events later o whole =
      after_turn (observed_at config stepper (board_in_slot config slot)) (observed_from config (stepper_turn_at config stepper (board_in_slot config slot)) slots)
      events later o (turn_strobed stepper (board_in_slot config slot))
      (λ before after rest. from_strobed (stepper_turn_at config stepper (board_in_slot config slot)) slots before after o rest) whole

  -- each handshake of a run has a data strobe
  pub run_strobed : (slots : List ℕ) (events later : List Observation) (o : Observation) → observations config slots ≡ events ++ o ∷ later → IsStrobed o
  unfolding observations
  run_strobed slots events later o whole = from_strobed (stepper_of config (initial_state config)) slots events later o whole
