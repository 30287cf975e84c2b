-- The code with which a transfer of a run begins has a row in the table of address modifiers.
use Rattle.std.proofs.Common.{◌≡◌, ℕ, ◌==◌, Bool, true, false, if◌then◌else◌, List, [], ◌∷◌, ◌++◌, find, Option, Some, None, Ok, refl, ap, sym, subst, ◌∙◌, arith, inl, inr}
use Rattle.std.specs.Prelude.{slice_get, slice_index_or}
use Rattle.std.specs.Option.{option_to_list, option_map, option_and_then, ok_or}
use Rattle.std.proofs.lemmas.Bool.{cases_Bool, eqb-true}
use Rattle.std.proofs.lemmas.Option.{same_Some}
use Rattle.vme_am.specs.Codes.{CodeRow, table, row_at, code_fault, read_code}
use Rattle.vme_cycle.specs.Lawful.{Transfer, IsLawfulTransfer}
use Rattle.vme_cycle.specs.Requests.{code_of}
use Rattle.vme_cycle.specs.SignalLines.{SignalLines, answered_lines}
use Rattle.vme_cycle.specs.Plans.{signals_of}
use Rattle.vme_cycle.proofs.lemmas.Transfers.{row_of_lawful}
use Rattle.vme_memory.specs.declared.command.BoardCmd.{BoardCmd}
use Rattle.vme_memory.specs.declared.reply.Reply.{Reply}
use Rattle.vme_memory.specs.declared.reply.Reply.TheVariants.{Bytes, Done, Berr}
use Rattle.vme_arbiter.specs.declared.command.ArbCmd.TheVariants as commands
use Rattle.vme_core.specs.declared.event.EventReply.{EventReply}
use Rattle.vme_core.specs.declared.event.EventReply.TheVariants as replies
use Rattle.vme_core.specs.Calls.{Call, OnBoard, OnBus}
use Rattle.vme_core.specs.NextSteps.{NextStep, NotStarted, Invokes, Returns}
use Rattle.vme_core.specs.Runs.{Machine}
use Rattle.vme_master.specs.declared.job.Job.{Job}
use Rattle.vme_master.specs.declared.job.Job.TheVariants as jobs
use Rattle.vme_master.specs.Machine.{TaskView}
use Rattle.vme_master.specs.CurrentData.{DatumAt, job_datum, task_datum}
use Rattle.vme_shared.specs.declared.reply.LineReply.{LineReply}
use Rattle.vme_shared.specs.declared.reply.LineReply.TheVariants.{Unfinished}
use Rattle.vme_decode.specs.declared.entry.Entry.{Entry}
use Rattle.vme_script.specs.Boards.{entries_of}
use Rattle.vme_script.specs.Configurations.{Configuration}
use Rattle.vme_line_task.specs.declared.task.LineTask.{LineTask}
use Rattle.vme_line_task.specs.CurrentData.{line_datum, line_command}
use Rattle.vme_line_task.specs.Machine.{line_to_do}
use Rattle.vme_line_task.specs.Traces.{ScriptState}
use Rattle.vme_stepper.specs.Turns.{SystemState, board_in_slot, initial_state, state_after, lines_left}
use Rattle.vme_stepper.specs.Steppers.{StepperView, stepper_turn_at, stepper_of, processor_of}
use Rattle.vme_stepper.specs.Lines.{processor_begun}
use Rattle.vme_stepper.proofs.lemmas.Runs.{turn_more}
use Rattle.vme_trace.specs.declared.observation.activity.TransferredDatum.{TransferredDatum}
use Rattle.vme_trace.specs.declared.observation.activity.Activity.{Activity}
use Rattle.vme_trace.specs.declared.observation.activity.Activity.TheVariants.{Requests, Polls, Releases, Transfers, Local, Other}
use Rattle.vme_trace.specs.declared.observation.Observation.{Observation}
use Rattle.vme_trace.specs.declared.dump.handshake.Handshake.{Handshake}
use Rattle.vme_trace.specs.Activities.{unanswered, board_activity, activity_of}
use Rattle.vme_trace.specs.Observations.{call_observed, observed_by, line_observed, observed, observed_at, observed_from, observations}
use Rattle.vme_trace.specs.Handshakes.{is_data_len, answered, lines_after, has_address_phase, first_of_datum, first_handshake}
use Rattle.vme_trace_laws.proofs.lemmas.Turns.{IsRequestedTask, IsRequestedView, view_requested, given_requested, line_datum_of, line_view, processors_get, IsGiven, lines_begin, observed_is, observed_none}
use Rattle.vme_protocol.specs.Transfers.{is_row, has_row}

-- a row that is found by a code has the code
found_code : (code : ℕ) (rows : List CodeRow) (row : CodeRow) → find (λ r. r.code == code) rows ≡ Some row → row.code ≡ code
found_code code [] row h = absurd (cc h)
found_code code (r ∷ rows) row h =
    elim (cases_Bool (r.code == code)) [
      | inl same ↦
          let first : find (λ r. r.code == code) (r ∷ rows) ≡ Some r = rw same refl in
          ap (λ (x : CodeRow). x.code) (same_Some _ _ (sym h ∙ first)) ∙ eqb-true r.code code same
      | inr other ↦
          let rest : find (λ r. r.code == code) (r ∷ rows) ≡ find (λ r. r.code == code) rows = rw other refl in
          found_code code rows row (sym rest ∙ h)
    ]

-- the row that is read for a code was found in the table
read_at : (code : ℕ) (row : CodeRow) (found : Option CodeRow) → ok_or found (code_fault code) ≡ Ok row → found ≡ Some row
read_at code row None h = absurd cc
read_at code row (Some r) h = cc

-- the row that is read for a code has the code
read_has : (code : ℕ) (row : CodeRow) → read_code code ≡ Ok row → row.code ≡ code
unfolding read_code
read_has code row h = found_code code table row (read_at code row (row_at code) h)

-- the row that is read for the code of a lawful transfer's row is that row
pub code_read : (t : Transfer) → IsLawfulTransfer t → read_code t.am.code ≡ Ok t.am
code_read t lawful = let row = row_of_lawful t lawful in ap read_code (read_has (code_of t.request) t.am row) ∙ row

-- the code of signals has a row
abbrev pub IsRowed : SignalLines → Type 0
IsRowed s = has_row s.am.code ≡ true

-- the signals of a lawful transfer have a code with a row
signals_rowed : (t : Transfer) (i : ℕ) → IsLawfulTransfer t → IsRowed (signals_of t i)
unfolding signals_of
signals_rowed t i lawful =
    let row = row_of_lawful t lawful in
    ap (λ (code : ℕ). is_row (read_code code)) (read_has (code_of t.request) t.am row) ∙ ap is_row row

-- a reply leaves the code
answered_row : (s : SignalLines) (bytes : List ℕ) → (answered s bytes).am ≡ s.am
answered_row s bytes = by_len (is_data_len s bytes)
  where
    by_len : (is : Bool) → (if is then answered_lines s bytes else s).am ≡ s.am
    by_len true = refl
    by_len false = refl

-- any reply leaves it
after_row : (s : SignalLines) (reply : Reply) → (lines_after s reply).am ≡ s.am
after_row s (Bytes datum) = answered_row s datum.items
after_row s Done = refl
after_row s Berr = refl

-- the first handshake of a datum has its code
first_row : (d : TransferredDatum) (reply : Reply) → (first_of_datum d reply).lines.am ≡ d.signals.am
first_row d reply = by_phase (has_address_phase d) refl
  where
    by_phase : (phase : Bool) → has_address_phase d ≡ phase → (first_of_datum d reply).lines.am ≡ d.signals.am
    by_phase true is = rw is refl
    by_phase false is = rw is (after_row d.signals reply)

-- the signals are those of the first cycle of a lawful transfer
abbrev pub IsPlanned : SignalLines → Type 0
IsPlanned s = (t : Transfer) × IsLawfulTransfer t × (s ≡ signals_of t 0)

-- the transfer of a datum is lawful, if there is one
abbrev IsLawfulDatum : Option DatumAt → Type 0
IsLawfulDatum None = Unit {0}
IsLawfulDatum (Some d) = IsLawfulTransfer d.transfer

-- the cycles of an activity have a code with a row, and one that no board answers is of a lawful transfer
abbrev ActsRowed : Activity → Type 0
ActsRowed (Releases (Some s)) = IsRowed s × IsPlanned s
ActsRowed (Transfers d) = IsRowed d.signals
ActsRowed activity = Unit {0}

-- what a release shows
released_rowed : (found : Option DatumAt) → IsLawfulDatum found → ActsRowed (Releases (unanswered found))
released_rowed None lawful = tt
released_rowed (Some d) lawful = by_selected d.selected refl
  where
    by_selected : (selected : Bool) → d.selected ≡ selected → ActsRowed (Releases (if d.selected then None else Some (signals_of d.transfer 0)))
    by_selected true is = rw is tt
    by_selected false is = rw is (signals_rowed d.transfer 0 lawful, (d.transfer, lawful, refl))

-- what a call to a board shows
board_rowed : (board : ℕ) (found : Option DatumAt) (cmd : Option BoardCmd) → IsLawfulDatum found → ActsRowed (board_activity board found cmd)
board_rowed board (Some d) cmd lawful = signals_rowed d.transfer d.number lawful
board_rowed board None (Some cmd) lawful = tt
board_rowed board None None lawful = tt

-- what a call shows
activity_rowed : (task : LineTask) (call : Call) → IsLawfulDatum (line_datum task) → ActsRowed (activity_of task call)
activity_rowed task (OnBus (commands.Ask slot level)) lawful = tt
activity_rowed task (OnBus (commands.Look slot)) lawful = tt
activity_rowed task (OnBus (commands.Done slot)) lawful = released_rowed (line_datum task) lawful
activity_rowed task (OnBoard board command) lawful = board_rowed board (line_datum task) (line_command task) lawful

-- the datum of a job is of a lawful transfer
job_lawful : (map : List Entry) (v : Option TaskView) → IsRequestedView map v → IsLawfulDatum (option_and_then task_datum v)
job_lawful map None is = tt
job_lawful map (Some t) is = by_job t.job is
  where
    by_job : (job : Job) → IsRequestedView map (Some (record t { job = job })) → IsLawfulDatum (job_datum job t.phase)
    by_job (jobs.Bus job) is = is.0
    by_job (jobs.Local job) is = tt

-- the first handshake of an event has a code with a row, and a cycle that no board answers is of a lawful transfer
abbrev pub BeginsRowed : Observation → Type 0
BeginsRowed o =
    ((t : Handshake) → first_handshake o.activity o.reply ≡ Some t → IsRowed t.lines)
    × ((s : SignalLines) → o.activity ≡ Releases (Some s) → IsPlanned s)

-- a handshake with a code
row_is : (t : Handshake) (s : SignalLines) → t.lines.am ≡ s.am → IsRowed s → IsRowed t.lines
row_is t s is rowed = ap (λ (row : CodeRow). has_row row.code) is ∙ rowed

-- the first handshake of an activity has one
acts_first : (activity : Activity) (reply : EventReply) → ActsRowed activity → (t : Handshake) → first_handshake activity reply ≡ Some t → IsRowed t.lines
acts_first Requests reply acts t is = absurd (cc is)
acts_first Polls reply acts t is = absurd (cc is)
acts_first (Releases None) reply acts t is = absurd (cc is)
acts_first (Releases (Some s)) reply acts t is = row_is t s (ap (λ (h : Handshake). h.lines.am) (sym (same_Some _ _ is))) acts.0
acts_first (Transfers d) (replies.Board reply) acts t is =
    row_is t d.signals (ap (λ (h : Handshake). h.lines.am) (sym (same_Some _ _ is)) ∙ first_row d reply) acts
acts_first (Transfers d) (replies.Bus reply) acts t is = absurd (cc is)
acts_first (Local cmd) reply acts t is = absurd (cc is)
acts_first Other reply acts t is = absurd (cc is)

-- a cycle that no board answers is of a lawful transfer
acts_planned : (activity : Activity) → ActsRowed activity → (s : SignalLines) → activity ≡ Releases (Some s) → IsPlanned s
acts_planned activity acts s is = (subst ActsRowed is acts).1

-- an event, if there is one, begins so
abbrev FoundRowed : Option Observation → Type 0
FoundRowed None = Unit {0}
FoundRowed (Some o) = BeginsRowed o

module _ (config : Configuration) where
  -- the datum of a line is of a lawful transfer
  line_lawful : (board : ℕ) (machine : Machine) (task : LineTask) → IsGiven config board machine (Some task) → IsLawfulDatum (line_datum task)
  line_lawful board machine task given =
      let map = entries_of config.boards in
      subst IsLawfulDatum (sym (line_datum_of task))
      (job_lawful map (line_view task)
      (view_requested map task (subst (IsRequestedTask map) (sym given.2) (given_requested config board given.0 given.1))))

  -- what a line does next
  by_rowed : (machine : Machine) (board number : ℕ) (task : LineTask) (next : NextStep LineReply) → IsLawfulDatum (line_datum task)
      → FoundRowed (observed_by config machine board (number, task) next)
  by_rowed machine board number task NotStarted lawful = tt
  by_rowed machine board number task (Invokes call) lawful =
      let acts = activity_rowed task call lawful in (
        acts_first (activity_of task call) (call_observed config machine board (number, task) call).reply acts,
        acts_planned (activity_of task call) acts,
      )
  by_rowed machine board number task (Returns reply) lawful = tt

  -- what the current line does next
  line_rowed : (machine : Machine) (board number : ℕ) (at : Option LineTask) → IsGiven config board machine at
      → FoundRowed (line_observed config machine board (option_map (λ task. (number, task)) at))
  line_rowed machine board number None given = tt
  line_rowed machine board number (Some task) given = by_rowed machine board number task (line_to_do task) (line_lawful board machine task given)

  -- what a turn of a board's processor does
  board_turn_rowed : (system : SystemState) (board : ℕ) (found : Option ScriptState) → slice_get system.script_states board ≡ found
      → FoundRowed (observed config (stepper_of config system) board)
  board_turn_rowed system board None is =
      let stepper : StepperView = stepper_of config system in
      subst FoundRowed (sym (observed_none config board stepper
      (processors_get config 0 board board system.script_states (omega arith) ∙ ap (option_map (processor_of config board)) is))) tt
  board_turn_rowed system board (Some c) is =
      let stepper : StepperView = stepper_of config system in
      let processor = processor_of config board c in
      let begun = processor_begun config board processor in
      let begins = lines_begin config board system.machine c.replies (lines_left config board c) processor refl in
      subst FoundRowed (sym (observed_is config board stepper processor
      (processors_get config 0 board board system.script_states (omega arith) ∙ ap (option_map (processor_of config board)) is)))
      (line_rowed system.machine board (slice_index_or begun.lines begun.ended (0, Unfinished)).0 begun.at begins.own)

  -- what a turn does
  turn_rowed : (system : SystemState) (place : Option ℕ) → FoundRowed (observed_at config (stepper_of config system) place)
  turn_rowed system None = tt
  turn_rowed system (Some board) = board_turn_rowed system board (slice_get system.script_states board) refl

  -- an event after others, of those of a turn and of the turns after it
  after_turn : (found : Option Observation) (rest events later : List Observation) (o : Observation) → FoundRowed found
      → ((before after : List Observation) → rest ≡ before ++ o ∷ after → BeginsRowed o) → option_to_list found ++ rest ≡ events ++ o ∷ later → BeginsRowed o
  after_turn None rest events later o here there whole = there events later whole
  after_turn (Some e) rest [] later o here there whole = subst BeginsRowed (ap (head_or e) whole) here
    where
      head_or : Observation → List Observation → Observation
      head_or e [] = e
      head_or e (x ∷ xs) = x
  after_turn (Some e) rest (x ∷ events) later o here there whole = there events later (ap tail_of whole)
    where
      tail_of : List Observation → List Observation
      tail_of [] = []
      tail_of (x ∷ xs) = xs

  -- each event of turns, after some turns
  from_rowed : (before slots : List ℕ) (stepper : StepperView) (events later : List Observation) (o : Observation)
      → stepper ≡ stepper_of config (state_after config before) → observed_from config stepper slots ≡ events ++ o ∷ later → BeginsRowed o
  from_rowed before [] stepper [] later o is whole = absurd (cc whole)
  from_rowed before [] stepper (e ∷ events) later o is whole = absurd (cc whole)
  from_rowed before (slot ∷ slots) stepper events later o is whole =
      let place = board_in_slot config slot in
      after_turn (observed_at config stepper place) (observed_from config (stepper_turn_at config stepper place) slots) events later o
      (subst (λ (s : StepperView). FoundRowed (observed_at config s place)) (sym is) (turn_rowed (state_after config before) place))
      (λ first last rest. from_rowed (before ++ slot ∷ []) slots (stepper_turn_at config stepper place) first last o
      (turn_more config stepper before slot place is refl) rest) whole

  -- each event of a run begins so
  run_begins : (slots : List ℕ) (events later : List Observation) (o : Observation) → observations config slots ≡ events ++ o ∷ later → BeginsRowed o
  unfolding observations state_after
  run_begins slots events later o whole = from_rowed [] slots (stepper_of config (initial_state config)) events later o refl whole

  -- the code with which a transfer of a run begins has a row
  pub run_rowed : (slots : List ℕ) (events later : List Observation) (o : Observation) → observations config slots ≡ events ++ o ∷ later → (t : Handshake)
      → first_handshake o.activity o.reply ≡ Some t → IsRowed t.lines
  run_rowed slots events later o whole = (run_begins slots events later o whole).0

  -- a cycle of a run that no board answers is of a lawful transfer
  pub run_planned : (slots : List ℕ) (events later : List Observation) (o : Observation) → observations config slots ≡ events ++ o ∷ later → (s : SignalLines)
      → o.activity ≡ Releases (Some s) → IsPlanned s
  run_planned slots events later o whole = (run_begins slots events later o whole).1
