-- The one order of the machine's transitions, and what is gathered from its port array, are runs of turns of slots.
use Rattle.std.proofs.Common.{◌≡◌, ℕ, ◌+◌, ◌<◌, List, [], ◌∷◌, length, map, slice_index_or, Some, All, refl, ap, sym, subst, ◌∙◌, arith, inl, inr, eq-eqb, ne_eqb}
use Rattle.std.specs.Global.{Vec}
use Rattle.std.proofs.lemmas.Bool.{cases_eq}
use Rattle.std.proofs.lemmas.List.{length-map, length-append, get_or_default}
use Rattle.std.proofs.lemmas.List.Elements.{All-nil, All-cons, All-head, All-tail}
use Rattle.std.proofs.lemmas.Option.{slice_get-get_or}
use Rattle.std.proofs.Math.ListN.{get_or-map}
use Rattle.vme_object.specs.declared.history.Entry.{Entry}
use Rattle.vme_object.specs.History.{own, entry}
use Rattle.vme_port.specs.declared.home.Home.{Home}
use Rattle.vme_port.proofs.lemmas.SharedHistory.{all_made}
use Rattle.vme_core.specs.declared.event.EventReply.{EventReply}
use Rattle.vme_core.specs.Runs.{Machine, Transition}
use Rattle.vme_core.specs.Calls.{Call, call_of, machine_step}
use Rattle.vme_shared.specs.declared.reply.LineReply.{LineReply}
use Rattle.vme_arbiter.specs.Arbitration.{opening_bus}
use Rattle.vme_script.specs.declared.script.ScriptLine.{ScriptLine}
use Rattle.vme_script.specs.Configurations.{Configuration, opening_memory}
use Rattle.vme_script.specs.Lawful.{IsLawful}
use Rattle.vme_line_task.specs.Scripts.{slot_at, lines_at}
use Rattle.vme_line_task.specs.Traces.{IsTrace, ScriptState}
use Rattle.vme_stepper.specs.Turns.{script_state, initial_state, state_after}
use Rattle.vme_bus_objects.specs.declared.object.BusObject.{BusObject}
use Rattle.vme_bus_objects.specs.declared.object.BusObject.TheVariants as objects
use Rattle.vme_bus_objects.specs.Objects.{bus_object_step}
use Rattle.vme_bus_objects.specs.Runs.{BusEntry, MatchesKind, run_of, transitions_of}
use Rattle.vme_threads.specs.declared.report.Report.{Report}
use Rattle.vme_threads.specs.Rans.{replies_of_lines}
use Rattle.vme_threads.specs.Settlements.{BusPass, opening_objects, IsSettled}
use Rattle.vme_threads.specs.Gatherings.{IsGathered}
use Rattle.vme_run.specs.Orders.{Performs, IsOneOrder, ended_state}
use Rattle.vme_explore.specs.Runs.{after_turns}
use Rattle.vme_order.specs.Systems.{SystemOf, system_of, turn_of}
use Rattle.vme_order.specs.Orders.{Answers, Leads, IsOrder}
use Rattle.vme_order.specs.ArrayOrders.{asked_history, gathered, IsShown, AreTraces}
use Rattle.vme_order.proofs.lemmas.Turns as turns
use Rattle.vme_order.proofs.lemmas.Gathered as array
use Rattle.vme_order_laws.specs.Processors.{processor_course, machine_takes, stepper_system, calls_in, answers_in, ended_states}
use Rattle.vme_order_laws.specs.MachineObjects.{machine_objects, call_asked}
use Rattle.vme_order_laws.proofs.Processors.{slot_turns}
use Rattle.vme_order_laws.proofs.Traces.{trace_leads}
use Rattle.vme_order_laws.proofs.Machines.{machine_shows, machine_opens}

-- the calls of one processor are those of its transitions
own_calls : (who : ℕ) (run : List Transition) → own who (calls_in run) ≡ calls_in (transitions_of who run)
own_calls who [] = refl
own_calls who (m ∷ run) = elim (cases_eq m.who who) [
  | inl same ↦
      let rest = own_calls who run in
      rw (eq-eqb m.who who same) (ap (λ l. entry m.who (call_of m.event) m.reply ∷ l) rest)
  | inr other ↦
      let rest = own_calls who run in
      rw (ne_eqb m.who who other) rest
]

-- a machine that performs transitions takes their calls
takes_calls : (run : List Transition) (machine after : Machine) → Performs machine run after
    → Answers machine_takes machine (calls_in run) after
takes_calls [] machine after performs = performs
takes_calls (m ∷ run) machine after performs =
    let step = machine_step machine m.who (call_of m.event) in
    (step.0, (λ i. Some (step.0, sym performs.0 i)), takes_calls run step.0 after performs.1)

-- a fact of all transitions of a run is one of their calls
known_calls : (k : ℕ) (run : List Transition) → All (λ m. m.who < k) run
    → All (λ (e : Entry Call EventReply). e.who < k) (calls_in run)
known_calls k [] known = All-nil (λ (e : Entry Call EventReply). e.who < k)
known_calls k (m ∷ run) known =
    All-cons (λ (e : Entry Call EventReply). e.who < k) (entry m.who (call_of m.event) m.reply) (calls_in run)
    (All-head (λ (m : Transition). m.who < k) m run known)
    (known_calls k run (All-tail (λ (m : Transition). m.who < k) m run known))

-- before the first turn, each processor is at the begin of its script
state_first : (scripts : List (List ScriptLine)) (who : ℕ) (c : ScriptState) → who < length scripts
    → slice_index_or (map (λ script. script_state [] []) scripts) who c ≡ script_state [] []
state_first scripts who c less =
    get_or_default (map (λ script. script_state [] []) scripts) who c (script_state [] [])
    (omega (arith, less, length-map scripts (λ script. script_state [] [])))
    ∙ get_or-map (λ (script : List ScriptLine). script_state [] []) scripts who []

-- at the end, each processor has the replies to its lines
state_last : (answers : List (List LineReply)) (who : ℕ) (c : ScriptState) → who < length answers
    → slice_index_or (ended_states answers) who c ≡ script_state (slice_index_or answers who []) []
state_last answers who c less =
    get_or_default (ended_states answers) who c (script_state [] [])
    (omega (arith, less, length-map answers (λ own. script_state own [])))
    ∙ get_or-map (λ own. script_state own []) answers who []

-- each entry of the history of a settled array is of its object's kind
pub history_kinds : (config : Configuration) (passes : List BusPass) (homes : List (Home BusObject))
    (s : IsSettled config passes homes)
    → All (MatchesKind (length config.boards)) s.settles.history
history_kinds config passes homes s =
    all_made (length config.boards) s.settles.history passes
    (record {
      known = s.settles.known;
      each_who = s.settles.each_who;
      seen = s.settles.seen;
      sound = s.settles.sound;
      mine = s.settles.mine;
    })
    (MatchesKind (length config.boards)) s.kinds

-- there is an object for each board and one more
pub opening_count : (config : Configuration) → length (opening_objects config) ≡ length config.boards + 1
opening_count config =
    length-append (map (λ own. objects.Board (opening_memory own)) config.boards) (objects.Arbiter
    (opening_bus config.arbiter) ∷ [])
    ∙ ap (λ n. n + 1) (length-map config.boards (λ own. objects.Board (opening_memory own)))

-- an element of a list that has an index
pub some_of : {X : Type 0} (xs : List X) (i : ℕ) → i < length xs → X
some_of [] i less = absurd (omega arith)
some_of (x ∷ xs) i less = x

module _ (config : Configuration) (lawful : IsLawful config) where
  -- there is a processor for each board
  processors_count : length (initial_state config).script_states ≡ length config.boards
  processors_count = length-map config.scripts (λ script. script_state [] []) ∙ lawful.scripts

  -- a trace of its script leads a processor from its first state to the replies of all lines
  script_leads : (who : ℕ) (a b : ScriptState) (answers : List (List LineReply)) (moves : List Transition)
      → who < length config.boards
      → length answers ≡ length config.boards
      → IsTrace config who (lines_at config who) moves (slice_index_or answers who [])
      → Leads (processor_course config who) (slice_index_or (initial_state config).script_states who a) (calls_in moves)
      (slice_index_or (ended_states answers) who b)
  script_leads who a b answers moves less count trace =
      subst (λ c. Leads (processor_course config who) c (calls_in moves) (slice_index_or (ended_states answers) who b))
      (sym (state_first config.scripts who a (subst (λ n. who < n) (sym lawful.scripts) less)))
      (subst (λ c. Leads (processor_course config who) (script_state [] []) (calls_in moves) c)
      (sym (state_last answers who b (subst (λ n. who < n) (sym count) less)))
      (trace_leads config who (lines_at config who) [] moves (slice_index_or answers who []) refl trace))

  -- turns of processors that lead to a state are turns of slots that lead there
  slots_lead : (who_turns : List ℕ) (machine : Machine) (answers : List (List LineReply))
      → All (λ who. who < length config.boards) who_turns
      → after_turns (turn_of machine_takes (processor_course config)) (stepper_system (initial_state config)) who_turns
      ≡ system_of machine (ended_states answers)
      → state_after config (map (slot_at config) who_turns) ≡ ended_state machine answers
  unfolding state_after
  slots_lead who_turns machine answers below is =
      ap (λ (w : SystemOf Machine ScriptState). record { machine = w.objects; script_states = w.processes })
      (sym (slot_turns config lawful who_turns (initial_state config) below) ∙ is)

  -- one order of the transitions of all processors is the order of some turns
  pub order_of_turns : (run : List Transition) (answers : List (List LineReply)) (machine : Machine)
      → IsOneOrder config run answers machine → (slots : List ℕ) × (state_after config slots ≡ ended_state machine answers)
  order_of_turns run answers machine one =
      let before = stepper_system (initial_state config) in
      let after = system_of machine (ended_states answers) in
      let order : IsOrder machine_takes (processor_course config) before (calls_in run) after = record {
        known = known_calls (length before.processes) run (subst (λ n. All (λ (m : Transition). m.who < n) run)
            (sym processors_count) one.known);
        answers = takes_calls run before.objects machine one.performed;
        leads = record {
          count = length-map answers (λ own. script_state own []) ∙ one.count ∙ sym processors_count;
          each = λ who a b less.
              let below : who < length config.boards = subst (λ n. who < n) processors_count less in
              subst (λ es. Leads (processor_course config who) (slice_index_or before.processes who a) es
              (slice_index_or after.processes who b))
              (sym (own_calls who run))
              (script_leads who a b answers (transitions_of who run) below one.count
              (one.traces who (slice_index_or answers who [])
              (slice_get-get_or answers who [] (subst (λ n. who < n) (sym one.count) below))));
        };
      } in
      let found = turns.order_is_turns machine_takes (processor_course config) before after (calls_in run) order in (
        map (slot_at config) found.0,
        slots_lead found.0 machine answers (subst (λ n. All (λ who. who < n) found.0) processors_count found.1) found.2,
      )

  -- the calls of the transitions of a history are what it asked for
  asked_calls : (h : List BusEntry) → calls_in (run_of h) ≡ asked_history call_asked h
  asked_calls [] = refl
  asked_calls (e ∷ h) = ap (λ l. entry e.who (call_asked e.cmd) e.reply ∷ l) (asked_calls h)

  -- the replies to a processor's lines in a report
  answers_at : (report : Report) (who : ℕ) (lines : Vec (ℕ × LineReply)) → who < length report.lines.items
      → slice_index_or (answers_in report) who [] ≡ replies_of_lines (slice_index_or report.lines.items who lines).items
  answers_at report who lines less =
      let replies = λ (lines : Vec (ℕ × LineReply)). replies_of_lines lines.items in
      get_or_default (answers_in report) who [] (replies lines) (omega (arith, less, length-map report.lines.items replies))
      ∙ get_or-map replies report.lines.items who lines

  module _ (passes : List BusPass) (homes : List (Home BusObject)) (report : Report)
      (g : IsGathered config passes homes report) where
    -- there is a reply to each line of each processor
    answers_count : length (answers_in report) ≡ length config.boards
    answers_count =
        length-map report.lines.items (λ (lines : Vec (ℕ × LineReply)). replies_of_lines lines.items) ∙ g.trace.count
        ∙ g.settled.settles.all

    -- the entries of each pass lead its processor to the replies of all lines
    pass_traces : AreTraces (processor_course config) call_asked passes (initial_state config).script_states (ended_states
        (answers_in report))
    pass_traces = record {
      processes = processors_count ∙ sym g.settled.settles.all;
      ended = length-map (answers_in report) (λ own. script_state own []) ∙ answers_count ∙ sym g.settled.settles.all;
      leads = λ who p a b less.
          let below : who < length config.boards = subst (λ n. who < n) g.settled.settles.all less in
          let mine : List BusEntry = (slice_index_or passes who p).mine in
          let there : who < length report.lines.items = subst (λ n. who < n) (sym g.trace.count) less in
          let lines = some_of report.lines.items who there in
          subst (λ es. Leads (processor_course config who) (slice_index_or (initial_state config).script_states who a) es
          (slice_index_or (ended_states (answers_in report)) who b))
          (asked_calls mine)
          (script_leads who a b (answers_in report) (run_of mine) below answers_count
          (subst (IsTrace config who (lines_at config who) (run_of mine)) (sym (answers_at report who lines there))
          (g.trace.each who p lines less)));
    }

    -- what is gathered from the port array of a configuration is the run of some turns of slots
    pub gathered_by_turns : (slots : List ℕ) × (machine : Machine) × (state_after config slots ≡ ended_state machine
        (answers_in report))
        × (machine_objects machine ≡ gathered passes homes)
    gathered_by_turns =
        let k = length config.boards in
        let found = array.gathered_is_turns bus_object_step machine_takes call_asked machine_objects (processor_course config)
        (opening_objects config) k passes homes (initial_state config).machine (initial_state config).script_states
        (ended_states (answers_in report)) g.settled.settles g.whose pass_traces
        (subst (λ n. All (IsShown bus_object_step machine_takes call_asked machine_objects n) g.settled.settles.history) (sym
        (opening_count config))
        (machine_shows k g.settled.settles.history (history_kinds config passes homes g.settled)))
        (machine_opens k config.boards (opening_bus config.arbiter)) in (
          map (slot_at config) found.0,
          found.1,
          slots_lead found.0 found.1 (answers_in report) found.2 found.4,
          found.3,
        )
