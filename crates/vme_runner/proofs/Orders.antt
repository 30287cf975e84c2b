-- The transitions of one order are the calls of turns.
use Rattle.std.proofs.Common.{◌≡◌, ℕ, ◌<◌, List, [], ◌∷◌, ◌++◌, length, Option, Some, All, refl, ap, sym, subst, ◌∙◌}
use Rattle.std.specs.Prelude.{option_map}
use Rattle.std.proofs.lemmas.List.Elements.{All-head, All-tail}
use Rattle.vme_core.specs.declared.event.EventReply.{EventReply}
use Rattle.vme_core.specs.Runs.{Machine, Transition}
use Rattle.vme_core.specs.Calls.{Call, call_of, machine_step}
use Rattle.vme_core.specs.NextSteps.{NextStep, Invokes, Returns}
use Rattle.vme_shared.specs.declared.reply.LineReply.{LineReply}
use Rattle.vme_grammar.specs.declared.line.Line.{Line}
use Rattle.vme_script.specs.Configurations.{Configuration}
use Rattle.vme_script.specs.Lawful.{IsLawful}
use Rattle.vme_line_task.specs.Scripts.{slot_at}
use Rattle.vme_line_task.specs.Tables.{line_next}
use Rattle.vme_line_task.specs.Traces.{Continues, IsTrace}
use Rattle.vme_bus_objects.specs.Runs.{transitions_of}
use Rattle.vme_stepper.specs.Turns.{SystemState, lines_left, turn, run as take_turns, initial_state, state_after}
use Rattle.vme_threads.specs.declared.report.Report.{Report}
use Rattle.vme_threads.specs.OneOrder.{IsReportOfOneOrder}
use Rattle.vme_run.specs.Orders.{Performs, performed, machine_after, slots_of}
use Rattle.vme_run.proofs.lemmas.Lists.{element_at}
use Rattle.vme_run.proofs.lemmas.ScriptTurns.{CanEnd, Leads, leads_first}
use Rattle.vme_run.proofs.lemmas.Turns.{Ready, one_turn, begun, own_board, transitions_own}
use Rattle.vme_run.proofs.lemmas.Reports.{answers, last, order}
use Rattle.vme_runner.specs.TurnCalls.{call_or, first_call, script_state_call, place_call, turn_call}
use Rattle.vme_runner.specs.OrderLaws.{IsTurnAfter}
use Rattle.vme_runner.proofs.Turned.{machine_called}
use Rattle.vme_runner.proofs.Runs.{AllStand, opening_stand, run_stand, turn_made}

-- the next call of a processor that has a transition left is that of the transition
first_leads : (config : Configuration) (board : ℕ) (lines : List Line) (replies : List EventReply) (m : Transition) (rest : List Transition)
    (more : List LineReply) → Leads config board lines replies (m ∷ rest) more → first_call config board lines replies ≡ Some (call_of m.event)
first_leads config board [] replies m rest more leads = absurd (cc leads.1)
first_leads config board (line ∷ lines) replies m rest more leads =
    by_first (λ later leads. first_leads config board lines [] m rest later leads) leads.first leads.moves_are leads.goes
  where
    by_first : ((later : List LineReply) → Leads config board lines [] (m ∷ rest) later → first_call config board lines [] ≡ Some (call_of m.event))
        → (first : List Transition) → m ∷ rest ≡ first ++ leads.rest → Continues config board line replies first leads.last
        → call_or (line_next config board line replies) (first_call config board lines []) ≡ Some (call_of m.event)
    by_first again [] is goes =
        let next : line_next config board line replies ≡ Returns leads.answer = ap (line_next config board line) goes ∙ leads.ends in
        ap (λ (next : NextStep LineReply). call_or next (first_call config board lines [])) next
        ∙ again leads.more (leads_first config board lines (m ∷ rest) leads.more
        (subst (λ (ms : List Transition). IsTrace config board lines ms leads.more) (sym is) leads.then))
    by_first again (f ∷ later) is goes =
        let same : f ≡ m = cc is in
        let next : line_next config board line replies ≡ Invokes (call_of m.event) = goes.0 ∙ ap (λ (f : Transition). Invokes (call_of f.event)) same in
        ap (λ (next : NextStep LineReply). call_or next (first_call config board lines [])) next

-- a transition is the call of the next turn of its processor's slot, with the machine's reply
pub record AtTurn (config : Configuration) (system : SystemState) (m : Transition) : Type 0 where
  pub there : m.who < length config.boards
  pub call : turn_call config system (slot_at config m.who) ≡ Some (m.who, call_of m.event)
  pub reply : m.reply ≡ (machine_step system.machine m.who (call_of m.event)).1

-- transitions are the calls of turns of their processors' slots, one after another
abbrev pub Along : Configuration → SystemState → List Transition → Type 0
Along config system [] = Unit {0}
Along config system (m ∷ run) = AtTurn config system m × Along config (turn config system (slot_at config m.who)) run

module _ (config : Configuration) (lawful : IsLawful config) (reported : List (List LineReply)) where
  -- the turn of the next transition's processor makes the call of that transition
  call_there : (system : SystemState) (m : Transition) (moves : List Transition) → length reported ≡ length config.boards
      → m.who < length config.boards
      → Ready config reported system (m ∷ moves) → turn_call config system (slot_at config m.who) ≡ Some (m.who, call_of m.event)
  unfolding turn_call
  call_there system m moves all there ready =
      let b : ℕ = m.who in
      let c = element_at system.script_states b (subst (λ n. b < n) (sym ready.count) there) in
      let own = element_at reported b (subst (λ n. b < n) (sym all) there) in
      let can : CanEnd config b c.0 (m ∷ transitions_of b moves) own.0 =
      subst (λ (ms : List Transition). CanEnd config b c.0 ms own.0) (transitions_own m moves) (ready.each b c.0 own.0 c.1 own.1) in
      ap (place_call config system) (own_board config lawful b there) ∙ ap (script_state_call config b) c.1
      ∙ ap (λ (call : Option Call). option_map {U = ℕ × Call} (λ one. (b, one)) call)
      (first_leads config b (lines_left config b c.0) c.0.replies m (transitions_of b moves) can.more can.leads)

  -- transitions that a machine performs are the calls of turns, one after another
  along : (moves : List Transition) (system : SystemState) (machine : Machine) → length reported ≡ length config.boards
      → All (λ m. m.who < length config.boards) moves → Performs system.machine moves machine → Ready config reported system moves
      → Along config system moves
  along [] system machine all known plays ready = tt
  along (m ∷ moves) system machine all known plays ready =
      let there : m.who < length config.boards = All-head (λ (m : Transition). m.who < length config.boards) m moves known in
      let one = one_turn config lawful reported system m moves all there plays.0 ready in (
        record { there = there; call = call_there system m moves all there ready; reply = plays.0 },
        along moves (turn config system (slot_at config m.who)) machine all (All-tail (λ (m : Transition). m.who < length config.boards) m moves known)
            (subst (λ (w : Machine). Performs w moves machine) (sym one.machine_is) plays.1) one.ready,
      )

-- the transitions of a report are the calls of turns from the first on
pub report_along : (config : Configuration) (report : Report) → IsLawful config → (is : IsReportOfOneOrder config report)
    → Along config (initial_state config) is.run
report_along config report lawful is =
    let replies = answers config report lawful is in
    let end = last config report lawful is in
    let one = order config report lawful is in
    along config lawful replies is.run (initial_state config) end one.count one.known one.performed (begun config is.run replies end lawful one)

-- after the turns of the first transitions, the other transitions are the calls of turns
pub dropped : (config : Configuration) (before rest : List Transition) (system : SystemState)
    → Along config system (before ++ rest)
    → Along config (take_turns config system (slots_of config before)) rest
dropped config [] rest system along = along
dropped config (m ∷ before) rest system along = dropped config before rest (turn config system (slot_at config m.who)) along.1

-- the turn of a transition leads to the machine after it
pub turn_moves : (config : Configuration) (system : SystemState) (m : Transition) → AtTurn config system m
    → (turn config system (slot_at config m.who)).machine ≡ (machine_step system.machine m.who (call_of m.event)).0
turn_moves config system m at = turn_made config system (slot_at config m.who) ∙ ap (machine_called system.machine) at.call

-- the turns of transitions lead to the machine after them
pub moved : (config : Configuration) (before rest : List Transition) (system : SystemState) → Along config system (before ++ rest)
    → (take_turns config system (slots_of config before)).machine ≡ performed system.machine before
moved config [] rest system along = refl
moved config (m ∷ before) rest system along =
    moved config before rest (turn config system (slot_at config m.who)) along.1
    ∙ ap (λ (w : Machine). performed w before) (turn_moves config system m along.0)

-- a place in the order of a report: the system there, the machine there, and what comes after it
pub record IsPlaceIn (config : Configuration) (before after : List Transition) (system : SystemState) : Type 0 where
  pub along : Along config system after
  pub stand : AllStand config system
  pub machine : system.machine ≡ machine_after config before

-- each prefix of a report's order leads to a place in it
pub place_in : (config : Configuration) (report : Report) (is : IsReportOfOneOrder config report) (before after : List Transition) → IsLawful config
    → is.run ≡ before ++ after → IsPlaceIn config before after (take_turns config (initial_state config) (slots_of config before))
place_in config report is before after lawful whole =
    let all : Along config (initial_state config) (before ++ after) =
    subst (Along config (initial_state config)) whole (report_along config report lawful is) in
    record {
      along = dropped config before after (initial_state config) all;
      stand = run_stand config (initial_state config) (slots_of config before) lawful (opening_stand config lawful);
      machine = moved config before after (initial_state config) all;
    }

-- each transition of a report is the call of a turn
pub turn_after : (config : Configuration) (report : Report) (is : IsReportOfOneOrder config report) (before after : List Transition) (m : Transition)
    → IsLawful config → is.run ≡ before ++ m ∷ after → IsTurnAfter config before m
unfolding state_after
turn_after config report is before after m lawful whole =
    let place = place_in config report is before (m ∷ after) lawful whole in
    record {
      machine = place.machine;
      call = place.along.0.call;
      reply = place.along.0.reply ∙ ap (λ (w : Machine). (machine_step w m.who (call_of m.event)).1) place.machine;
    }
