-- One order of the transitions of all processors is an order of turns.
use Rattle.std.proofs.Common.{◌≡◌, ◌≢◌, ℕ, zero, suc, ◌+◌, ◌<◌, ◌≤◌, ◌==◌, List, [], ◌∷◌, ◌++◌, length, map, Some, All, refl, ap, sym, subst, ◌∙◌, arith, inl, inr, eq-eqb, ne_eqb, length-set}
use Rattle.std.specs.Prelude.{slice_get, slice_set, slice_index_or, nat_lt, true}
use Rattle.std.proofs.lemmas.Bool.{cases_eq, lt-ltb}
use Rattle.std.proofs.lemmas.List.{length-map}
use Rattle.std.specs.List.{position_or_len}
use Rattle.std.proofs.lemmas.List.Sums.{position_or_len_is}
use Rattle.std.proofs.lemmas.List.Elements.{All-head, All-tail}
use Rattle.std.proofs.lemmas.Option.{same_Some, slice_get_within, slice_get_cases, slice_get-get_or, get_or_from_slice_get}
use Rattle.vme_core.specs.Runs.{Machine, Transition}
use Rattle.vme_core.specs.Calls.{call_of, machine_step}
use Rattle.vme_shared.specs.declared.reply.LineReply.{LineReply}
use Rattle.vme_script.specs.declared.board.BoardConfig.{BoardConfig}
use Rattle.vme_script.specs.declared.script.ScriptLine.{ScriptLine}
use Rattle.vme_script.specs.Configurations.{Configuration}
use Rattle.vme_script.specs.Lawful.{IsLawful}
use Rattle.vme_line_task.specs.Scripts.{slot_at, lines_at}
use Rattle.vme_line_task.specs.Traces.{ScriptState}
use Rattle.vme_stepper.specs.Turns.{SystemState, script_state, script_state_turn, lines_left, turn_in, turn_at, board_in_slot, turn, run as take_turns, initial_state, state_after}
use Rattle.vme_bus_objects.specs.Runs.{transitions_of}
use Rattle.vme_run.specs.Orders.{Performs, slots_of, IsOneOrder, ended_state}
use Rattle.vme_run.proofs.lemmas.Lists.{set_here, set_elsewhere, map_at, same_elements}
use Rattle.vme_run.proofs.lemmas.ScriptTurns.{CanEnd, Turned, leads_first, turned, finished}

-- the transitions of the processor that makes the first one begin with it
pub transitions_own : (m : Transition) (moves : List Transition)
    → transitions_of m.who (m ∷ moves) ≡ m ∷ transitions_of m.who moves
transitions_own m moves = rw (eq-eqb m.who m.who refl) refl

-- the transitions of a processor that does not make the first one are among the others
pub transitions_other : (b : ℕ) (m : Transition) (moves : List Transition) → m.who ≢ b
    → transitions_of b (m ∷ moves) ≡ transitions_of b moves
transitions_other b m moves other = rw (ne_eqb m.who b other) refl

-- the board in the slot of a board is that board
pub own_board : (config : Configuration) (lawful : IsLawful config) (b : ℕ) → b < length config.boards
    → board_in_slot config (slot_at config b) ≡ Some b
own_board config lawful b within = elim (slice_get_cases config.boards b).1 [
  | inl at ↦
      let slot_is : slot_at config b ≡ at.0.slot =
      get_or_from_slice_get (map (λ (one : BoardConfig). one.slot) config.boards) b at.0.slot 0
      (map_at (λ (one : BoardConfig). one.slot) config.boards b at.0 at.2) in
      let first : position_or_len (λ (board : BoardConfig). board.slot == slot_at config b) config.boards ≡ b =
      position_or_len_is (λ (board : BoardConfig). board.slot == slot_at config b) config.boards b at.0 (omega (arith, within))
      (λ k less. ne_eqb _ _ (λ same.
      let there : k < length config.boards = omega (arith, less, within) in
      let apart : k ≡ b =
      lawful.apart k b (slice_index_or config.boards k at.0) at.0 (slice_get-get_or config.boards k at.0 there) at.2
      (same ∙ slot_is) in
      omega (arith, less, apart)))
      (λ _. eq-eqb _ _ (ap (λ (one : BoardConfig). one.slot) at.3 ∙ sym slot_is)) in
      let some : nat_lt b (length config.boards) ≡ true = lt-ltb b (length config.boards) within in
      rw first (rw some refl)
  | inr past ↦ absurd (omega (arith, past.0, within))
]

-- each processor's own transitions lead it to the replies of its lines
pub record Ready (config : Configuration) (answers : List (List LineReply)) (system : SystemState) (moves : List Transition) : Type 0 where
  pub count : length system.script_states ≡ length config.boards
  pub each : (b : ℕ) (c : ScriptState) (own : List LineReply) → slice_get system.script_states b ≡ Some c
      → slice_get answers b ≡ Some own
      → CanEnd config b c (transitions_of b moves) own

-- a turn makes the transition m, and the other transitions lead all processors to the replies of their lines
pub record OneTurn (config : Configuration) (answers : List (List LineReply)) (system : SystemState) (m : Transition) (moves : List Transition)
    : Type 0 where
  pub machine_is : (turn config system (slot_at config m.who)).machine ≡ (machine_step system.machine m.who (call_of m.event)).0
  pub ready : Ready config answers (turn config system (slot_at config m.who)) moves

module _ (config : Configuration) (lawful : IsLawful config) (answers : List (List LineReply)) where
  -- a turn of a board's slot is a turn of its processor
  turn_is : (system : SystemState) (b : ℕ) (c : ScriptState) → b < length config.boards
      → slice_get system.script_states b ≡ Some c
      → turn config system (slot_at config b) ≡ turn_in config system b (Some c)
  unfolding turn
  turn_is system b c there found =
      ap (turn_at config system) (own_board config lawful b there) ∙ ap (turn_in config system b) found

  -- one transition is one turn
  pub one_turn : (system : SystemState) (m : Transition) (moves : List Transition) → length answers ≡ length config.boards
      → m.who < length config.boards
      → m.reply ≡ (machine_step system.machine m.who (call_of m.event)).1 → Ready config answers system (m ∷ moves)
      → OneTurn config answers system m moves
  one_turn system m moves all there reply ready = record {
    machine_is = ap (λ (w : SystemState). w.machine) now ∙ did.machine_is;
    ready = subst (λ (w : SystemState). Ready config answers w moves) (sym now) (record { count = length-set system.script_states b next.1 ∙ ready.count; each = each });
  }
    where
      b : ℕ
      b = m.who

      within : b < length system.script_states
      within = subst (λ n. b < n) (sym ready.count) there

      d : ScriptState
      d = script_state [] []

      c : ScriptState
      c = slice_index_or system.script_states b d

      found : slice_get system.script_states b ≡ Some c
      found = slice_get-get_or system.script_states b d within

      mine : List LineReply
      mine = slice_index_or answers b []

      owned : slice_get answers b ≡ Some mine
      owned = slice_get-get_or answers b [] (subst (λ n. b < n) (sym all) there)

      next : Machine × ScriptState
      next = script_state_turn config b (lines_left config b c) system.machine c

      now : turn config system (slot_at config b) ≡ (record { machine = next.0; script_states = slice_set system.script_states b next.1 })
      now = turn_is system b c there found

      can : CanEnd config b c (m ∷ transitions_of b moves) mine
      can =
          subst (λ (ms : List Transition). CanEnd config b c ms mine) (transitions_own m moves) (ready.each b c mine found owned)

      did : Turned config b system.machine m (transitions_of b moves) mine next
      did =
          turned config b (lines_left config b c) system.machine c m
          (transitions_of b moves) mine can.more refl reply can.split can.leads

      each : (p : ℕ) (one : ScriptState) (own : List LineReply) → slice_get (slice_set system.script_states b next.1) p ≡ Some one
          → slice_get answers p ≡ Some own
          → CanEnd config p one (transitions_of p moves) own
      each p one own at its = elim (cases_eq p b) [
        | inl same ↦
            let here : next.1 ≡ one =
            same_Some next.1 one (sym (set_here system.script_states b next.1 within) ∙ ap (slice_get (slice_set system.script_states b next.1)) (sym same) ∙ at) in
            let ours : mine ≡ own = same_Some mine own (sym owned ∙ ap (slice_get answers) (sym same) ∙ its) in
            subst (λ p. CanEnd config p one (transitions_of p moves) own) (sym same)
            (subst (λ (one : ScriptState). CanEnd config b one (transitions_of b moves) own) here (subst (λ (own : List LineReply). CanEnd config b next.1 (transitions_of b moves) own) ours did.can))
        | inr other ↦
            subst (λ (ms : List Transition). CanEnd config p one ms own) (transitions_other p m moves (λ same. other (sym same)))
            (ready.each p one own (sym (set_elsewhere system.script_states b p next.1 (λ same. other (sym same))) ∙ at) its)
      ]

  -- turns make all transitions, and each processor can then end
  record AllTurns (system : SystemState) (moves : List Transition) (machine : Machine) : Type 0 where
    machine_is : (take_turns config system (slots_of config moves)).machine ≡ machine
    ready : Ready config answers (take_turns config system (slots_of config moves)) []

  -- a run of transitions is as many turns
  all_turns : (moves : List Transition) (system : SystemState) (machine : Machine) → length answers ≡ length config.boards
      → All (λ m. m.who < length config.boards) moves → Performs system.machine moves machine → Ready config answers system moves
      → AllTurns system moves machine
  all_turns [] system machine all known performs ready = record { machine_is = performs; ready = ready }
  all_turns (m ∷ moves) system machine all known performs ready =
      let there : m.who < length config.boards = All-head (λ (m : Transition). m.who < length config.boards) m moves known in
      let one = one_turn system m moves all there performs.0 ready in
      let then =
      all_turns moves (turn config system (slot_at config m.who)) machine all
      (All-tail (λ (m : Transition). m.who < length config.boards) m moves known)
      (subst (λ (w : Machine). Performs w moves machine) (sym one.machine_is) performs.1) one.ready in
      record { machine_is = then.machine_is; ready = then.ready }

  -- one last turn of each of n slots, from that of board i on
  abbrev pub last_round : ℕ → ℕ → List ℕ
  last_round i zero = []
  last_round i (suc n) = slot_at config i ∷ last_round (suc i) n

  -- the processors before i have recorded the replies of all lines, and the others have no transition left
  record Ending (i : ℕ) (system : SystemState) : Type 0 where
    count : length system.script_states ≡ length config.boards
    done : (b : ℕ) (own : List LineReply) → b < i → slice_get answers b ≡ Some own
        → slice_get system.script_states b ≡ Some (script_state own [])
    left : (b : ℕ) (c : ScriptState) (own : List LineReply) → i ≤ b → slice_get system.script_states b ≡ Some c
        → slice_get answers b ≡ Some own
        → CanEnd config b c [] own

  -- all processors have recorded the replies of all lines
  record Ended (system : SystemState) (after : SystemState) : Type 0 where
    machine_is : after.machine ≡ system.machine
    count : length after.script_states ≡ length config.boards
    done : (b : ℕ) (own : List LineReply) → slice_get answers b ≡ Some own
        → slice_get after.script_states b ≡ Some (script_state own [])

  -- the last turns record the replies of all lines
  last_turns : (n i : ℕ) (system : SystemState) → i + n ≡ length config.boards → length answers ≡ length config.boards
      → Ending i system
      → Ended system (take_turns config system (last_round i n))
  last_turns zero i system sum all ending = record {
    machine_is = refl;
    count = ending.count;
    done = λ b own at. ending.done b own (let less = slice_get_within answers b own at in omega arith) at;
  }
  last_turns (suc n) i system sum all ending = then (λ new ending. last_turns n (suc i) new (omega arith) all ending)
    where
      there : i < length config.boards
      there = omega arith

      within : i < length system.script_states
      within = subst (λ n. i < n) (sym ending.count) there

      d : ScriptState
      d = script_state [] []

      c : ScriptState
      c = slice_index_or system.script_states i d

      found : slice_get system.script_states i ≡ Some c
      found = slice_get-get_or system.script_states i d within

      mine : List LineReply
      mine = slice_index_or answers i []

      owned : slice_get answers i ≡ Some mine
      owned = slice_get-get_or answers i [] (subst (λ n. i < n) (sym all) there)

      can : CanEnd config i c [] mine
      can = ending.left i c mine (omega arith) found owned

      next : script_state_turn config i (lines_left config i c) system.machine c ≡ (system.machine, script_state mine [])
      next = finished config i (lines_left config i c) system.machine c mine can.more refl can.split can.leads

      new : SystemState
      new = record { machine = system.machine; script_states = slice_set system.script_states i (script_state mine []) }

      now : turn config system (slot_at config i) ≡ new
      now =
          turn_is system i c there found
          ∙ ap (λ (next : Machine × ScriptState). record { machine = next.0; script_states = slice_set system.script_states i next.1 }) next

      ending' : Ending (suc i) new
      ending' = record {
        count = length-set system.script_states i (script_state mine []) ∙ ending.count;
        done = λ b own less at. elim (cases_eq b i) [
          | inl same ↦
              let ours : mine ≡ own = same_Some mine own (sym owned ∙ ap (slice_get answers) (sym same) ∙ at) in
              ap (slice_get new.script_states) same ∙ set_here system.script_states i (script_state mine []) within
              ∙ ap (λ own. Some (script_state own [])) ours
          | inr other ↦ set_elsewhere system.script_states i b (script_state mine []) (λ same. other (sym same)) ∙ ending.done b own (omega arith) at
        ];
        left = λ b one own least at its.
            ending.left b one own (omega arith) (sym (set_elsewhere system.script_states i b (script_state mine []) (λ same. omega arith)) ∙ at) its;
      }

      then : ((new : SystemState) → Ending (suc i) new → Ended new (take_turns config new (last_round (suc i) n)))
          → Ended system (take_turns config system (last_round i (suc n)))
      then again =
          let after = again new ending' in
          let ended : Ended new (take_turns config (turn config system (slot_at config i)) (last_round (suc i) n)) =
          subst (λ (w : SystemState). Ended new (take_turns config w (last_round (suc i) n))) (sym now) after in
          record { machine_is = ended.machine_is; count = ended.count; done = ended.done }

-- consecutive turns are one run of turns
turns_append : (config : Configuration) (system : SystemState) (a b : List ℕ)
    → take_turns config system (a ++ b) ≡ take_turns config (take_turns config system a) b
turns_append config system [] b = refl
turns_append config system (slot ∷ a) b = turns_append config (turn config system slot) a b

-- each script state before the first turn is empty
state_begun : (scripts : List (List ScriptLine)) (b : ℕ) (c : ScriptState)
    → slice_get (map (λ script. script_state [] []) scripts) b ≡ Some c → script_state [] [] ≡ c
state_begun [] b c found = absurd (cc found)
state_begun (script ∷ scripts) zero c found = same_Some (script_state [] []) c found
state_begun (script ∷ scripts) (suc b) c found = state_begun scripts b c found

-- before the first turn, the transitions of each processor lead it to the replies of its lines
pub begun : (config : Configuration) (moves : List Transition) (answers : List (List LineReply)) (machine : Machine) (lawful : IsLawful config)
    → IsOneOrder config moves answers machine → Ready config answers (initial_state config) moves
begun config moves answers machine lawful order = record {
  count = length-map config.scripts (λ script. script_state [] []) ∙ lawful.scripts;
  each = λ b c own found its.
      subst (λ (c : ScriptState). CanEnd config b c (transitions_of b moves) own) (state_begun config.scripts b c found)
      (record { more = own; split = refl; leads = leads_first config b (lines_at config b) (transitions_of b moves) own (order.traces b own its) });
}

-- one order of the transitions of all processors is the order of some turns
pub one_order : (config : Configuration) (moves : List Transition) (answers : List (List LineReply)) (machine : Machine)
    → IsLawful config
    → IsOneOrder config moves answers machine → (slots : List ℕ) × (state_after config slots ≡ ended_state machine answers)
unfolding state_after
one_order config moves answers machine lawful order =
    let ready = begun config moves answers machine lawful order in
    let made =
    all_turns config lawful answers moves (initial_state config) machine order.count order.known order.performed ready in
    let before : List ℕ = slots_of config moves in
    let system : SystemState = take_turns config (initial_state config) before in
    let round : List ℕ = last_round config lawful answers 0 (length config.boards) in
    let ending : Ending config lawful answers 0 system = record {
      count = made.ready.count;
      done = λ b own less. absurd (omega arith);
      left = λ b c own least. made.ready.each b c own;
    } in
    let last = last_turns config lawful answers (length config.boards) 0 system (omega arith) order.count ending in
    let after : SystemState = take_turns config system round in
    let machine_is : after.machine ≡ machine = last.machine_is ∙ made.machine_is in
    let states_are : after.script_states ≡ map (λ own. script_state own []) answers =
    same_elements after.script_states (map (λ own. script_state own []) answers)
    (last.count ∙ sym order.count ∙ sym (length-map answers (λ own. script_state own [])))
    (λ i less.
    let own = slice_index_or answers i [] in
    let at : slice_get answers i ≡ Some own =
    slice_get-get_or answers i [] (subst (λ n. i < n) (length-map answers (λ own. script_state own [])) less) in
    last.done i own at ∙ sym (map_at (λ own. script_state own []) answers i own at)) in
    (before ++ round, turns_append config (initial_state config) before round ∙ λ k. record { machine = machine_is k; script_states = states_are k })
