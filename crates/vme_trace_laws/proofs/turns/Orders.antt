-- Each event of a run belongs to the transfer of the processor that holds the bus, if it belongs to one.
use Rattle.std.proofs.Common.{◌≡◌, ◌≢◌, ℕ, ◌<◌, List, [], ◌∷◌, ◌++◌, length, Option, Some, None, true, refl, ap, sym, subst, ◌∙◌, arith, append_assoc, inl, inr}
use Rattle.std.specs.Prelude.{slice_get, option_map}
use Rattle.std.specs.Option.{option_and_then, option_to_list}
use Rattle.std.proofs.lemmas.Bool.{false≢true}
use Rattle.std.proofs.lemmas.List.{append-nil}
use Rattle.std.proofs.lemmas.Bool.Decides.{eqb_tells}
use Rattle.vme_arbiter.specs.declared.command.ArbReply.TheVariants as arb_replies
use Rattle.vme_arbiter.specs.Arbitration.{opening_bus}
use Rattle.vme_arbiter.specs.Masters.{MatchesReply}
use Rattle.vme_arbiter.specs.Orderly as arbiter
use Rattle.vme_arbiter.proofs.lemmas.Orderly.{orderly-opening}
use Rattle.vme_core.specs.declared.event.EventReply.TheVariants as replies
use Rattle.vme_core.specs.Runs.{Machine}
use Rattle.vme_master.specs.Machine.{TaskView}
use Rattle.vme_script.specs.declared.script.ScriptLine.{ScriptLine}
use Rattle.vme_script.specs.Configurations.{Configuration}
use Rattle.vme_script.specs.Lawful.{IsLawful}
use Rattle.vme_line_task.specs.Scripts.{slot_at, level_at}
use Rattle.vme_stepper.specs.Turns.{SystemState, script_state, board_in_slot, initial_state, state_after}
use Rattle.vme_stepper.specs.Steppers.{StepperView, stepper_turn, stepper_turn_at, processor_of, stepper_of}
use Rattle.vme_stepper.proofs.lemmas.Runs.{turn_more}
use Rattle.vme_trace.specs.declared.observation.Observation.{Observation}
use Rattle.vme_trace.specs.Observations.{observed, observed_at, observed_from, observations}
use Rattle.vme_trace.specs.declared.dump.handshake.Handshake.{Handshake}
use Rattle.vme_trace.specs.Handshakes.{first_handshake}
use Rattle.vme_trace_laws.specs.Transfers.{OpenTransfer, open_after}
use Rattle.vme_trace.specs.Slots.{releases, has_ended}
use Rattle.vme_trace_laws.specs.Steps.{IsStepShown, AreDataInOrder}
use Rattle.vme_trace_laws.proofs.turns.Elements.{get_map}
use Rattle.vme_trace_laws.proofs.turns.Turns.{processors_get}
use Rattle.vme_trace_laws.proofs.turns.Runs.{place_below}
use Rattle.vme_trace_laws.proofs.turns.Views.{holding, amid, current, last_reply, IsLike, like_same}
use Rattle.vme_trace_laws.proofs.turns.ShownData.{IsAtDatum}
use Rattle.vme_trace_laws.proofs.turns.Currents.{current_in, open_next, goes_on, own_placed, other_placed}
use Rattle.vme_trace_laws.proofs.turns.Fits.{IsFit}
use Rattle.vme_trace_laws.proofs.turns.ArbiterStates.{step_orderly, slot_ok, level_ok}
use Rattle.vme_trace_laws.proofs.turns.Places.{same_board}
use Rattle.vme_trace_laws.proofs.turns.Moves.{IsMove}
use Rattle.vme_trace_laws.proofs.turns.Tenures.{IsTenure, IsOpening, going_holds, going_apart, own_holds, opening_of, tenure_next, tenure_same}
use Rattle.vme_trace_laws.proofs.turns.Goes.{view_in}
use Rattle.vme_trace_laws.proofs.turns.Walks.{view_at, IsTurn, system_turn}

module _ (config : Configuration) where
  -- an event begins its transfer when none is open, or belongs to the open one; both are of the slot that holds the bus; an
  -- event without a handshake is of another processor than the open transfer
  pub record IsInOrder (machine : Machine) (going : Option ℕ) (o : Observation) : Type 0 where
    pub opening : IsOpening going o
    pub own : (t : Handshake) → first_handshake o.activity o.reply ≡ Some t
        → (o.board < length config.boards) × (machine.bus.object.holder ≡ Some (slot_at config o.board))
    pub open_holds : (b : ℕ) → going ≡ Some b → (b < length config.boards) × (machine.bus.object.holder ≡ Some (slot_at config b))
    pub apart : (b : ℕ) → going ≡ Some b → first_handshake o.activity o.reply ≡ None → o.board ≡ b → ⊥

  -- events are the steps of a run of the machine, each in order
  abbrev pub IsOrderly : Machine → Option ℕ → List Observation → Type 0
  IsOrderly machine going [] = Unit {0}
  IsOrderly machine going (o ∷ events) =
      (next : Machine) × IsStepShown config machine o next × IsInOrder machine going o × IsOrderly next (open_after going o) events

module _ (config : Configuration) where
  -- events are the steps of a run of the machine; a release is by the slot that holds the bus, and no command is denied
  abbrev pub AreGranted : Machine → List Observation → Machine → Type 0
  AreGranted before [] after = after ≡ before
  AreGranted before (o ∷ events) after =
      (next : Machine) × IsStepShown config before o next
      × (releases o.activity ≡ true → before.bus.object.holder ≡ Some (slot_at config o.board))
      × (o.reply ≢ replies.Bus arb_replies.Denied) × AreGranted next events after

module _ (config : Configuration) (lawful : IsLawful config) where
  -- the invariant of a stepper: of the processors' tenures, and of the place of each in the open transfer
  record IsSound (stepper : StepperView) (going : Option ℕ) (open_one : Option OpenTransfer) : Type 0 where
    tenure : IsTenure config lawful stepper.machine.bus.object (view_at stepper) going
    placed : (j : ℕ) → current (view_at stepper j) ≡ current_in open_one j
    orderly : arbiter.IsOrderly stepper.machine.bus.object
    fits : (j : ℕ) → j < length config.boards → MatchesReply stepper.machine.bus.object (slot_at config j) (last_reply (view_at stepper j))

  -- events are in order, and so are the data that they show and the commands to the arbiter
  abbrev Follows : Machine → Option ℕ → Option OpenTransfer → List Observation → Machine → Type 0
  Follows machine going open_one events last =
      IsOrderly config machine going events × AreDataInOrder config machine open_one events × AreGranted config machine events last

  -- what follows a turn
  turned : (board : ℕ) (found : Option Observation) (before after : StepperView) (going : Option ℕ) (open_one : Option OpenTransfer)
      → (later : List Observation) (last : Machine) → board < length config.boards → IsTurn config board found before after → IsSound before going open_one
      → ((next : Option ℕ) (more : Option OpenTransfer) → IsSound after next more → Follows after.machine next more later last)
      → Follows before.machine going open_one (option_to_list found ++ later) last
  turned board None before after going open_one later last there turn sound rest =
      subst (λ (m : Machine). Follows m going open_one later last) turn.step.0 (rest going open_one (record {
        tenure = tenure_same config lawful before.machine.bus.object after.machine.bus.object (view_at before) (view_at after) going sound.tenure
            (ap (λ (m : Machine). m.bus.object.holder) turn.step.0) (λ j. like j);
        placed = λ j. (like j).datum ∙ sound.placed j;
        orderly = subst (λ (m : Machine). arbiter.IsOrderly m.bus.object) (sym turn.step.0) sound.orderly;
        fits = λ j inside. subst (λ (m : Machine). MatchesReply m.bus.object (slot_at config j) (last_reply (view_at after j))) (sym turn.step.0)
            (subst (MatchesReply before.machine.bus.object (slot_at config j)) (sym (like j).reply) (sound.fits j inside));
      }))
    where
      like : (j : ℕ) → IsLike (view_at after j) (view_at before j)
      like j =
          elim (eqb_tells board j) [
            | inl same ↦ subst (λ k. IsLike (view_at after k) (view_at before k)) same.1 turn.step.1
            | inr other ↦ subst (λ v. IsLike v (view_at before j)) (sym (turn.others j other.1)) (like_same (view_at before j))
          ]
  turned board (Some o) before after going open_one later last there turn sound rest =
      let own : o.board ≡ board = turn.step.0 in
      let tenure = sound.tenure in
      let step : IsStepShown config before.machine o after.machine = turn.step.2 in
      let there' : o.board < length config.boards = subst (λ (b : ℕ). b < length config.boards) (sym own) there in
      let move : IsMove (slot_at config o.board) (view_at before o.board) (view_at after o.board) before.machine.bus.object after.machine.bus.object
      o.activity o.reply
      = subst (λ (b : ℕ). IsMove (slot_at config b) (view_at before b) (view_at after b) before.machine.bus.object after.machine.bus.object
      o.activity o.reply) (sym own) turn.step.1 in
      let at : IsAtDatum config o.activity step.call step.datum (has_ended o) (view_at before o.board) (view_at after o.board)
      = subst (λ (b : ℕ). IsAtDatum config o.activity step.call step.datum (has_ended o) (view_at before b) (view_at after b)) (sym own) turn.step.3 in
      let bus = before.machine.bus.object in
      let new = after.machine.bus.object in
      let fit : IsFit (slot_at config o.board) (level_at config o.board) (view_at before o.board) (view_at after o.board) bus new o.reply
      = subst (λ (b : ℕ). IsFit (slot_at config b) (level_at config b) (view_at before b) (view_at after b) bus new o.reply) (sym own) turn.step.4 in
      let fitted = fit.own sound.orderly (slot_ok config lawful o.board there') (level_ok config lawful o.board) (sound.fits o.board there') in
      let more = open_next config open_one o.board (has_ended o) o.activity step.call step.datum in
      let next : IsSound after (open_after going o) more = record {
        tenure = tenure_next config lawful bus after.machine.bus.object (view_at before) (view_at after) going o tenure there'
            (λ j apart. turn.others j (λ same. apart (own ∙ same))) move;
        placed = λ j. elim (eqb_tells o.board j) [
          | inl same ↦
              subst (λ (k : ℕ). current (view_at after k) ≡ current_in more k) same.1
              (own_placed config lawful bus (view_at before) going tenure open_one sound.placed o.board (has_ended o) o.activity step.call step.datum
              (view_at after o.board) at)
          | inr other ↦
              ap current (turn.others j (λ same. other.1 (own ∙ same)))
              ∙ other_placed config lawful bus (view_at before) going tenure open_one sound.placed o.board j (has_ended o) o.activity step.call step.datum
              (view_at after o.board) other.0 at
        ];
        orderly = step_orderly config before.machine after.machine o step sound.orderly;
        fits = λ j inside. elim (eqb_tells o.board j) [
          | inl same ↦ subst (λ (k : ℕ). MatchesReply new (slot_at config k) (last_reply (view_at after k))) same.1 fitted.0
          | inr other ↦
              subst (λ (v : Option TaskView). MatchesReply new (slot_at config j) (last_reply v)) (sym (turn.others j (λ same. other.1 (own ∙ same))))
              (fit.others (slot_at config j) (last_reply (view_at before j))
              (λ same. other.1 (same_board config lawful o.board j there' inside same)) (sound.fits j inside))
        ];
      } in
      let release : releases o.activity ≡ true → bus.holder ≡ Some (slot_at config o.board)
      = λ is. (tenure.held o.board (move.releasing is)).1 in
      let after_it = rest (open_after going o) more next in (
        (
          after.machine,
          step,
          record {
            opening = λ t first. opening_of config lawful bus (view_at before) going tenure o (view_at after o.board) t
                (first_handshake o.activity o.reply) first move.shown;
            own = λ t first. own_holds config lawful bus (view_at before) going tenure o (view_at after o.board) t
                (first_handshake o.activity o.reply) first move.shown;
            open_holds = λ b is. going_holds config lawful bus (view_at before) going tenure b is;
            apart = λ b is none same. going_apart config lawful bus (view_at before) going tenure o (view_at after o.board) b
                (first_handshake o.activity o.reply) is none move.shown same;
          },
          after_it.0,
        ),
        (
          after.machine,
          step,
          more,
          goes_on config lawful bus (view_at before) going tenure open_one sound.placed o.board (has_ended o) o.activity step.call step.datum
              (view_at after o.board) at,
          after_it.1,
        ),
        (after.machine, step, release, fitted.1, after_it.2),
      )

  -- a turn at the index of a board, if there is one
  turned_at : (system : SystemState) (slot : ℕ) (place : Option ℕ) (going : Option ℕ) (open_one : Option OpenTransfer) (later : List Observation)
      → (last : Machine) → board_in_slot config slot ≡ place → IsSound (stepper_of config system) going open_one
      → ((next : Option ℕ) (more : Option OpenTransfer) → IsSound (stepper_turn_at config (stepper_of config system) place) next more
      → Follows (stepper_turn_at config (stepper_of config system) place).machine next more later last)
      → Follows system.machine going open_one (option_to_list (observed_at config (stepper_of config system) place) ++ later) last
  turned_at system slot None going open_one later last is sound rest = rest going open_one sound
  turned_at system slot (Some board) going open_one later last is sound rest =
      let stepper : StepperView = stepper_of config system in
      let there = place_below config.boards slot board is in
      turned board (observed config stepper board) stepper (stepper_turn config stepper board) going open_one later last there
      (system_turn config system board (slice_get system.script_states board) there refl) sound rest

  -- after some turns, what later turns did is in order
  later_orderly : (before slots : List ℕ) (going : Option ℕ) (open_one : Option OpenTransfer)
      → IsSound (stepper_of config (state_after config before)) going open_one
      → Follows (state_after config before).machine going open_one (observed_from config (stepper_of config (state_after config before)) slots)
      (state_after config (before ++ slots)).machine
  later_orderly before [] going open_one sound = (tt, tt, ap (λ (all : List ℕ). (state_after config all).machine) (append-nil before))
  later_orderly before (slot ∷ slots) going open_one sound =
      let system = state_after config before in
      let stepper : StepperView = stepper_of config system in
      let place = board_in_slot config slot in
      let next : stepper_turn_at config stepper place ≡ stepper_of config (state_after config (before ++ slot ∷ []))
      = turn_more config stepper before slot place refl refl in
      let all = (state_after config (before ++ (slot ∷ slots))).machine in
      turned_at system slot place going open_one (observed_from config (stepper_turn_at config stepper place) slots) all refl sound
      (λ new more rest. subst (λ (s : StepperView). Follows s.machine new more (observed_from config s slots) all) (sym next)
      (subst (λ (turns : List ℕ). Follows (state_after config (before ++ slot ∷ [])).machine new more
      (observed_from config (stepper_of config (state_after config (before ++ slot ∷ []))) slots) (state_after config turns).machine)
      (append_assoc before (slot ∷ []) slots)
      (later_orderly (before ++ slot ∷ []) slots new more (subst (λ (s : StepperView). IsSound s new more) next rest))))

  -- at the start no line has begun
  start_view : (board : ℕ) (found : Option (List ScriptLine)) → slice_get config.scripts board ≡ found → view_at (stepper_of config (initial_state config)) board ≡ None
  start_view board found is =
      ap (option_and_then view_in) (processors_get config 0 board board (initial_state config).script_states (omega arith)
      ∙ ap (option_map (processor_of config board)) (get_map (λ (script : List ScriptLine). script_state [] []) config.scripts board ∙ ap (option_map (λ (script : List ScriptLine). script_state [] [])) is))
      ∙ none found
    where
      none : (found : Option (List ScriptLine))
          → option_and_then view_in (option_map (processor_of config board) (option_map (λ (script : List ScriptLine). script_state [] []) found)) ≡ None
      none None = refl
      none (Some script) = refl

  -- the invariant holds at the start
  start_sound : IsSound (stepper_of config (initial_state config)) None None
  start_sound = record {
    tenure = record {
      held = λ j now. absurd (false≢true (sym (ap holding (start_view j (slice_get config.scripts j) refl)) ∙ now));
      amid_open = λ j. ap amid (start_view j (slice_get config.scripts j) refl);
    };
    placed = λ j. ap current (start_view j (slice_get config.scripts j) refl);
    orderly = orderly-opening config.arbiter;
    fits = λ j inside. subst (λ (v : Option TaskView). MatchesReply (opening_bus config.arbiter) (slot_at config j) (last_reply v))
        (sym (start_view j (slice_get config.scripts j) refl)) (refl, refl);
  }

  -- the events of turns are in order
  pub run_orderly : (slots : List ℕ) → IsOrderly config (initial_state config).machine None (observations config slots)
  unfolding observations state_after
  run_orderly slots = (later_orderly [] slots None None start_sound).0

  -- and so are the data that they show
  pub run_data : (slots : List ℕ) → AreDataInOrder config (initial_state config).machine None (observations config slots)
  unfolding observations state_after
  run_data slots = (later_orderly [] slots None None start_sound).1

  -- and so are the commands to the arbiter
  pub run_granted : (slots : List ℕ) → AreGranted config (initial_state config).machine (observations config slots) (state_after config slots).machine
  unfolding observations state_after
  run_granted slots = (later_orderly [] slots None None start_sound).2
