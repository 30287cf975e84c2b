use Rattle.std.proofs.Common.{◌≡◌, ◌<◌, ◌≤◌, ◌+◌, ◌++◌, ◌∷◌, [], sym, ap, subst, ◌∙◌, arith, length, take, get_or, replicate, ℕ, List, Some, append_assoc}
use Rattle.std.proofs.lemmas.List.{append-nil, replicate_more}
use Rattle.vme_stepper.specs.Turns.{state_after}
use Rattle.vme_stepper.specs.Schedules.{schedule_turns}
use Rattle.vme_stepper.specs.Steppers.{stepper_of, IsStepperOf}
use Rattle.vme_stepper.proofs.SystemStates.{system_none}
use Rattle.vme_stepper.proofs.lemmas.Runs.{turn_more, few_steps, none_more, schedule_more, schedule_few}
use Rattle.vme_stepper.proofs.stepper.Stepper.run_schedule.Goals as goal
use Rattle.vme_stepper.proofs.stepper.Stepper.run_schedule.Goals.{in-Some+else-loop-turn-test, in_default}

pub loop-turns-init : goal.loop-turns-init
loop-turns-init c = record {
  run = c.requires.opening ∙ ap (stepper_of c.args.config.now) (sym (system_none c.args.config.now));
  sound = c.requires.stepper;
  pairs = c.schedule-turns-items.ensures;
}

pub loop-turn-init : goal.loop-turn-init
loop-turn-init c = record {
  run = c.loop-turns.invariant.run
      ∙ ap (λ slots. stepper_of c.args.config.now (state_after c.args.config.now slots))
      (sym (append-nil (schedule_turns (take c.loop-turns.turns-index c.args.config.now.schedule))));
  sound = c.loop-turns.invariant.sound;
}

pub turn-requires-clause-stepper : goal.turn-requires-clause-stepper
turn-requires-clause-stepper c = c.loop-turn.invariant.sound

pub turn-requires-clause-capacity : goal.turn-requires-clause-capacity
turn-requires-clause-capacity c =
    let pairs = c.loop-turns.invariant.pairs in
    let items : List (ℕ × ℕ) = c.schedule-turns-items.result.now in
    let within : c.loop-turns.turns-index < length items = c.loop-turns-test.true in
    let part : c.loop-turn._turn ≤ (get_or items c.loop-turns.turns-index (0, 0)).1 = c.loop-turn.auto._turn-end in
    let lawful = c.requires.lawful.turns in
    let few : length (schedule_turns (take c.loop-turns.turns-index items) ++ replicate c.loop-turn._turn (get_or items c.loop-turns.turns-index (0, 0)).0) ≤ 1000000
    = schedule_few items c.loop-turns.turns-index c.loop-turn._turn 1000000 within part (rw pairs lawful) in
    few_steps c.args.config.now c.loop-turn.self
    (schedule_turns (take c.loop-turns.turns-index c.args.config.now.schedule) ++ replicate c.loop-turn._turn (get_or items c.loop-turns.turns-index (0, 0)).0)
    c.loop-turn.invariant.run
    (let all = ap (λ (xs : List (ℕ × ℕ)). length (schedule_turns (take c.loop-turns.turns-index xs) ++ replicate c.loop-turn._turn (get_or items c.loop-turns.turns-index (0, 0)).0)) pairs in
    omega (arith, few, all))

pub loop-turn-preserved : goal.loop-turn-preserved
loop-turn-preserved c =
    let slot : ℕ = (get_or c.schedule-turns-items.result.now c.loop-turns.turns-index (0, 0)).0 in
    let before : List ℕ = schedule_turns (take c.loop-turns.turns-index c.args.config.now.schedule) in
    record {
      run = c.turn.ensures.turn
          ∙ turn_more c.args.config.now c.loop-turn.self (before ++ replicate c.loop-turn._turn slot) slot (Some c.in-Some.board) c.loop-turn.invariant.run c.in-Some.ensures.place
          ∙ ap (λ slots. stepper_of c.args.config.now (state_after c.args.config.now slots))
          (append_assoc before (replicate c.loop-turn._turn slot) (slot ∷ []) ∙ ap (λ turns. before ++ turns) (replicate_more c.loop-turn._turn slot));
      sound = c.turn.ensures.sound;
    }

pub loop-turns-preserved : goal.loop-turns-preserved
loop-turns-preserved c =
    let pairs = c.loop-turns.invariant.pairs in
    let items : List (ℕ × ℕ) = c.schedule-turns-items.result.now in
    let pair : ℕ × ℕ = get_or items c.loop-turns.turns-index (0, 0) in
    let before : List ℕ = schedule_turns (take c.loop-turns.turns-index c.args.config.now.schedule) in
    let more : before ++ replicate pair.1 pair.0 ≡ schedule_turns (take (c.loop-turns.turns-index + 1) c.args.config.now.schedule)
    = subst (λ (xs : List (ℕ × ℕ)). schedule_turns (take c.loop-turns.turns-index xs) ++ replicate pair.1 pair.0 ≡ schedule_turns (take (c.loop-turns.turns-index + 1) xs))
    pairs (schedule_more items c.loop-turns.turns-index c.loop-turns-test.true) in
    let reported = ap (λ slots. stepper_of c.args.config.now (state_after c.args.config.now slots)) more in
    elim c.match-board_in_slot.branch [
      | in-Some+else-loop-turn-test w ↦
          let all : w.loop-turn._turn ≡ pair.1 = omega (arith, w.loop-turn-test.false, w.loop-turn.auto._turn-end) in
          record {
            run = w.self-is ∙ w.loop-turn.invariant.run
                ∙ ap (λ n. stepper_of c.args.config.now (state_after c.args.config.now (before ++ replicate n pair.0))) all ∙ reported;
            sound = subst (IsStepperOf c.args.config.now) (sym w.self-is) w.loop-turn.invariant.sound;
            pairs = pairs;
          }
      | in_default w ↦ record {
        run = w.self-is ∙ c.loop-turns.invariant.run
            ∙ none_more c.args.config.now before pair.0 pair.1 (sym w.in_default.is ∙ c.board_in_slot.ensures.place) ∙ reported;
        sound = subst (IsStepperOf c.args.config.now) (sym w.self-is) c.loop-turns.invariant.sound;
        pairs = pairs;
      }
    ]
