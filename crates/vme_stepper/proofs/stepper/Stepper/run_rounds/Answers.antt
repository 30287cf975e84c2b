use Rattle.std.proofs.Common.{◌≡◌, ◌<◌, ◌≤◌, ◌++◌, ◌∷◌, [], sym, ap, ◌∙◌, arith, length, map, take, get_or, ℕ, List, Some, append_assoc}
use Rattle.std.proofs.lemmas.List.{append-nil, take_more, take_all, length-map}
use Rattle.std.proofs.lemmas.Option.{slice_get-get_or}
use Rattle.vme_script.specs.declared.board.BoardConfig.{BoardConfig}
use Rattle.vme_stepper.specs.Turns.{state_after}
use Rattle.vme_stepper.specs.Schedules.{schedule_turns, round_turns, file_turns}
use Rattle.vme_stepper.specs.Steppers.{stepper_of}
use Rattle.vme_stepper.proofs.lemmas.Places.{own_place}
use Rattle.vme_stepper.proofs.lemmas.Runs.{turn_more, few_steps, round_more, rounds_few}
use Rattle.vme_stepper.proofs.stepper.Stepper.run_rounds.Goals as goal

-- the slots of boards
abbrev slots_of : List BoardConfig → List ℕ
slots_of boards = map (λ board. board.slot) boards

pub loop-round-init : goal.loop-round-init
loop-round-init c = record {
  run = c.requires.scheduled
      ∙ ap (λ slots. stepper_of c.args.config.now (state_after c.args.config.now slots)) (sym (append-nil (schedule_turns c.args.config.now.schedule)));
  sound = c.requires.stepper;
}

pub loop-board-init : goal.loop-board-init
loop-board-init c = record {
  run = c.loop-round.invariant.run
      ∙ ap (λ turns. stepper_of c.args.config.now (state_after c.args.config.now (schedule_turns c.args.config.now.schedule ++ turns)))
      (sym (append-nil (round_turns c.loop-round._round (slots_of c.args.config.now.boards))));
  sound = c.loop-round.invariant.sound;
}

pub turn-requires-clause-stepper : goal.turn-requires-clause-stepper
turn-requires-clause-stepper c = c.loop-board.invariant.sound

pub turn-requires-clause-capacity : goal.turn-requires-clause-capacity
turn-requires-clause-capacity c =
    let slots : List ℕ = slots_of c.args.config.now.boards in
    few_steps c.args.config.now c.loop-board.self
    (schedule_turns c.args.config.now.schedule ++ (round_turns c.loop-round._round slots ++ take c.loop-board.board slots)) c.loop-board.invariant.run
    (rounds_few c.args.config.now slots c.loop-round._round c.loop-board.board c.requires.lawful
    (omega (arith, c.loop-round-test.true, c.rounds-round-end.ensures))
    (omega (arith, length-map c.args.config.now.boards (λ (board : BoardConfig). board.slot), c.requires.lawful.most)))

pub loop-board-preserved : goal.loop-board-preserved
loop-board-preserved c =
    let slots : List ℕ = slots_of c.args.config.now.boards in
    let sched : List ℕ = schedule_turns c.args.config.now.schedule in
    let rounds : List ℕ = round_turns c.loop-round._round slots in
    let slot : ℕ = get_or slots c.loop-board.board 0 in
    let within : c.loop-board.board < length slots
    = omega (arith, c.loop-board-test.true, c.boards-boards.ensures.value, length-map c.args.config.now.boards (λ (board : BoardConfig). board.slot)) in
    let place = own_place c.args.config.now c.loop-board.board slot c.requires.lawful (slice_get-get_or slots c.loop-board.board 0 within) in
    record {
      run = c.turn.ensures.turn
          ∙ turn_more c.args.config.now c.loop-board.self (sched ++ (rounds ++ take c.loop-board.board slots)) slot (Some c.loop-board.board)
          c.loop-board.invariant.run (sym place)
          ∙ ap (λ turns. stepper_of c.args.config.now (state_after c.args.config.now turns))
          (append_assoc sched (rounds ++ take c.loop-board.board slots) (slot ∷ [])
          ∙ ap (λ turns. sched ++ turns)
          (append_assoc rounds (take c.loop-board.board slots) (slot ∷ []) ∙ ap (λ turns. rounds ++ turns) (sym (take_more slots c.loop-board.board 0 within))));
      sound = c.turn.ensures.sound;
    }

pub loop-round-preserved : goal.loop-round-preserved
loop-round-preserved c =
    let slots : List ℕ = slots_of c.args.config.now.boards in
    let rounds : List ℕ = round_turns c.loop-round._round slots in
    let over : length slots ≤ c.loop-board.board
    = omega (arith, c.loop-board-test.false, c.boards-boards.ensures.value, length-map c.args.config.now.boards (λ (board : BoardConfig). board.slot)) in
    record {
      run = c.loop-board.invariant.run
          ∙ ap (λ turns. stepper_of c.args.config.now (state_after c.args.config.now (schedule_turns c.args.config.now.schedule ++ turns)))
          (ap (λ turns. rounds ++ turns) (take_all c.loop-board.board slots over) ∙ round_more c.loop-round._round slots);
      sound = c.loop-board.invariant.sound;
    }

pub returns-clause-run : goal.returns-clause-run
unfolding file_turns
returns-clause-run c =
    let all : c.loop-round._round ≡ c.args.config.now.rounds
    = omega (arith, c.loop-round-test.false, c.loop-round.auto._round-end, c.rounds-round-end.ensures) in
    c.loop-round.invariant.run
    ∙ ap (λ n. stepper_of c.args.config.now (state_after c.args.config.now
    (schedule_turns c.args.config.now.schedule ++ round_turns n (slots_of c.args.config.now.boards)))) all
