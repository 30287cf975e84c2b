-- One more turn is made, and its event is shown.
use Rattle.std.proofs.Common.{◌≡◌, ℕ, List, [], ◌∷◌, ◌++◌, length, refl, ap, sym, ◌∙◌, arith, append_assoc, length-append}
use Rattle.std.specs.Option.{option_to_list}
use Rattle.vme_stepper.specs.Turns.{board_in_slot}
use Rattle.vme_stepper.specs.Steppers.{stepper_of}
use Rattle.vme_stepper.proofs.lemmas.Runs.{turn_more, few_steps, file_few}
use Rattle.vme_trace.specs.Observations.{observed_at, observed_from}
use Rattle.vme_trace.specs.Turns.{turns_left}
use Rattle.vme_page.proofs.Drawn.{kept, starts_state, all_left, next_left, grows_none, grows_more}
use Rattle.vme_page.proofs.diagrams.draw_turns.Goals as goal

pub loop-slot-init : goal.loop-slot-init
loop-slot-init g c = record {
  before = [];
  split = c.new-turns.ensures.turns;
  within = c.new-turns.ensures.board;
  state = c.requires.opening ∙ ap (stepper_of c.args.config.now) (sym (starts_state c.args.config.now));
  sound = c.requires.stepper;
  few = omega (arith, c.requires.drawing.count);
  events = [];
  whole = all_left c.args.config.now c.args.stepper.now (turns_left c.args.config.now c.new-turns.result) c.requires.opening c.new-turns.ensures.turns;
  shows = c.requires.drawing;
  grown = grows_none _;
  mark = c.requires.unmarked;
}

pub draw_turn-requires-clause-capacity : goal.draw_turn-requires-clause-capacity
draw_turn-requires-clause-capacity g c =
    let i = c.loop-slot.invariant in
    few_steps c.args.config.now c.loop-slot.stepper i.before i.state
    (omega (arith, file_few c.args.config.now c.requires.lawful, ap length i.split, length-append i.before (turns_left c.args.config.now c.loop-slot.turns)))

pub draw_turn-requires-clause-few : goal.draw_turn-requires-clause-few
draw_turn-requires-clause-few g c =
    let i = c.loop-slot.invariant in
    omega (arith, i.few, file_few c.args.config.now c.requires.lawful, ap length i.split, length-append i.before (turns_left c.args.config.now c.loop-slot.turns))

pub loop-slot-preserved : goal.loop-slot-preserved
loop-slot-preserved g c =
    let config = c.args.config.now in
    let i = c.loop-slot.invariant in
    let slot = c.in-Some.slot in
    let rest = turns_left config c.next_turn.new.turns in
    let next : turns_left config c.loop-slot.turns ≡ slot ∷ rest = c.in-Some.ensures.next in
    record {
      before = i.before ++ slot ∷ [];
      split = append_assoc i.before (slot ∷ []) rest ∙ ap (λ (turns : List ℕ). i.before ++ turns) (sym next) ∙ i.split;
      within = c.next_turn.ensures.board;
      state = c.in_ok-draw_turn.ensures.turn ∙ turn_more config c.loop-slot.stepper i.before slot (board_in_slot config slot) i.state refl;
      sound = c.in_ok-draw_turn.ensures.sound;
      few = omega (arith, i.few, c.in_ok-draw_turn.ensures.count, length-append i.before (slot ∷ []));
      events = i.events ++ option_to_list (observed_at config c.loop-slot.stepper (board_in_slot config slot));
      whole = next_left config i.events c.loop-slot.stepper slot (turns_left config c.loop-slot.turns) rest _ next c.in_ok-draw_turn.ensures.turn ∙ i.whole;
      shows = c.in_ok-draw_turn.ensures.shows i.events i.shows;
      grown = grows_more _ _ _ i.grown c.in_ok-draw_turn.ensures.grows;
      mark = c.in_ok-draw_turn.ensures.write;
    }

pub returns-clause-shows : goal.returns-clause-shows
returns-clause-shows g c =
    let config = c.args.config.now in
    let i = c.loop-slot.invariant in
    record {
      events = i.events;
      later = observed_from config c.loop-slot.stepper (turns_left config c.loop-slot.turns);
      whole = i.whole;
      shows = kept config i.events c.loop-slot.drawing c.print_ending.new.self c.print_ending.ensures i.shows;
    }

pub returns-clause-grows : goal.returns-clause-grows
returns-clause-grows g c = c.loop-slot.invariant.grown
