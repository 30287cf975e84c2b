-- One more turn is made, or the writer fails in it.
use Rattle.std.proofs.Common.{◌≡◌, ◌≤◌, ℕ, List, [], ◌∷◌, ◌++◌, length, refl, ap, sym, subst, ◌∙◌, arith, rules, append_assoc, length-append}
use Rattle.vme_io.specs.Prefixes.{AppendsPrefix}
use Rattle.vme_io.proofs.lemmas.Gathering.{so_far_more, so_far_fails}
use Rattle.vme_stepper.specs.Turns.{board_in_slot}
use Rattle.vme_stepper.specs.Schedules.{file_turns}
use Rattle.vme_stepper.specs.Steppers.{stepper_of, stepper_turn_at}
use Rattle.vme_stepper.proofs.lemmas.Runs.{turn_more, few_steps, file_few}
use Rattle.vme_trace.specs.declared.progress.Progress.{Progress}
use Rattle.vme_trace.specs.Observations.{observed_at, observed_from}
use Rattle.vme_trace.specs.Dumps.{rest_text, vcd_text}
use Rattle.vme_trace.specs.Traces.{turn_text, turn_progress, turn_values}
use Rattle.vme_trace.specs.Turns.{turns_left}
use Rattle.vme_trace.proofs.Tracing.{turn_next, number_grows, shown_within, rest_opens, so_far_opens, so_far_stops, opens_state}
use Rattle.vme_trace.proofs.trace.trace_turns.Goals as goal

pub loop-slot-init : goal.loop-slot-init
loop-slot-init g c = record {
  before = [];
  split = c.new-turns.ensures.turns;
  within = c.new-turns.ensures.board;
  state = c.requires.opening ∙ ap (stepper_of c.args.config.now) (sym (opens_state c.args.config.now));
  sound = c.requires.stepper;
  few = rw c.start-progress.ensures (omega arith);
  shown = rw c.start-progress.ensures (omega arith);
  gathered = so_far_opens _ _ _ _
      (rest_opens c.args.config.now c.args.selection c.args.stepper.now (turns_left c.args.config.now c.new-turns.result) c.start-progress.result
      c.args.values.now.items c.requires.opening c.new-turns.ensures.turns c.start-progress.ensures c.requires.values);
  mark = c.requires.unmarked;
}

pub trace_turn-requires-clause-capacity : goal.trace_turn-requires-clause-capacity
trace_turn-requires-clause-capacity g c =
    let i = c.loop-slot.invariant in
    few_steps c.args.config.now c.loop-slot.stepper i.before i.state
    (omega (arith, file_few c.args.config.now c.requires.lawful, ap length i.split, length-append i.before (turns_left c.args.config.now c.loop-slot.turns)))

pub trace_turn-requires-clause-few : goal.trace_turn-requires-clause-few
trace_turn-requires-clause-few g c =
    let i = c.loop-slot.invariant in
    omega (arith, i.few, file_few c.args.config.now c.requires.lawful, ap length i.split, length-append i.before (turns_left c.args.config.now c.loop-slot.turns))

pub trace_turn-requires-clause-within : goal.trace_turn-requires-clause-within
trace_turn-requires-clause-within g c = c.loop-slot.invariant.shown

pub loop-slot-preserved : goal.loop-slot-preserved
loop-slot-preserved g c =
    let i = c.loop-slot.invariant in
    let config = c.args.config.now in
    let p = c.loop-slot.progress in
    let values = c.loop-slot.values.items in
    let slot = c.in-Some.slot in
    let found = observed_at config c.loop-slot.stepper (board_in_slot config slot) in
    let rest = turns_left config c.next.new.self in
    let next : turns_left config c.loop-slot.turns ≡ slot ∷ rest = c.in-Some.ensures.next in
    let same : rest_text config (turn_progress p found) (turn_values config p found values)
    (observed_from config (stepper_turn_at config c.loop-slot.stepper (board_in_slot config slot)) rest)
    ≡ rest_text config c.trace_turn.new.progress c.trace_turn.new.values.items (observed_from config c.trace_turn.new.stepper rest)
    = rw (c.in_ok-trace_turn.ensures.progress, c.in_ok-trace_turn.ensures.values, c.in_ok-trace_turn.ensures.turn) refl in
    let left = turn_next config c.loop-slot.stepper p values slot (turns_left config c.loop-slot.turns) rest next
    ∙ ap (λ (t : List ℕ). turn_text config p values found ++ t) same in
    record {
      before = i.before ++ slot ∷ [];
      split = append_assoc i.before (slot ∷ []) rest ∙ ap (λ (turns : List ℕ). i.before ++ turns) (sym next) ∙ i.split;
      within = c.next.ensures.board;
      state = c.in_ok-trace_turn.ensures.turn ∙ turn_more config c.loop-slot.stepper i.before slot (board_in_slot config slot) i.state refl;
      sound = c.in_ok-trace_turn.ensures.sound;
      few = omega (arith, i.few, ap (λ (q : Progress). q.number) c.in_ok-trace_turn.ensures.progress, number_grows p found, length-append i.before (slot ∷ []));
      shown = subst (λ (q : Progress). q.shown ≤ q.number) (sym c.in_ok-trace_turn.ensures.progress) (shown_within p found i.shown);
      gathered = so_far_more _ _ _ _ _ (turn_text config p values found) _ _ _ i.gathered left c.in_ok-trace_turn.ensures.gathers;
      mark = c.in_ok-trace_turn.ensures.write;
    }

pub returns-in_err-trace_turn-clause-gathers : goal.returns-in_err-trace_turn-clause-gathers
returns-in_err-trace_turn-clause-gathers g c =
    let config = c.args.config.now in
    let prefix : AppendsPrefix (g.W.Sink.contents c.args.writer.now) (g.W.Sink.contents c.trace_turn.new.writer)
    (c.args.text.now.items ++ vcd_text c.args.selection config (file_turns config))
    = so_far_fails _ _ _ _ _ _ _ _ c.loop-slot.invariant.gathered
    (turn_next config c.loop-slot.stepper c.loop-slot.progress c.loop-slot.values.items c.in-Some.slot (turns_left config c.loop-slot.turns)
    (turns_left config c.next.new.self) c.in-Some.ensures.next)
    c.in_err-trace_turn.ensures.gathers in
    search rules

pub returns-in_err-print_ending-clause-gathers : goal.returns-in_err-print_ending-clause-gathers
returns-in_err-print_ending-clause-gathers g c =
    let config = c.args.config.now in
    let prefix : AppendsPrefix (g.W.Sink.contents c.args.writer.now) (g.W.Sink.contents c.loop-slot.writer)
    (c.args.text.now.items ++ vcd_text c.args.selection config (file_turns config))
    = so_far_stops _ _ _ _ _ c.loop-slot.invariant.gathered in
    search rules
