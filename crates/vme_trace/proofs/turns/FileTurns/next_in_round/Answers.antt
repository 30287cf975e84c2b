use Rattle.std.proofs.Common.{◌≡◌, ℕ, ◌+◌, ◌≤◌, List, ◌∷◌, ◌++◌, drop, length, ap, sym, ◌∙◌, arith}
use Rattle.vme_stepper.specs.Schedules.{round_turns}
use Rattle.vme_trace.specs.Turns.{board_slots, round_left}
use Rattle.vme_trace.proofs.TurnsLeft.{only_rounds, board_next}
use Rattle.vme_trace.proofs.turns.FileTurns.next_in_round.Goals as goal

pub returns-clause-next : goal.returns-clause-next
returns-clause-next c =
    let config = c.args.config.now in
    let slots = board_slots config in
    let old = c.args.self.now in
    let mid = c.begin_round.new.self in
    let later = round_turns mid.rounds slots in
    let left : mid.left ≡ 0 = c.begin_round.ensures.left ∙ c.requires.left in
    let pair : length config.schedule ≤ mid.pair = omega (arith, c.begin_round.ensures.pair, c.requires.pair) in
    only_rounds config.schedule (round_left config old) old.slot old.left old.pair c.requires.left c.requires.pair
    ∙ sym c.begin_round.ensures.same ∙ board_next slots later mid.board c.slot-slot.result c.slot-slot.ensures
    ∙ ap (λ (l : List ℕ). c.slot-slot.result ∷ l)
    (sym (only_rounds config.schedule (drop (mid.board + 1) slots ++ later) mid.slot mid.left mid.pair left pair))
