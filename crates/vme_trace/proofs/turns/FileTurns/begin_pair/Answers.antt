use Rattle.std.proofs.Common.{ℕ, ◌+◌, ◌<◌, List, ◌++◌, length, drop, get_or, replicate, ap, ◌∙◌, arith}
use Rattle.vme_stepper.specs.Schedules.{schedule_turns}
use Rattle.vme_trace.specs.Turns.{round_left}
use Rattle.vme_trace.proofs.TurnsLeft.{pair_begins}
use Rattle.vme_trace.proofs.turns.FileTurns.begin_pair.Goals as goal

pub loop-self-preserved : goal.loop-self-preserved
loop-self-preserved c =
    let i = c.loop-self.invariant in
    let turns = c.loop-self.self in
    let schedule : List (ℕ × ℕ) = c.args.config.now.schedule in
    let later = round_left c.args.config.now turns in
    let within : turns.pair < length schedule = omega (arith, c.if-self-schedule.true, ap length i.pairs) in
    record {
      same = ap (λ (s : List (ℕ × ℕ)). replicate (get_or s turns.pair (0, 0)).1 (get_or s turns.pair (0, 0)).0 ++ (schedule_turns (drop (turns.pair + 1) schedule) ++ later))
          i.pairs
          ∙ pair_begins schedule later turns.slot turns.left turns.pair c.loop-self-test.true within ∙ i.same;
      board = i.board;
      pairs = i.pairs;
    }
