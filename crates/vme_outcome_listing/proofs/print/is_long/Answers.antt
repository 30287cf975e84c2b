use Rattle.std.proofs.Common.{ℕ, ◌+◌, ap, ◌∙◌, drop, arith}
use Rattle.vme_script.specs.Schedules.{turns_of}
use Rattle.vme_outcome_listing.proofs.Longs.{turns_more, long_found, not_long}
use Rattle.vme_outcome_listing.proofs.print.is_long.Goals as goal

pub returns-then-turns-gt-MOST_TURNS : goal.returns-then-turns-gt-MOST_TURNS
returns-then-turns-gt-MOST_TURNS c =
    let now = c.loop-pair.turns + c.from-turns.result in
    let all = turns_more c.args.schedule.now c.loop-pair.pair-index c.loop-pair.turns now _ c.loop-pair.invariant.all c.loop-pair-test.true
    (ap (λ (n : ℕ). c.loop-pair.turns + n) c.from-turns.ensures) in
    long_found c.args.schedule.now now (turns_of (drop (c.loop-pair.pair-index + 1) c.args.schedule.now)) all (omega (arith, c.if-turns-gt-MOST_TURNS.true))

pub returns : goal.returns
returns c =
    not_long c.args.schedule.now c.loop-pair.pair-index c.loop-pair.turns c.loop-pair.invariant.all (omega (arith, c.loop-pair-test.false)) c.loop-pair.invariant.few
