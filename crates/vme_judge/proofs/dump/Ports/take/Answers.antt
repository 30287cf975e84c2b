use Rattle.std.proofs.Common.{◌<◌, ◌≤◌, length, ap, sym, ◌∙◌, arith}
use Rattle.vme_judge.specs.Dumps.{ports_after}
use Rattle.vme_judge.proofs.Dumps.{none_after_all, ports_ended, shown_ended, skips_port, skips_shown, takes_none}
use Rattle.vme_judge.proofs.dump.Ports.take.Goals as goal

pub returns-then-changed-eq0-clause-judged : goal.returns-then-changed-eq0-clause-judged
returns-then-changed-eq0-clause-judged c = λ stood.
    takes_none c.args.judge.now c.args.spot c.args.bus.now c.args.changed 0 c.args.self.now.last c.if-changed-eq0.true stood

pub returns-then-changed-eq0-clause-shown : goal.returns-then-changed-eq0-clause-shown
returns-then-changed-eq0-clause-shown c = λ goes_on.
    sym (
    ap (λ changed. ports_after c.args.bus.now changed 0 c.args.self.now.last) c.if-changed-eq0.true
    ∙ none_after_all c.args.bus.now 0 c.args.self.now.last
    )

pub loop-place-preserved-then-not-is_among : goal.loop-place-preserved-then-not-is_among
loop-place-preserved-then-not-is_among c =
    let less : c.loop-place.place < length c.loop-place.self.last = omega arith in
    record {
      whole = c.loop-place.invariant.whole;
      judged = λ stood.
          c.loop-place.invariant.judged stood
          ∙ skips_port c.args.spot c.args.bus.now c.args.changed c.loop-place.place c.loop-place.self.last _ less
          (sym c.is_among.ensures ∙ c.if-not-is_among.true);
      shown =
          c.loop-place.invariant.shown
          ∙ skips_shown c.args.bus.now c.args.changed c.loop-place.place c.loop-place.self.last less
          (sym c.is_among.ensures ∙ c.if-not-is_among.true);
      stood = c.loop-place.invariant.stood;
    }

pub returns-clause-judged : goal.returns-clause-judged
returns-clause-judged c = λ stood.
    let all : length c.loop-place.self.last ≤ c.loop-place.place = omega arith in
    ports_ended c.args.judge.now c.loop-place.judge c.args.spot c.args.bus.now c.args.changed c.loop-place.place c.args.self.now.last c.loop-place.self.last
    all (c.loop-place.invariant.judged stood) (c.loop-place.invariant.stood stood)

pub returns-clause-shown : goal.returns-clause-shown
returns-clause-shown c = λ goes_on.
    let all : length c.loop-place.self.last ≤ c.loop-place.place = omega arith in
    shown_ended c.args.bus.now c.args.changed c.loop-place.place c.args.self.now.last c.loop-place.self.last all c.loop-place.invariant.shown
