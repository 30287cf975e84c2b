use Rattle.std.proofs.Common.{◌≡◌, true, false, refl, rules, sym, ◌∙◌}
use Rattle.std.proofs.lemmas.Bool.{not-true, not-false}
use Rattle.vme_judge.specs.Runs.{run_so_far}
use Rattle.vme_judge.proofs.Blanks.{blanks_from, blanks_kept, blanks_over, blanks_stop, part_blanks}
use Rattle.vme_judge.proofs.Runs.{judges_all, judges_kept, leaves_after}
use Rattle.vme_judge.proofs.run.Run.push_log_all.Goals as goal

pub loop-line-init : goal.loop-line-init
loop-line-init c = record {
  judges = λ on rest. refl;
  going = λ on. on;
  kind = refl;
  vcd = refl;
  blanks = λ line. blanks_from line c.args.self.now c.args.bytes.now;
}

pub loop-line-preserved : goal.loop-line-preserved
loop-line-preserved c =
    let on : c.in_ok-goes_on.goes_on ≡ true = search (rules, not-false) in
    record {
      judges = λ going.
          leaves_after c.args.self.now c.loop-line.self c.push_line.new.self c.args.bytes.now c.loop-line.rest.now c.in-Some.line.now
          c.in-Some.after.now (c.loop-line.invariant.judges going) c.in-Some.ensures.parts
          (c.in_ok-goes_on.ensures.judges (c.loop-line.invariant.going going));
      going = λ going. sym (c.in_ok-goes_on.ensures.going (c.loop-line.invariant.going going)) ∙ on;
      kind = c.in_ok-goes_on.ensures.kind ∙ c.loop-line.invariant.kind;
      vcd = c.in_ok-goes_on.ensures.vcd ∙ c.loop-line.invariant.vcd;
      blanks = λ line are is.
          let to = c.loop-line.invariant.blanks line are is in
          blanks_over line c.args.self.now c.loop-line.self c.push_line.new.self c.args.bytes.now c.loop-line.rest.now c.in-Some.line.now
          c.in-Some.after.now c.in_ok-goes_on.goes_on to c.in-Some.ensures.parts (c.in_ok-goes_on.ensures.blanks to.after
          (part_blanks c.loop-line.rest.now c.in-Some.line.now c.in-Some.after.now to.blanks c.in-Some.ensures.parts).0 to.begin) on;
    }

pub returns-then-not-goes_on-clause-blanks : goal.returns-then-not-goes_on-clause-blanks
returns-then-not-goes_on-clause-blanks c = λ line are is.
    let stopped : c.in_ok-goes_on.goes_on ≡ false = search (rules, not-true) in
    let to = c.loop-line.invariant.blanks line are is in
    blanks_stop line c.args.self.now c.loop-line.self c.push_line.new.self c.args.bytes.now c.loop-line.rest.now c.in-Some.line.now
    c.in-Some.after.now c.in_ok-goes_on.goes_on to c.in-Some.ensures.parts (c.in_ok-goes_on.ensures.blanks to.after
    (part_blanks c.loop-line.rest.now c.in-Some.line.now c.in-Some.after.now to.blanks c.in-Some.ensures.parts).0 to.begin) stopped

pub returns-clause-blanks : goal.returns-clause-blanks
returns-clause-blanks c = λ line are is.
    blanks_kept line c.args.self.now c.loop-line.self (record c.loop-line.self { log = c.keep_all.new.self }) c.keep_all.new.self
    c.args.bytes.now c.loop-line.rest.now (c.loop-line.invariant.blanks line are is) c.in_default.ensures refl c.keep_all.ensures.begin
    c.keep_all.ensures.number

pub returns-then-not-goes_on-clause-judges : goal.returns-then-not-goes_on-clause-judges
returns-then-not-goes_on-clause-judges c = λ going.
    let stopped : c.in_ok-goes_on.goes_on ≡ false = search (rules, not-true) in
    let was = c.loop-line.invariant.going going in
    judges_all c.args.self.now c.push_line.new.self c.args.bytes.now c.in-Some.after.now
    (leaves_after c.args.self.now c.loop-line.self c.push_line.new.self c.args.bytes.now c.loop-line.rest.now c.in-Some.line.now c.in-Some.after.now
    (c.loop-line.invariant.judges going) c.in-Some.ensures.parts (c.in_ok-goes_on.ensures.judges was))
    (sym (c.in_ok-goes_on.ensures.going was) ∙ stopped)

pub returns-then-not-goes_on-clause-going : goal.returns-then-not-goes_on-clause-going
returns-then-not-goes_on-clause-going c = λ going.
    let stopped : c.in_ok-goes_on.goes_on ≡ false = search (rules, not-true) in
    sym stopped ∙ c.in_ok-goes_on.ensures.going (c.loop-line.invariant.going going)

pub returns-clause-judges : goal.returns-clause-judges
unfolding run_so_far
returns-clause-judges c = λ going.
    judges_kept c.args.self.now c.loop-line.self (record c.loop-line.self { log = c.keep_all.new.self }) c.keep_all.new.self c.args.bytes.now
    c.loop-line.rest.now (c.loop-line.invariant.judges going) refl refl c.keep_all.ensures.begin c.keep_all.ensures.number
