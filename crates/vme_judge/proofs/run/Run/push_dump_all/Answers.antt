use Rattle.std.proofs.Common.{◌≡◌, ◌+◌, ◌≤◌, Bool, Ok, ap, sym, drop, length, subst, ◌∙◌, arith, rules}
use Rattle.std.proofs.lemmas.Grind.{common_steps}
use Rattle.vme_line_map.specs.Variables.{Map}
use Rattle.vme_vcd_reader.specs.declared.table.Table.{Table}
use Rattle.vme_judge.specs.DumpRuns.{HasReached, Reached}
use Rattle.vme_judge.specs.Runs.{IsGoing}
use Rattle.vme_judge.proofs.DumpBytes.{GoesOver, TakesOver, byte_over, dump_read, dump_refused, dump_stops, first_byte, line_over, line_reached, no_error, no_line, same_reader, text_rejected}
use Rattle.vme_judge.proofs.DumpRuns.{rejected_stops, still_going}
use Rattle.vme_judge.proofs.run.Run.push_dump_all.Goals as goal

pub returns-then-not-branch-clause-dump : goal.returns-then-not-branch-clause-dump
returns-then-not-branch-clause-dump c = λ map reached is going.
    let to = c.loop-step.invariant.reads map reached is going in
    let mid = c.loop-step.invariant.going going in
    let line = line_reached map c.loop-step.self c.take_step.new.self c.push_line.new.self to.after c.loop-step.rest.now c.in-Ok-Some.after.now
    c.in-Ok-Some.step c.in_ok-take_step-in-Ok-Some.field-0 to.reading (λ before. no_line c.push_line.result _ (c.push_line.ensures.before before)
    (c.in-Ok-Some.is ∙ ap Ok c.in-Ok-Some.field-0-is))
    (λ r reading. rw c.in-Ok-Some.field-0-is at (c.in-Ok-Some.ensures.says r reading))
    (ap (λ (t : Table). t.rows.items) c.push_line.ensures.table)
    (λ shown reports. c.in_ok-take_step-in-Ok-Some.ensures.sample shown reports mid) (c.in_ok-take_step-in-Ok-Some.ensures.going mid) in
    dump_stops map c.args.self.now c.loop-step.self c.take_step.new.self reached c.args.bytes.now c.loop-step.rest.now line.line
    c.in-Ok-Some.after.now c.in_ok-take_step-in-Ok-Some.field-0 to line.text_is line.takes c.if-not-branch.true

pub returns-then-not-branch-clause-going : goal.returns-then-not-branch-clause-going
returns-then-not-branch-clause-going c = λ going.
    sym c.if-not-branch.true ∙ c.in_ok-take_step-in-Ok-Some.ensures.going (c.loop-step.invariant.going going)

-- what is judged after a line
over : (c : goal.Else-not-branch) (map : Map) (reached : Reached) → HasReached map reached c.args.self.now.vcd → IsGoing c.args.self.now
    → GoesOver map c.args.self.now c.take_step.new.self reached c.args.bytes.now c.in-Ok-Some.after.now (c.loop-step._step + 1)
over c map reached is going =
    let to = c.loop-step.invariant.reads map reached is going in
    let mid = c.loop-step.invariant.going going in
    let line = line_reached map c.loop-step.self c.take_step.new.self c.push_line.new.self to.after c.loop-step.rest.now c.in-Ok-Some.after.now
    c.in-Ok-Some.step c.in_ok-take_step-in-Ok-Some.field-0 to.reading (λ before. no_line c.push_line.result _ (c.push_line.ensures.before before)
    (c.in-Ok-Some.is ∙ ap Ok c.in-Ok-Some.field-0-is))
    (λ r reading. rw c.in-Ok-Some.field-0-is at (c.in-Ok-Some.ensures.says r reading))
    (ap (λ (t : Table). t.rows.items) c.push_line.ensures.table)
    (λ shown reports. c.in_ok-take_step-in-Ok-Some.ensures.sample shown reports mid) (c.in_ok-take_step-in-Ok-Some.ensures.going mid) in
    line_over map c.args.self.now c.loop-step.self c.take_step.new.self reached c.args.bytes.now c.loop-step.rest.now line.line
    c.in-Ok-Some.after.now c.loop-step._step c.in_ok-take_step-in-Ok-Some.field-0 to (c.loop-step.invariant.left map reached is going)
    line.text_is line.some line.takes c.if-not-branch.false

pub loop-step-preserved-in-Ok-Some : goal.loop-step-preserved-in-Ok-Some
loop-step-preserved-in-Ok-Some c = record {
  reads = λ map reached is going. (over c map reached is going).reads;
  going = λ going.
      still_going c.take_step.new.self c.in_ok-take_step-in-Ok-Some.field-0
      (c.in_ok-take_step-in-Ok-Some.ensures.going (c.loop-step.invariant.going going)) c.if-not-branch.false;
  kind = c.in_ok-take_step-in-Ok-Some.ensures.kind ∙ c.loop-step.invariant.kind;
  left = λ map reached is going. (over c map reached is going).left;
}

pub returns-in-Err-clause-dump : goal.returns-in-Err-clause-dump
returns-in-Err-clause-dump c = λ map reached is going.
    let to = c.loop-step.invariant.reads map reached is going in
    dump_refused map c.args.self.now c.loop-step.self c.reject_dump.new.self reached c.args.bytes.now c.loop-step.rest.now
    c.reject_dump.result to
    (text_rejected map c.loop-step.self c.reject_dump.new.self to.after c.loop-step.rest.now c.push_line.new.self.line c.in-Err.fault
    c.reject_dump.result (c.loop-step.invariant.going going) to.reading
    (λ before. no_error c.push_line.result _ (c.push_line.ensures.before before) c.in-Err.is) c.in-Err.ensures.fault c.reject_dump.ensures.stops
    c.reject_dump.ensures.rejected c.reject_dump.ensures.cause c.in-Err.ensures.same_line c.in-Err.ensures.why c.reject_dump.ensures.judge)
    c.reject_dump.ensures.stops

pub returns-in-Err-clause-going : goal.returns-in-Err-clause-going
returns-in-Err-clause-going c = λ going.
    rejected_stops c.reject_dump.new.self c.reject_dump.result c.reject_dump.ensures.stops c.reject_dump.ensures.rejected

pub returns-then-not-branch-2-clause-dump : goal.returns-then-not-branch-2-clause-dump
returns-then-not-branch-2-clause-dump c = λ map reached is going.
    let to = c.loop-step.invariant.reads map reached is going in
    let same = c.in-Ok-None.ensures.none c.in-Ok-None.field-0-is in
    dump_stops map c.args.self.now c.loop-step.self c.push_dump.new.self reached c.args.bytes.now c.loop-step.rest.now _
    (drop 1 c.loop-step.rest.now) c.in_ok-push_dump.field-0 to (first_byte c.loop-step.rest.now c.in-len1-up.len_at_least)
    (same_reader map c.loop-step.self c.push_dump.new.self c.push_line.new.self to.after _ c.in_ok-push_dump.field-0 same
    (c.in_ok-push_dump.ensures.dump map to.after (subst (HasReached map to.after) (sym same) to.reading) (c.loop-step.invariant.going going)))
    c.if-not-branch-2.true

pub returns-then-not-branch-2-clause-going : goal.returns-then-not-branch-2-clause-going
returns-then-not-branch-2-clause-going c = λ going.
    sym c.if-not-branch-2.true ∙ c.in_ok-push_dump.ensures.going (c.loop-step.invariant.going going)

pub loop-step-preserved : goal.loop-step-preserved
loop-step-preserved c = record {
  reads = λ map reached is going. (byte_over map c.args.self.now c.loop-step.self c.push_dump.new.self reached c.args.bytes.now c.loop-step.rest.now _ c.loop-step._step
      c.in_ok-push_dump.field-0 (c.loop-step.invariant.reads map reached is going)
      (c.loop-step.invariant.left map reached is going) c.in-len1-up.len_at_least
      (first_of (grind (arith, common_steps), search rules))
      (same_reader map c.loop-step.self c.push_dump.new.self c.push_line.new.self (c.loop-step.invariant.reads map reached is going).after _
      c.in_ok-push_dump.field-0 (c.in-Ok-None.ensures.none c.in-Ok-None.field-0-is)
      (c.in_ok-push_dump.ensures.dump map (c.loop-step.invariant.reads map reached is going).after
      (subst (HasReached map (c.loop-step.invariant.reads map reached is going).after) (sym (c.in-Ok-None.ensures.none c.in-Ok-None.field-0-is))
      (c.loop-step.invariant.reads map reached is going).reading) (c.loop-step.invariant.going going))) c.if-not-branch-2.false).reads;
  going = λ going.
      still_going c.push_dump.new.self c.in_ok-push_dump.field-0 (c.in_ok-push_dump.ensures.going (c.loop-step.invariant.going going))
      c.if-not-branch-2.false;
  kind = c.in_ok-push_dump.ensures.kind ∙ c.loop-step.invariant.kind;
  left = λ map reached is going. (byte_over map c.args.self.now c.loop-step.self c.push_dump.new.self reached c.args.bytes.now c.loop-step.rest.now _ c.loop-step._step
      c.in_ok-push_dump.field-0 (c.loop-step.invariant.reads map reached is going)
      (c.loop-step.invariant.left map reached is going) c.in-len1-up.len_at_least
      (first_of (grind (arith, common_steps), search rules))
      (same_reader map c.loop-step.self c.push_dump.new.self c.push_line.new.self (c.loop-step.invariant.reads map reached is going).after _
      c.in_ok-push_dump.field-0 (c.in-Ok-None.ensures.none c.in-Ok-None.field-0-is)
      (c.in_ok-push_dump.ensures.dump map (c.loop-step.invariant.reads map reached is going).after
      (subst (HasReached map (c.loop-step.invariant.reads map reached is going).after) (sym (c.in-Ok-None.ensures.none c.in-Ok-None.field-0-is))
      (c.loop-step.invariant.reads map reached is going).reading) (c.loop-step.invariant.going going))) c.if-not-branch-2.false).left;
}

pub returns-after-loop-step-clause-dump : goal.returns-after-loop-step-clause-dump
returns-after-loop-step-clause-dump c = λ map reached is going.
    let left : length c.loop-step.rest.now + c.loop-step._step ≤ length c.args.bytes.now = c.loop-step.invariant.left map reached is going in
    dump_read map c.args.self.now c.loop-step.self reached c.args.bytes.now c.loop-step.rest.now (c.loop-step.invariant.reads map reached is going)
    (omega (arith, left, c.loop-step-test.false))

pub returns-in_default-clause-dump : goal.returns-in_default-clause-dump
returns-in_default-clause-dump c = λ map reached is going.
    dump_read map c.args.self.now c.loop-step.self reached c.args.bytes.now c.loop-step.rest.now (c.loop-step.invariant.reads map reached is going)
    (omega (arith, c.in_default.len_below))
