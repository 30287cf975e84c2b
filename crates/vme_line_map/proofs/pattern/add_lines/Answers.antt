-- Each line adds its variable, or is the first that does not fit.
use Rattle.std.proofs.Common.{◌≡◌, ◌+◌, arith}
use Rattle.vme_line_map.specs.Patterns.{line_variable}
use Rattle.vme_line_map.proofs.LineSteps.{with_variables-none, one_line, no_line, all_lines}
use Rattle.vme_line_map.proofs.pattern.add_lines.Goals as goal

pub loop-line-init : goal.loop-line-init
loop-line-init c = record {
  value = with_variables-none _ _ _;
  fits = λ h. absurd (omega arith);
}

pub returns-in-Err : goal.returns-in-Err
returns-in-Err c =
    let full = rw c.in-Err.is at c.in_ok-problem.ensures in
    no_line (line_variable c.args.named c.args.name.0.now c.args.name.1.now) c.args.map.now c.loop-line.map c.args.lines.0
    c.args.lines.1 c.loop-line.line c.in-Err.problem (omega arith) (omega arith) c.loop-line.invariant.value full

pub loop-line-preserved : goal.loop-line-preserved
loop-line-preserved c =
    let fits = rw c.in_default.is at c.in_ok-problem.ensures in
    let (value, most) =
    one_line (line_variable c.args.named c.args.name.0.now c.args.name.1.now) c.args.map.now c.loop-line.map c.add_line.new.map
    c.args.lines.0 c.loop-line.line (omega arith) c.loop-line.invariant.value fits in
    record {
      value = value;
      fits = λ _. most;
    }

pub returns : goal.returns
returns c =
    let end : c.loop-line.line ≡ c.args.lines.1 + 1 = omega arith in
    let all = rw end at c.loop-line.invariant.value in
    all_lines (line_variable c.args.named c.args.name.0.now c.args.name.1.now) c.args.map.now c.loop-line.map c.args.lines.0
    c.args.lines.1 all (c.loop-line.invariant.fits (omega arith))
