-- The text after `{` is cut as in the definition.
use Rattle.std.proofs.Common.{◌≡◌, Some, None, Ok, Err, codes, arith, refl, ◌∙◌, ap, sym}
use Rattle.std.specs.Option.{option_map}
use Rattle.vme_line_map.specs.Texts.{cut}
use Rattle.vme_line_map.specs.Patterns.{range_in}
use Rattle.vme_line_map.proofs.TextCuts.{texts, split_once-is}
use Rattle.vme_line_map.proofs.pattern.add_each.Goals as goal

pub returns-in_default : goal.returns-in_default
returns-in_default c =
    let is = split_once-is (codes "}") c.args.rest.now c.split_once.result (omega arith) c.split_once.ensures.cases in
    let none : cut (codes "}") c.args.rest.now ≡ None = is ∙ ap (option_map texts) c.in_default.is in
    rw none refl

pub returns-in-Ok : goal.returns-in-Ok
returns-in-Ok c =
    let is = split_once-is (codes "}") c.args.rest.now c.split_once.result (omega arith) c.split_once.ensures.cases in
    let closed : cut (codes "}") c.args.rest.now ≡ Some (c.in-Some.range.now, c.in-Some.after.now) = is ∙ ap (option_map texts) c.in-Some.is in
    let said : range_in c.args.named.group c.in-Some.range.now ≡ Ok c.in-Ok.lines = sym c.range_of.ensures.range ∙ c.in-Ok.is in
    rw (closed, said) c.add_lines.ensures

pub returns-in-Err : goal.returns-in-Err
returns-in-Err c =
    let is = split_once-is (codes "}") c.args.rest.now c.split_once.result (omega arith) c.split_once.ensures.cases in
    let closed : cut (codes "}") c.args.rest.now ≡ Some (c.in-Some.range.now, c.in-Some.after.now) = is ∙ ap (option_map texts) c.in-Some.is in
    let said : range_in c.args.named.group c.in-Some.range.now ≡ Err c.in-Err.problem = sym c.range_of.ensures.range ∙ c.in-Err.is in
    rw (closed, said) refl
