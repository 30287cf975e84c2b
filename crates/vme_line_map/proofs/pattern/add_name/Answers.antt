-- The name is cut as in the definition.
use Rattle.std.proofs.Common.{◌≡◌, ◌<◌, length, Some, None, codes, arith, ◌∙◌, ap}
use Rattle.std.specs.Option.{option_map}
use Rattle.std.proofs.lemmas.Bool.Decides.{nat_tests}
use Rattle.std.proofs.lemmas.Grind.{common_steps}
use Rattle.vme_line_map.specs.Texts.{cut}
use Rattle.vme_line_map.proofs.TextCuts.{texts, split_once-is}
use Rattle.vme_line_map.proofs.Naming.{of_name-cut}
use Rattle.vme_line_map.proofs.pattern.add_name.Goals as goal

pub returns-in_default : goal.returns-in_default
returns-in_default c =
    let some : 0 < length c.args.name.now = grind (arith, nat_tests, common_steps) in
    let is = split_once-is (codes "{") c.args.name.now c.split_once.result (omega arith) c.split_once.ensures.cases in
    let none : cut (codes "{") c.args.name.now ≡ None = is ∙ ap (option_map texts) c.in_default.is in
    rw (of_name-cut c.args.named c.args.name.now None some (omega arith) none) c.add_one.ensures

pub returns : goal.returns
returns c =
    let some : 0 < length c.args.name.now = grind (arith, nat_tests, common_steps) in
    let is = split_once-is (codes "{") c.args.name.now c.split_once.result (omega arith) c.split_once.ensures.cases in
    let found : cut (codes "{") c.args.name.now ≡ Some (c.in-Some.before.now, c.in-Some.rest.now) = is ∙ ap (option_map texts) c.in-Some.is in
    rw (of_name-cut c.args.named c.args.name.now (Some (c.in-Some.before.now, c.in-Some.rest.now)) some (omega arith) found)
    c.add_each.ensures
