-- The range is cut as in the definition.
use Rattle.std.proofs.Common.{◌≡◌, ◌≤◌, ◌<◌, max, Some, None, codes, arith, ◌∙◌, ap, sym}
use Rattle.std.specs.Option.{option_map}
use Rattle.vme_line_map.specs.Groups.{lines}
use Rattle.vme_line_map.specs.Texts.{cut}
use Rattle.vme_line_map.proofs.TextCuts.{texts, split_once-is}
use Rattle.vme_line_map.proofs.Ranges.{range_between, range_in-none, range_in-cut, range_between-one, range_between-over, range_between-all}
use Rattle.vme_line_map.proofs.pattern.range_of.Goals as goal

pub returns-in_default-clause-range : goal.returns-in_default-clause-range
returns-in_default-clause-range c =
    let is = split_once-is (codes "..") c.args.range.now c.split_once.result (omega arith) c.split_once.ensures.cases in
    let none : cut (codes "..") c.args.range.now ≡ None = is ∙ ap (option_map texts) c.in_default.is in
    sym (range_in-none c.args.group c.args.range.now none)

pub returns-in_default-2-clause-range : goal.returns-in_default-2-clause-range
returns-in_default-2-clause-range c =
    let is = split_once-is (codes "..") c.args.range.now c.split_once.result (omega arith) c.split_once.ensures.cases in
    let found : cut (codes "..") c.args.range.now ≡ Some (c.in-Some.one.now, c.in-Some.other.now) = is ∙ ap (option_map texts) c.in-Some.is in
    let said = range_in-cut c.args.group c.args.range.now _ _ _ _ found c.small_number.ensures c.small_number-2.ensures in
    sym (said ∙ ap (range_between c.args.group c.small_number.result) c.in_default-2.is-1 ∙ range_between-one c.args.group c.small_number.result)

pub returns-in_default-2-2-clause-range : goal.returns-in_default-2-2-clause-range
returns-in_default-2-2-clause-range c =
    let is = split_once-is (codes "..") c.args.range.now c.split_once.result (omega arith) c.split_once.ensures.cases in
    let found : cut (codes "..") c.args.range.now ≡ Some (c.in-Some.one.now, c.in-Some.other.now) = is ∙ ap (option_map texts) c.in-Some.is in
    let said = range_in-cut c.args.group c.args.range.now _ _ _ _ found c.small_number.ensures c.small_number-2.ensures in
    sym (said ∙ ap (λ o. range_between c.args.group o c.small_number-2.result) c.in_default-2.is-0)

pub returns-then-lines-high-clause-range : goal.returns-then-lines-high-clause-range
returns-then-lines-high-clause-range c =
    let is = split_once-is (codes "..") c.args.range.now c.split_once.result (omega arith) c.split_once.ensures.cases in
    let found : cut (codes "..") c.args.range.now ≡ Some (c.in-Some.one.now, c.in-Some.other.now) = is ∙ ap (option_map texts) c.in-Some.is in
    let said = range_in-cut c.args.group c.args.range.now _ _ _ _ found c.small_number.ensures c.small_number-2.ensures in
    let over : lines c.args.group ≤ max c.in-Some-Some.one c.in-Some-Some.other = rw (← c.lines.ensures, ← c.max-high.ensures) c.if-lines-high.true in
    let numbers = rw (c.in-Some-Some.is-0, c.in-Some-Some.is-1) at said in
    sym (numbers ∙ range_between-over c.args.group _ _ over)

pub returns-clause-range : goal.returns-clause-range
returns-clause-range c =
    let is = split_once-is (codes "..") c.args.range.now c.split_once.result (omega arith) c.split_once.ensures.cases in
    let found : cut (codes "..") c.args.range.now ≡ Some (c.in-Some.one.now, c.in-Some.other.now) = is ∙ ap (option_map texts) c.in-Some.is in
    let said = range_in-cut c.args.group c.args.range.now _ _ _ _ found c.small_number.ensures c.small_number-2.ensures in
    let fits : max c.in-Some-Some.one c.in-Some-Some.other < lines c.args.group = rw (← c.lines.ensures, ← c.max-high.ensures) c.if-lines-high.false in
    let numbers = rw (c.in-Some-Some.is-0, c.in-Some-Some.is-1) at said in
    rw (c.min-low.ensures, c.max-high.ensures) (sym (numbers ∙ range_between-all c.args.group _ _ fits))
